-- `dock_flow::says_not_blank` meets its contract: each test is the definition's, in its order.
-- Assumes nothing.
use borrow.Author.Tests.{eq-eqb, ne_eqb}
use Rattle.dock_flow.proofs.LawsFrames.{alike_is}
use Rattle.dock_flow.specs.Flow.{says_not_blank}
use Rattle.words.specs.Words.{◌and◌}
use Rattle.dock_flow.proofs.says_not_blank.Goals as goal

pub returns-then-com-eq50 : goal.returns-then-com-eq50
unfolding says_not_blank ◌and◌
returns-then-com-eq50 c = simp (← (alike_is _ _ _ c.query_with-query.ensures).cmd, ← c.before.«com».ensures, eq-eqb _ _ c.if-com-eq50.true)

pub returns-else-com-eq50 : goal.returns-else-com-eq50
unfolding says_not_blank ◌and◌
returns-else-com-eq50 c = simp (← (alike_is _ _ _ c.query_with-query.ensures).cmd, ← c.before.«com».ensures, ne_eqb _ _ c.if-com-eq50.false)
