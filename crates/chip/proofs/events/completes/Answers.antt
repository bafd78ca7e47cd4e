-- `chip::events::completes` meets its contract: the counts are compared as the definition does.
-- Assumes nothing.
use native.Mathlib.Omega.{arith}
use borrow.Author.Rules.{rules}
use borrow.Author.Tests.{le-leb}
use Rattle.chip.specs.Inner.Ways.{completes_at}
use Rattle.frame.proofs.Laws.Frame.{counted-small}
use Rattle.words.specs.Words.{◌and◌}
use Rattle.chip.proofs.events.completes.Goals as goal

pub returns-else-count-ge2 : goal.returns-else-count-ge2
unfolding completes_at ◌and◌
returns-else-count-ge2 c = search rules

pub overflow_add-result : goal.overflow_add-result
overflow_add-result c = omega (arith, counted-small c.args.len (search rules))

pub returns-then-count-ge2 : goal.returns-then-count-ge2
unfolding completes_at ◌and◌
returns-then-count-ge2 c = simp (le-leb _ _ c.if-count-ge2.true, ← c.counted.ensures)
