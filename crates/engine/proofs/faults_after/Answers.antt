-- `engine::faults_after` meets its contract: a good judgement counts as none.
-- Assumes nothing.
use Rattle.words.specs.Words.{if◌then◌otherwise◌}
use Rattle.engine.proofs.faults_after.Goals as goal

pub returns-then-is_good : goal.returns-then-is_good
unfolding if◌then◌otherwise◌
returns-then-is_good c = simp (← c.is_good.ensures, c.if-is_good.true)

pub returns : goal.returns
unfolding if◌then◌otherwise◌
returns c = simp (← c.is_good.ensures, c.if-is_good.false)
