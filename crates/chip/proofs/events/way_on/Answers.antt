-- `chip::events::way_on` meets its contract: whether the byte completes a frame decides.
-- Assumes nothing.
use Rattle.chip.specs.Inner.Ways.{way_on}
use Rattle.words.specs.Words.{if◌then◌otherwise◌}
use Rattle.chip.proofs.events.way_on.Goals as goal

pub returns-then-completes : goal.returns-then-completes
unfolding way_on if◌then◌otherwise◌
returns-then-completes c = simp (← c.completes.ensures, c.if-completes.true)

pub returns : goal.returns
unfolding way_on if◌then◌otherwise◌
returns c = simp (← c.completes.ensures, c.if-completes.false)
