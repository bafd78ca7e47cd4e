-- `chip::events::way_in` meets its contract: what the phase hears decides which header is awaited.
-- Assumes nothing.
use Rattle.chip.specs.Inner.Ways.{way_of}
use Rattle.chip.proofs.events.way_in.Goals as goal

pub returns-in-HearsNothing : goal.returns-in-HearsNothing
unfolding way_of
returns-in-HearsNothing c = simp (← c.hearing.ensures, c.in-HearsNothing.is)

pub returns-in-HearsCommands : goal.returns-in-HearsCommands
unfolding way_of
returns-in-HearsCommands c = simp (← c.hearing.ensures, c.in-HearsCommands.is, ← c.way_on.ensures)

pub returns-in-HearsData : goal.returns-in-HearsData
unfolding way_of
returns-in-HearsData c = simp (← c.hearing.ensures, c.in-HearsData.is, ← c.way_on-in-HearsData.ensures)
