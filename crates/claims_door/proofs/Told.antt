-- The numbers of an event and of a stretch are told in that order: specs/Told.
-- Assumes nothing.
use mathlib.Core.Path.{refl}
use Rattle.chip_door.specs.Calls.{answered_by, fed_by}
use Rattle.claims_door.specs.Told.{EventTold, StretchTold}

pub event-told : EventTold
unfolding answered_by
event-told o bytes frames told state = refl

pub stretch-told : StretchTold
unfolding fed_by
stretch-told p bs told state m room = refl
