-- `chip_door::zc_feed` meets its contract.
-- Assumes nothing.
use Rattle.chip_door.proofs.Laws.{fed-told}
use Rattle.chip_door.specs.Calls.{fed_by, fed_through}
use Rattle.chip_layout.proofs.Laws.{refused-number}
use Rattle.chip_door.proofs.zc_feed.Goals as goal

pub returns-in-Err : goal.returns-in-Err
unfolding fed_through fed_by
returns-in-Err c = rw (← c.part_in-p.ensures, ← c.chip_acceptance.ensures, c.in-Err.is, c.number_of.ensures, ← refused-number)

pub returns : goal.returns
returns c =
    fed-told _ _ _ _ _ _ _ c.part_in-p.ensures c.chip_acceptance.ensures c.in_default.is c.chip_in-chip.ensures c.feed-f.ensures c.fault-fault.ensures c.lay_chip.ensures
    c.bytes_told.ensures c.frames_told.ensures
