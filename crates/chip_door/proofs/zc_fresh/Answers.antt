-- `chip_door::zc_fresh` meets its contract.
-- Assumes nothing.
use Rattle.chip_door.specs.Calls.{fresh_through, made_by}
use Rattle.chip_layout.proofs.Laws.{refused-number}
use Rattle.chip_door.proofs.zc_fresh.Goals as goal

pub returns-in-Err : goal.returns-in-Err
unfolding fresh_through made_by
returns-in-Err c = rw (← c.part_in.ensures, ← c.fresh-step.ensures, c.in-Err.is, c.number_of.ensures, ← refused-number)

pub returns : goal.returns
unfolding fresh_through made_by
returns c = rw (← c.part_in.ensures, ← c.fresh-step.ensures, c.in_default.is, ← c.lay_chip.ensures)
