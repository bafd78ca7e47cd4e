-- `chip_work::erase_in` meets its contract: the area decides which slice is erased.
-- Assumes nothing.
use Rattle.chip_work.specs.Work.{erased_in}
use Rattle.chip_work.proofs.erase_in.Goals as goal

pub returns-in-CodeFlash : goal.returns-in-CodeFlash
unfolding erased_in
returns-in-CodeFlash c = simp (c.in-CodeFlash.is, ← c.erase.ensures)

pub returns-in-DataFlash : goal.returns-in-DataFlash
unfolding erased_in
returns-in-DataFlash c = simp (c.in-DataFlash.is, ← c.erase-in-DataFlash.ensures)
