-- `chip_sums::slot` meets its contract: the code blocks first, then the data blocks.
-- Assumes nothing.
use Rattle.chip_sums.specs.Sums.{slot}
use Rattle.chip_sums.proofs.slot.Goals as goal

pub returns-in-CodeFlash : goal.returns-in-CodeFlash
unfolding slot
returns-in-CodeFlash c = simp c.in-CodeFlash.is

pub returns-in-DataFlash : goal.returns-in-DataFlash
unfolding slot
returns-in-DataFlash c = simp c.in-DataFlash.is
