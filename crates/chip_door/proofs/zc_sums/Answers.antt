-- `chip_door::zc_sums` meets its contract: the call's verdict as a number, and the sums as it left them.
-- Assumes nothing.
use Rattle.chip_door.proofs.Laws.{sums-answered}
use Rattle.chip_door.proofs.zc_sums.Goals as goal

pub returns : goal.returns
returns c = sums-answered _ _ _ c.part_in.ensures c.work_out.ensures c.number_of.ensures
