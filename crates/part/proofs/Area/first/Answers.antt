-- `part::Area::first` meets its contract: each area has its own first address. (A file of its own, so that a wrong address is refused here.)
-- Assumes nothing.
use Rattle.part.proofs.Area.first.Goals as goal

pub returns-in-CodeFlash : goal.returns-in-CodeFlash
returns-in-CodeFlash c = simp c.in-CodeFlash.is

pub returns-in-DataFlash : goal.returns-in-DataFlash
returns-in-DataFlash c = simp c.in-DataFlash.is
