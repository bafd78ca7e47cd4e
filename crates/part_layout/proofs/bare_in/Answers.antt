-- `part_layout::bare_in` meets its contract.
-- Assumes nothing.
use Rattle.part_layout.proofs.Laws.{bare-part-is}
use Rattle.part_layout.proofs.bare_in.Goals as goal

pub returns : goal.returns
returns c = bare-part-is _ c.from.ensures c.from-2.ensures c.from-3.ensures
