-- `part_layout::part_in` meets its contract.
-- Assumes nothing.
use Rattle.part_layout.proofs.Laws.{part-is}
use Rattle.part_layout.proofs.part_in.Goals as goal

pub returns : goal.returns
returns c = part-is _ c.from.ensures c.from-2.ensures c.from-3.ensures c.bytes_at.ensures c.bytes_at-2.ensures c.bytes_at-3.ensures
