-- `dock_layout::flat_in` meets its contract.
-- Assumes nothing.
use mir.Syntax.{w32}
use Rattle.numbers.proofs.Laws.{le-read}
use Rattle.dock_layout.proofs.Laws.{flat-is}
use Rattle.dock_layout.proofs.flat_in.Goals as goal

pub returns : goal.returns
returns c =
    let block = le-read w32 11 _ c.from_le_bytes.ensures c.bytes_at.ensures in
    let page = le-read w32 16 _ c.from_le_bytes-2.ensures c.bytes_at-2.ensures in
    flat-is _ c.byte_at.ensures c.byte_at-2.ensures block c.named_in.ensures c.byte_at-3.ensures page c.named_in-2.ensures
    c.byte_at-4.ensures c.byte_at-5.ensures c.byte_at-6.ensures c.fault_at.ensures
