-- `dock_layout::dock_in` meets its contract.
-- Assumes nothing.
use mir.Syntax.{w32}
use Rattle.numbers.proofs.Laws.{le-read}
use Rattle.dock_layout.specs.Layout.{dock_in}
use Rattle.dock_layout.proofs.dock_in.Goals as goal

pub returns : goal.returns
unfolding dock_in
returns c =
    let retries = le-read w32 2 _ c.from_le_bytes.ensures c.bytes_at.ensures in
    let frames = le-read w32 6 _ c.from_le_bytes-2.ensures c.bytes_at-2.ensures in
    simp (← c.flat_in.ensures, ← c.stage_in.ensures, ← c.byte_at.ensures, ← retries, ← frames)
