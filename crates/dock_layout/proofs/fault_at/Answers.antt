-- `dock_layout::fault_at` meets its contract.
-- Assumes nothing.
use mir.Syntax.{w16}
use Rattle.numbers.proofs.Laws.{le-read}
use Rattle.dock_layout.specs.Layout.{fault_at}
use Rattle.dock_layout.proofs.fault_at.Goals as goal

pub returns : goal.returns
unfolding fault_at
returns c = let place = le-read w16 24 _ c.from_le_bytes.ensures c.bytes_at.ensures in simp (← c.byte_at.ensures, ← place)
