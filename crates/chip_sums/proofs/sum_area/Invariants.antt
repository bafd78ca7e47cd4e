-- `chip_sums::sum_area` meets its contract: the blocks before the one that the loop has come to are summed, the other slots still stand.
-- Assumes nothing.
use mathlib.Core.Path.{◌≡◌}
use Prim.Native.Nat.{◌-◌, ◌≤◌}
use lib.ListN.{length}
use Rattle.chip_core.specs.Effect.{flash}
use Rattle.chip_sums.proofs.Laws.{SummedTo}
use Rattle.part.specs.Part.{blocks}
use Rattle.chip_sums.proofs.sum_area.Given as goal

abbrev pub invariant-loop-block : goal.invariant-loop-block
invariant-loop-block l = (l.block ≤ l.block-end) × (l.block-end ≡ blocks l.part l.area) × (length l.sums ≡ length l.initial.sums) × SummedTo l.part l.area (flash l.code l.data) l.initial.sums l.block l.sums

abbrev pub decreases-loop-block : goal.decreases-loop-block
decreases-loop-block l = l.block-end - l.block
