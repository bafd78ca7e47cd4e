-- `chip_flash::clear` meets its contract: the new bytes before the place that the loop has come to are in, the others still stand.
-- Assumes nothing.
use Prim.Native.Nat.{◌-◌, ◌≤◌}
use Rattle.chip_flash.proofs.Laws.{Cleared, RunsOut}
use Rattle.chip_flash.proofs.clear.Given as goal

abbrev pub invariant-loop-i : goal.invariant-loop-i
invariant-loop-i l = (l.i ≤ l.end) × RunsOut l.initial.part l.new l.end × Cleared l.initial.part l.new l.i l.part

abbrev pub decreases-loop-i : goal.decreases-loop-i
decreases-loop-i l = l.end - l.i
