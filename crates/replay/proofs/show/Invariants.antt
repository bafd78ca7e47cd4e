-- `replay::show`: the frames shown so far are a beginning, and the text keeps its length.
use Rattle.std.proofs.Common.{◌≡◌, ◌-◌, ◌≤◌, length}
use Rattle.replay.proofs.show.Given as goal

abbrev pub invariant-loop-at : goal.invariant-loop-at
invariant-loop-at g l = (l.at ≤ length l.frames) × (l.used ≤ length l.text) × (length l.text ≡ length l.initial.text)

abbrev pub decreases-loop-at : goal.decreases-loop-at
decreases-loop-at g l = length l.frames - l.at
