-- `console::fill`: each read makes the rest of the buffer shorter, and what was filled is what was consumed.
use Rattle.std.proofs.Common.{◌≡◌, ◌-◌, ◌≤◌, length, take}
use Rattle.std.specs.Io.KnownBytes.{Consumes}
use Rattle.console.proofs.fill.Given as goal

abbrev pub invariant-loop-n : goal.invariant-loop-n
invariant-loop-n g l = (length l.buf ≡ length l.initial.buf) × (l.n ≤ length l.buf)
    × Consumes (g.R.Read.remaining l.initial.from) (g.R.Read.remaining l.from) (take l.n l.buf)

abbrev pub decreases-loop-n : goal.decreases-loop-n
decreases-loop-n g l = length l.initial.buf - l.n
