-- `replay_hex::line` meets its contract: what the bytes before i have written stands at the start of the text.
-- Assumes nothing.
use mathlib.Core.Path.{◌≡◌}
use Prim.Native.Nat.{◌*◌, ◌≤◌}
use lib.ListN.{length}
use Rattle.replay_hex.proofs.Laws.{LinedFrom}
use Rattle.replay_hex.proofs.line.Given as goal

abbrev pub invariant-loop-i : goal.invariant-loop-i
invariant-loop-i l = (length l.bytes * 3 ≤ length l.initial.text) × (length l.text ≡ length l.initial.text) × LinedFrom l.bytes l.i l.initial.text l.text
