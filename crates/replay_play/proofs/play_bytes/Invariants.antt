-- `replay_play::play_bytes` meets its contract: what the bytes still to come make of what was played stays the same from turn to turn.
-- Assumes nothing.
use mathlib.Core.List.{map}
use mathlib.Core.Path.{◌≡◌}
use Prim.Native.Nat.{◌*◌, ◌-◌, ◌≤◌}
use lib.ListN.{length}
use Rattle.part.specs.Part.{Arrays}
use Rattle.chip.specs.declared.Event.TheVariants.{Byte}
use Rattle.chip_core.specs.Effect.{memory}
use Rattle.replay_play.proofs.Laws.{PlayedFrom}
use Rattle.replay_play.specs.Play.{played, before_playing}
use Rattle.replay_play.proofs.play_bytes.Given as goal

abbrev pub invariant-loop-i : goal.invariant-loop-i
invariant-loop-i l =
    (length l.code ≡ length l.initial.code)
    × (length l.data ≡ length l.initial.data)
    × (length l.room ≡ length l.initial.room)
    × (length l.bytes ≤ 8)
    × (32 * length l.bytes ≤ length l.initial.output)
    × Arrays l.part
    × PlayedFrom l.part l.bytes l.last (memory l.code l.data l.sums) l.room l.i l.said l.frames l.initial.output l.output
    (played l.part (map Byte l.bytes) (before_playing l.initial.last (memory l.initial.code l.initial.data l.initial.sums) l.initial.room))

abbrev pub decreases-loop-i : goal.decreases-loop-i
decreases-loop-i l = length l.bytes - l.i
