-- `engine::play_from` meets its contract: what the bytes still to come make of where the engine stands stays the same from turn to turn.
-- Assumes nothing.
use mathlib.Core.Bool.{true}
use mathlib.Core.Path.{◌≡◌}
use Prim.Native.Nat.{◌-◌, ◌<◌, ℕ}
use lib.ListN.{drop, get_or, length}
use Rattle.chip_core.specs.Effect.{memory}
use Rattle.engine.proofs.Loop.{PlayedFrom}
use Rattle.engine.specs.Engine.{facing, played_out}
use Rattle.engine.specs.Inner.Answering.{stand_of}
use Rattle.part.specs.Part.{described}
use Rattle.engine.proofs.play_from.Given as goal

abbrev pub invariant-loop-i : goal.invariant-loop-i
invariant-loop-i l =
    (described l.part ≡ true)
    × (length l.code ≡ length l.initial.code)
    × (length l.data ≡ length l.initial.data)
    × (length l.room ≡ length l.initial.room)
    × (length l.bytes < 18446744073709551616)
    × ((j : ℕ) → get_or l.bytes j 0 < 256)
    × PlayedFrom l.part l.bytes l.initial.told l.initial.room l.i l.core l.told (memory l.code l.data l.sums) l.room
    (played_out l.part (facing (drop l.at l.bytes) (stand_of l.initial.core l.initial.told (memory l.initial.code l.initial.data l.initial.sums) l.initial.room)))

abbrev pub decreases-loop-i : goal.decreases-loop-i
decreases-loop-i l = length l.bytes - l.i
