-- `chip_pace::steps` meets its contract: what the bytes still to come make of the last step's outcome stays the same from turn to turn.
-- Assumes nothing.
use mathlib.Core.List.{map}
use mathlib.Core.Path.{◌≡◌}
use lib.ListN.{length}
use Rattle.chip_pace.proofs.Laws.{Stepped}
use Rattle.chip.specs.Run.{run}
use Rattle.chip.specs.Step.{outcome}
use Rattle.chip.specs.declared.Event.TheVariants.{Byte}
use Rattle.chip_core.specs.Effect.{memory}
use Rattle.chip_pace.proofs.steps.Given as goal

abbrev pub invariant-loop-b : goal.invariant-loop-b
invariant-loop-b l =
    (length l.code ≡ length l.initial.code)
    × (length l.data ≡ length l.initial.data)
    × (length l.room ≡ length l.initial.room)
    × Stepped l.part l.bytes l.b-index (outcome l.last (memory l.code l.data l.sums) l.room) (run l.part (map Byte l.bytes) (outcome l.initial.last (memory l.initial.code l.initial.data l.initial.sums) l.initial.room))
