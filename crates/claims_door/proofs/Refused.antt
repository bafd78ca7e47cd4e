-- A call of the door that is refused changes nothing, the numbers told included: "State and lent bytes stay."
-- Assumes nothing.
use mathlib.Core.List.{List}
use mathlib.Core.Path.{◌≡◌, ap, refl}
use Prim.Native.Nat.{ℕ}
use lib.ListN.{length}
use Rattle.chip.specs.Step.{Reaction, fresh_of, react_to, settled, step_of}
use Rattle.chip_reply.specs.declared.Sent.{Sent}
use Rattle.std.specs.Prelude.{Err, Ok, Result}
use Rattle.chip.specs.declared.Event.{Event}
use Rattle.chip_core.specs.Effect.{Flash, Memory}
use Rattle.chip_door.specs.Calls.{answered_by, fed_by, fed_through, fresh_through, made_by, stepped_by, stepped_through, summed_through, sums_told}
use Rattle.chip_layout.specs.Admission.{acceptance_number, chip_acceptance, chip_admission}
use Rattle.chip_layout.specs.Layout.{chip_in}
use Rattle.chip_state.specs.Refusals.{verdict_on}
use Rattle.chip_state.specs.declared.Chip.{Chip}
use Rattle.chip_sums.specs.Sums.{flash_verdict, summed_by, worked_out}
use Rattle.claims_door.specs.Kept.{StepKept}
use Rattle.frame.specs.Collector.{heard}
use Rattle.part.specs.Refusal.{number}
use Rattle.part.specs.declared.Part.{Part}
use Rattle.part.specs.declared.refusal.Refusal.{Refusal}

-- The chip is asked, and refuses: it leaves flash, sums and room as they were.
asked : (u : Result Unit Refusal) (p : Part) (x : Reaction) (c : Chip) (told state : List ℕ) (m : Memory) (room : List ℕ)
    → ((answered_by (settled u p x c m room).answer (settled u p x c m room) told state).refusal ≡ 0 → ⊥)
    → StepKept (answered_by (settled u p x c m room).answer (settled u p x c m room) told state) told state m room
unfolding settled answered_by
asked (Err r) p x c told state m room h = record { told_stays = refl; state_stays = refl; memory_stays = refl; room_stays = refl }
asked (Ok _) p x c told state m room h = absurd (h refl)

step_kept : (u : Result Unit Refusal) (p : Part) (v : Event) (told state : List ℕ) (m : Memory) (room : List ℕ) → ((stepped_by u p v told state m room).refusal ≡ 0 → ⊥)
    → StepKept (stepped_by u p v told state m room) told state m room
unfolding stepped_by step_of
step_kept (Err r) p v told state m room h = record { told_stays = refl; state_stays = refl; memory_stays = refl; room_stays = refl }
step_kept (Ok _) p v told state m room h =
    let c = chip_in state in
    asked (verdict_on p c (length m.flash.code_flash) (length m.flash.data_flash) (length room)) p (react_to v p c.core (heard c.collector) m) c told state m room h

-- Every event's call, whatever part and whatever bytes are handed in.
pub refused-keeps : (p : Part) (v : Event) (told state : List ℕ) (m : Memory) (room : List ℕ) → ((stepped_through p v told state m room).refusal ≡ 0 → ⊥)
    → StepKept (stepped_through p v told state m room) told state m room
unfolding stepped_through
refused-keeps p v told state m room h =
    step_kept (chip_admission p state (length m.flash.code_flash) (length m.flash.data_flash)) p v told state m room h

feed-kept : (u : Result Unit Refusal) (p : Part) (bs told state : List ℕ) (m : Memory) (room : List ℕ) → ((fed_by u p bs told state m room).refusal ≡ 0 → ⊥)
    → StepKept (fed_by u p bs told state m room) told state m room
unfolding fed_by
feed-kept (Err r) p bs told state m room h = record { told_stays = refl; state_stays = refl; memory_stays = refl; room_stays = refl }
feed-kept (Ok _) p bs told state m room h = absurd (h refl)

-- Every stretch, an empty one too.
pub refused-feed-keeps : (p : Part) (bs told state : List ℕ) (m : Memory) (room : List ℕ) → ((fed_through p bs told state m room).refusal ≡ 0 → ⊥)
    → StepKept (fed_through p bs told state m room) told state m room
unfolding fed_through
refused-feed-keeps p bs told state m room h =
    feed-kept (chip_acceptance p state (length m.flash.code_flash) (length m.flash.data_flash) (length room)) p bs told state m room h

fresh_kept : (a : Result Sent Refusal) (c : Chip) (state : List ℕ) → ((made_by a c state).refusal ≡ 0 → ⊥) → (made_by a c state).state ≡ state
unfolding made_by
fresh_kept (Err r) c state h = refl
fresh_kept (Ok sent) c state h = absurd (h refl)

pub refused-fresh-keeps : (p : Part) (state : List ℕ) → ((fresh_through p state).refusal ≡ 0 → ⊥) → (fresh_through p state).state ≡ state
unfolding fresh_through
refused-fresh-keeps p state h = fresh_kept (fresh_of p).answer (fresh_of p).chip state h

sums_kept : (v : Result Unit Refusal) (p : Part) (m : Flash) (s : List ℕ) → (acceptance_number (summed_by v p m s).verdict ≡ 0 → ⊥) → (summed_by v p m s).sums ≡ s
unfolding summed_by acceptance_number
sums_kept (Err r) p m s h = refl
sums_kept (Ok _) p m s h = absurd (h refl)

pub refused-sums-keep : (p : Part) (m : Flash) (s : List ℕ) → ((summed_through p m s).refusal ≡ 0 → ⊥) → (summed_through p m s).sums ≡ s
unfolding summed_through worked_out
refused-sums-keep p m s h = sums_kept (flash_verdict p (length m.code_flash) (length m.data_flash)) p m s h

-- What is told of it: the refusal's number, or 0 with the sums as they were worked out.
pub sums-told : (p : Part) (m : Flash) (s : List ℕ) (r : Refusal) → (worked_out p m s).verdict ≡ Err r → (summed_through p m s).refusal ≡ number r
unfolding summed_through acceptance_number
sums-told p m s r e = ap acceptance_number e

pub sums-done : (p : Part) (m : Flash) (s : List ℕ) → (worked_out p m s).verdict ≡ Ok tt → summed_through p m s ≡ sums_told 0 (worked_out p m s).sums
unfolding summed_through acceptance_number
sums-done p m s e = ap (λ (v : Result Unit Refusal). sums_told (acceptance_number v) (worked_out p m s).sums) e
