-- One event through the door, by the chip's answer; a stretch of bytes; and the sums worked out, by the verdict.
-- Assumes nothing.
use mathlib.Core.List.{List, [], ◌∷◌}
use mathlib.Core.Path.{◌≡◌}
use Prim.Native.Nat.{ℕ}
use lib.ListN.{length}
use Rattle.chip.specs.Run.{before}
use Rattle.chip.specs.Step.{Outcome, step_of}
use Rattle.chip_reply.specs.Reply.{sent_as}
use Rattle.std.specs.Prelude.{Err, Ok, Result}
use Rattle.chip.specs.declared.Event.{Event}
use Rattle.chip_core.specs.Effect.{Flash, Memory}
use Rattle.chip_door.specs.Calls.{answered_by, bytes_told, fed_by, fed_through, frames_told, step_told, stepped_by, stepped_through, sums_told, summed_through}
use Rattle.chip_feed.specs.Feed.{Feeding, feed_of}
use Rattle.chip_layout.specs.Admission.{acceptance_number, chip_acceptance, chip_admission}
use Rattle.chip_layout.specs.Layout.{chip_bytes, chip_in}
use Rattle.chip_state.specs.declared.Chip.{Chip}
use Rattle.chip_sums.specs.Sums.{summing, worked_out}
use Rattle.frame.specs.Judgement.{fault_of}
use Rattle.frame.specs.declared.judgement.Fault.{Fault}
use Rattle.part.specs.Refusal.{number}
use Rattle.part.specs.declared.Part.{Part}
use Rattle.part.specs.declared.refusal.Refusal.{Refusal}
use Rattle.part_layout.specs.Layout.{part_in}

pub step-refused : {p : Part} {u : Result Unit Refusal} {c : Chip} {n : ℕ} {r : Refusal} (o : Outcome) (part : List ℕ) (v : Event) (told state : List ℕ) (m : Memory) (room : List ℕ)
    → p ≡ part_in part → u ≡ chip_admission p state (length m.flash.code_flash) (length m.flash.data_flash) → u ≡ Ok tt → c ≡ chip_in state → o ≡ step_of p c v m room
    → o.answer ≡ Err r → n ≡ number r → step_told n told state o.memory o.room ≡ stepped_through (part_in part) v told state m room
unfolding stepped_through stepped_by answered_by
step-refused o part v told state m room e f g h i k l = rw (← e, ← f, g, ← h, ← i, k, l)

pub step-replied : {p : Part} {u : Result Unit Refusal} {c : Chip} {n k : ℕ} {x : Fault} {l : List ℕ} (o : Outcome) (part : List ℕ) (v : Event) (told state : List ℕ) (m : Memory) (room : List ℕ)
    → p ≡ part_in part → u ≡ chip_admission p state (length m.flash.code_flash) (length m.flash.data_flash) → u ≡ Ok tt → c ≡ chip_in state → o ≡ step_of p c v m room
    → o.answer ≡ Ok (sent_as n k) → x ≡ fault_of o.fault → l ≡ chip_bytes o.chip
    → step_told 0 (n ∷ k ∷ x.number ∷ x.place ∷ []) l o.memory o.room ≡ stepped_through (part_in part) v told state m room
unfolding stepped_through stepped_by answered_by
step-replied o part v told state m room e f g h i j x q = rw (← e, ← f, g, ← h, ← i, j, x, q)

-- A stretch that is accepted: all that its last step left.
pub fed-told : {p : Part} {u : Result Unit Refusal} {c : Chip} {n k : ℕ} {x : Fault} {l : List ℕ} (f : Feeding) (part bs told state : List ℕ) (m : Memory) (room : List ℕ)
    → p ≡ part_in part → u ≡ chip_acceptance p state (length m.flash.code_flash) (length m.flash.data_flash) (length room) → u ≡ Ok tt → c ≡ chip_in state
    → f ≡ feed_of p bs (before c m room) → x ≡ fault_of f.left.fault → l ≡ chip_bytes f.left.chip → n ≡ bytes_told f.left.answer → k ≡ frames_told f.left.answer
    → step_told 0 (f.taken ∷ n ∷ k ∷ x.number ∷ x.place ∷ []) l f.left.memory f.left.room ≡ fed_through (part_in part) bs told state m room
unfolding fed_through fed_by
fed-told f part bs told state m room e g h i j x l n k = rw (← e, ← g, h, ← i, ← j, x, l, n, k)

-- All sums worked out, by the verdict on the call.
pub sums-answered : {p : Part} {v : Result Unit Refusal} {t : List ℕ} {n : ℕ} (part : List ℕ) (m : Flash) (s : List ℕ) → p ≡ part_in part → summing v t ≡ worked_out p m s
    → n ≡ acceptance_number v → sums_told n t ≡ summed_through (part_in part) m s
unfolding summed_through
sums-answered part m s e w n = rw (← e, ← w, n)
