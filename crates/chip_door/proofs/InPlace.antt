-- A call that is accepted on bytes that are a state: where the event only drops what is collected, or only adds a byte to it, what is written in place is what the
-- step leaves. And a call that is refused, by the verdict alone.
-- Assumes nothing.
use mathlib.Core.Bool.{true}
use mathlib.Core.List.{List, [], ◌∷◌}
use mathlib.Core.Path.{◌∙◌, ◌≡◌, ap, refl, sym}
use Prim.Native.Nat.{ℕ}
use native.Mathlib.Omega.{arith}
use lib.ListN.{length}
use Rattle.frame.proofs.Laws.Sum.{Below}
use Rattle.frame.specs.Collector.{added}
use Rattle.part.specs.Refusal.{number}
use Rattle.part.specs.declared.Part.{Part}
use Rattle.part.specs.declared.refusal.Refusal.{Refusal}
use Rattle.std.specs.Prelude.{Err, Ok, Result}
use Rattle.chip_core.specs.Effect.{Memory}
use Rattle.chip_state.specs.Refusals.{verdict_on}
use Rattle.chip_state.specs.declared.Chip.{Chip}
use Rattle.chip_layout.proofs.Laid.{added-lacks, added-within, byte-laid, collected-long, gap-laid, left-to-chip, refused-before}
use Rattle.chip_layout.proofs.Laws.{accepted-admits, chip-accepts, chip-in-is}
use Rattle.chip_layout.specs.Admission.{chip_acceptance, chip_admission}
use Rattle.chip_layout.specs.InPlace.{byte_laid, count_laid, is_added}
use Rattle.chip_layout.specs.Layout.{chip_bytes, chip_in, collector_in, core_in, state_size}
use Rattle.chip.proofs.Adding.{byte-adds}
use Rattle.chip.proofs.Quiet.{gap-drops}
use Rattle.chip.proofs.Settling.{step-barred}
use Rattle.chip.specs.Run.{before}
use Rattle.chip.specs.Step.{Outcome, step_of}
use Rattle.chip.specs.declared.Event.{Event}
use Rattle.chip.specs.declared.Event.TheVariants.{Byte, Gap}
use Rattle.chip_door.specs.Calls.{answered_by, step_told, stepped_by, stepped_through}

-- The verdicts on a call, before the chip is asked and in all.
abbrev admission_at : Part → List ℕ → Memory → Result Unit Refusal
admission_at p s m = chip_admission p s (length m.flash.code_flash) (length m.flash.data_flash)

abbrev pub acceptance_at : Part → List ℕ → Memory → List ℕ → Result Unit Refusal
acceptance_at p s m room = chip_acceptance p s (length m.flash.code_flash) (length m.flash.data_flash) (length room)

admitted : (p : Part) (s : List ℕ) (m : Memory) (room : List ℕ) → acceptance_at p s m room ≡ Ok tt → admission_at p s m ≡ Ok tt
admitted p s m room e = go (admission_at p s m) refl
  where
    go : (v : Result Unit Refusal) → admission_at p s m ≡ v → admission_at p s m ≡ Ok tt
    go (Ok _) f = f
    go (Err r) f =
        let x : (Ok tt) ≡ Err r = sym e ∙ refused-before p s (length m.flash.code_flash) (length m.flash.data_flash) (length room) r f in
        absurd (let z : ◌≡◌ {A = ℕ} 0 1 = cc in omega arith)

-- A step that answers nothing, by the chip that is read and the chip that it leaves.
abbrev held : List ℕ → Chip
held s = record { core = core_in s; collector = collector_in s }

-- No reply, no fault.
abbrev pub nothing_told : List ℕ
nothing_told = 0 ∷ 0 ∷ 0 ∷ 0 ∷ []

quiet-steps : (p : Part) (v : Event) (told s l : List ℕ) (c : Chip) (m : Memory) (room : List ℕ) → acceptance_at p s m room ≡ Ok tt
    → before c m room ≡ step_of p (held s) v m room → l ≡ chip_bytes c → step_told 0 nothing_told l m room ≡ stepped_through p v told s m room
unfolding stepped_through stepped_by answered_by
quiet-steps p v told s l c m room e f g =
    ap (λ (x : List ℕ). step_told 0 nothing_told x m room) g
    ∙ ap (λ (o : Outcome). answered_by o.answer o told s) (f ∙ ap (λ (d : Chip). step_of p d v m room) (sym (chip-in-is s)))
    ∙ ap (λ (u : Result Unit Refusal). stepped_by u p v told s m room) (sym (admitted p s m room e))

held-accepted : (p : Part) (s : List ℕ) (m : Memory) (room : List ℕ) → acceptance_at p s m room ≡ Ok tt
    → verdict_on p (held s) (length m.flash.code_flash) (length m.flash.data_flash) (length room) ≡ Ok tt
held-accepted p s m room e =
    ap (λ (c : Chip). verdict_on p c (length m.flash.code_flash) (length m.flash.data_flash) (length room)) (sym (chip-in-is s)) ∙ chip-accepts p s _ _ _ e

-- A gap.
pub gap-steps : (p : Part) (told s : List ℕ) (m : Memory) (room : List ℕ) → Below 256 s → length s ≡ state_size → acceptance_at p s m room ≡ Ok tt
    → step_told 0 nothing_told (count_laid 0 s) m room ≡ stepped_through p Gap told s m room
gap-steps p told s m room b h e =
    quiet-steps p Gap told s (count_laid 0 s) _ m room e (gap-drops p (held s) m room (held-accepted p s m room e)) (gap-laid s b h (accepted-admits p s _ _ _ e))

-- A byte that is only added.
pub byte-steps : (p : Part) (b : ℕ) (told s : List ℕ) (m : Memory) (room : List ℕ) → Below 256 s → length s ≡ state_size → acceptance_at p s m room ≡ Ok tt
    → is_added s ≡ true → step_told 0 nothing_told (byte_laid b s) m room ≡ stepped_through p (Byte b) told s m room
byte-steps p b told s m room w h e f =
    quiet-steps p (Byte b) told s (byte_laid b s) _ m room e
    (byte-adds p (held s) (added (collector_in s) (b ∷ [])) (Byte b) b _ m room (collected-long s h) (held-accepted p s m room e) refl (added-lacks s f) refl refl)
    (byte-laid s b w h (accepted-admits p s _ _ _ e) (added-within s w f))

-- A refused call: by the verdict before the chip is asked, or by the chip's own.
pub refused-steps : (p : Part) (v : Event) (told s : List ℕ) (m : Memory) (room : List ℕ) (r : Refusal) → acceptance_at p s m room ≡ Err r
    → step_told (number r) told s m room ≡ stepped_through p v told s m room
unfolding stepped_through stepped_by answered_by
refused-steps p v told s m room r e = go (admission_at p s m) refl
  where
    go : (u : Result Unit Refusal) → admission_at p s m ≡ u → step_told (number r) told s m room ≡ stepped_by (admission_at p s m) p v told s m room
    go (Err q) f =
        let x : Err r ≡ Err q = sym e ∙ refused-before p s (length m.flash.code_flash) (length m.flash.data_flash) (length room) q f in
        ap (λ (u : Result Unit Refusal). stepped_by u p v told s m room) (x ∙ sym f)
    go (Ok _) f =
        let x : verdict_on p (chip_in s) (length m.flash.code_flash) (length m.flash.data_flash) (length room) ≡ Err r = sym (left-to-chip p s _ _ _ f) ∙ e in
        ap (λ (o : Outcome). answered_by o.answer o told s) (step-barred p (chip_in s) v m room r x)
        ∙ ap (λ (u : Result Unit Refusal). stepped_by u p v told s m room) (sym f)
