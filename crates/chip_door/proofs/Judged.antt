-- A call that is judged by its number on the part without its names: refused with that number, or accepted and written where the state lies.
-- Assumes nothing.
use mathlib.Core.Bool.{Bool, true}
use mathlib.Core.List.{List}
use mathlib.Core.Path.{◌∙◌, ◌≡◌, ap, sym}
use Prim.Native.Nat.{◌<◌, ℕ}
use lib.ListN.{get_or, length}
use Rattle.chip.specs.declared.Event.{Event}
use Rattle.chip.specs.declared.Event.TheVariants.{Byte, Gap}
use Rattle.chip_core.specs.Effect.{Memory}
use Rattle.chip_door.proofs.InPlace.{acceptance_at, byte-steps, gap-steps, nothing_told, refused-steps}
use Rattle.chip_door.specs.Calls.{step_told, stepped_through}
use Rattle.chip_layout.proofs.Laws.{judge-bare, judged-accepted, judged-refused}
use Rattle.chip_layout.specs.Admission.{acceptance_number}
use Rattle.chip_layout.specs.InPlace.{byte_laid, count_laid, is_added}
use Rattle.chip_layout.specs.Layout.{state_size}
use Rattle.frame.proofs.Laws.Sum.{below_each}
use Rattle.part.specs.Part.{bare}
use Rattle.part.specs.declared.Part.{Part}

pub refused-told : {n : ℕ} {q : Part} (p : Part) (v : Event) (told s : List ℕ) (m : Memory) (room : List ℕ) → n ≡ acceptance_number (acceptance_at q s m room) → q ≡ bare p
    → (n ≡ 0 → ⊥) → step_told n told s m room ≡ stepped_through p v told s m room
refused-told p v told s m room e f z =
    let x = judged-refused p s _ _ _ (judge-bare p s _ _ _ e f) z in
    ap (λ (n : ℕ). step_told n told s m room) x.is ∙ refused-steps p v told s m room x.refusal x.refused

pub gap-told : {n : ℕ} {q : Part} {t : List ℕ} (p : Part) (told s : List ℕ) (m : Memory) (room : List ℕ) → ((i : ℕ) → get_or s i 0 < 256) → length s ≡ state_size
    → n ≡ acceptance_number (acceptance_at q s m room) → q ≡ bare p → n ≡ 0 → t ≡ count_laid 0 s
    → step_told 0 nothing_told t m room ≡ stepped_through p Gap told s m room
gap-told p told s m room b h e f z g =
    ap (λ (t : List ℕ). step_told 0 nothing_told t m room) g
    ∙ gap-steps p told s m room (below_each s b) h (judged-accepted p s _ _ _ (judge-bare p s _ _ _ e f) z)

pub byte-told : {n : ℕ} {q : Part} {t : List ℕ} {u : Bool} (p : Part) (b : ℕ) (told s : List ℕ) (m : Memory) (room : List ℕ) → ((i : ℕ) → get_or s i 0 < 256)
    → length s ≡ state_size → u ≡ is_added s → u ≡ true → n ≡ acceptance_number (acceptance_at q s m room) → q ≡ bare p → n ≡ 0 → t ≡ byte_laid b s
    → step_told 0 nothing_told t m room ≡ stepped_through p (Byte b) told s m room
byte-told p b told s m room w h i k e f z g =
    ap (λ (t : List ℕ). step_told 0 nothing_told t m room) g
    ∙ byte-steps p b told s m room (below_each s w) h (judged-accepted p s _ _ _ (judge-bare p s _ _ _ e f) z) (sym i ∙ k)
