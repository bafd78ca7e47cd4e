-- The records of a capture, and what lies where in one: specs/Records.
-- Assumes nothing.
use mathlib.Core.List.{List, [], ◌++◌, ◌∷◌, append_assoc}
use mathlib.Core.Path.{◌∙◌, ◌≡◌, ap, refl, subst, sym}
use Prim.Native.Nat.{◌%◌, ◌+◌, ◌-◌, ◌≤◌, suc, zero, ℕ}
use native.Mathlib.Decide.{dec_le}
use native.Mathlib.Omega.{arith}
use lib.ListN.{drop, drop_of_length-le, length, length-append, length-drop, take, take-append-drop}
use lib.Seq.{drop_at, length-take-le, take_all, take_at}
use Rattle.claims_capture.specs.Records.{Cut, RecordsAppend, RecordsAre, RecordsOnly, last, next, none}
use Rattle.replay_capture.proofs.Laws.{records_is, records-next, records-none, size-least}
use Rattle.replay_capture.specs.Capture.{record_size, records_in}
use Rattle.replay_capture.specs.declared.Form.{Form}
use Rattle.replay_capture.specs.declared.Form.TheVariants.{New, Old}

are-in : (size most : ℕ) (bs : List ℕ) → 1 ≤ size → length bs ≤ most → Cut size bs (records_in size most bs)
unfolding records_in
are-in size zero [] s h = none refl
are-in size zero (b ∷ bs) s h = absurd (omega arith)
are-in size (suc most) [] s h = none refl
are-in size (suc most) (b ∷ bs) s h =
    go (dec_le (length (b ∷ bs)) size) (are-in size most (drop size (b ∷ bs)) s (rw length-drop (omega arith)))
  where
    go : Dec (length (b ∷ bs) ≤ size) → Cut size (drop size (b ∷ bs)) (records_in size most (drop size (b ∷ bs)))
        → Cut size (b ∷ bs) (take size (b ∷ bs) ∷ records_in size most (drop size (b ∷ bs)))
    go (yes k) c = rw (take_all size (b ∷ bs) k, drop_of_length-le (b ∷ bs) k, records-none size most) (last {capture = b ∷ bs} (omega arith) k)
    go (no k) c = next (take size (b ∷ bs)) (sym (take-append-drop size (b ∷ bs))) (length-take-le size (b ∷ bs) (omega arith)) c

pub records-are : RecordsAre
records-are size capture s = rw records_is (are-in size (length capture) capture s (omega arith))

only-in : {size : ℕ} {bs : List ℕ} {rs : List (List ℕ)} (most : ℕ) → 1 ≤ size → length bs ≤ most → Cut size bs rs → records_in size most bs ≡ rs
only-in {size} most s h (none e) = rw (e, records-none)
only-in {size} {bs} most s h (last k l) = rw (records-next size most bs k (omega arith), take_all size bs l, drop_of_length-le bs l, records-none)
only-in {size} {bs} most s h (next {rest = rest} r e l c) =
    let n : length bs ≡ length r + length rest = ap length e ∙ length-append r rest in
    records-next size most bs (omega arith) (omega arith)
    ∙ ap (λ (z : List ℕ). take size z ∷ records_in size (most - 1) (drop size z)) e
    ∙ rw (take_at r rest size l, drop_at r rest size l, only-in (most - 1) s (omega arith) c)

pub records-only : RecordsOnly
records-only size capture rs s c = records_is size capture ∙ only-in (length capture) s (omega arith) c

-- Whole records and then more.
whole-last : (form : Form) (n : ℕ) → n % record_size form ≡ 0 → 1 ≤ n → n ≤ record_size form → n ≡ record_size form
whole-last Old n w h k = omega (arith, w)
whole-last New n w h k = omega (arith, w)

whole-rest : (form : Form) (n m : ℕ) → n ≡ record_size form + m → n % record_size form ≡ 0 → m % record_size form ≡ 0
whole-rest Old n m e w = omega (arith, w)
whole-rest New n m e w = omega (arith, w)

cut-append : (form : Form) {a b : List ℕ} {rs ss : List (List ℕ)} → Cut (record_size form) a rs → length a % record_size form ≡ 0 → Cut (record_size form) b ss
    → Cut (record_size form) (a ++ b) (rs ++ ss)
cut-append form {a} {b} {ss = ss} (none e) w c = subst (λ (l : List ℕ). Cut (record_size form) (l ++ b) ss) (sym e) c
cut-append form {a} (last h k) w c = next a refl (whole-last form (length a) w h k) c
cut-append form {a} {b} (next {rest = rest} r e l d) w c =
    let n : length a ≡ record_size form + length rest = ap length e ∙ length-append r rest ∙ ap (λ (k : ℕ). k + length rest) l in
    next r (ap (λ (z : List ℕ). z ++ b) e ∙ append_assoc r rest b) l (cut-append form d (whole-rest form (length a) (length rest) n w) c)

pub records-append : RecordsAppend
records-append form a b w =
    records-only (record_size form) (a ++ b) _ (size-least form)
    (cut-append form (records-are (record_size form) a (size-least form)) w (records-are (record_size form) b (size-least form)))
