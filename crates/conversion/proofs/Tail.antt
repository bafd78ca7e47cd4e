-- The bytes that are left while whole records come off a capture, and its tail, which is shorter than one.
-- Assumes nothing.
use mathlib.Core.List.{List, [], ◌++◌, append-nil}
use mathlib.Core.Path.{◌∙◌, ◌≡◌, ap, refl, sym}
use Prim.Native.Nat.{◌*◌, ◌+◌, ◌-◌, ◌<◌, ◌≤◌, ◌/◌, ◌%◌, min, ℕ}
use native.Mathlib.Omega.{arith}
use lib.ListN.{drop, length, length-append}
use Rattle.replay_capture.proofs.Laws.{size-least}
use Rattle.replay_capture.specs.Capture.{record_size}
use Rattle.replay_capture.specs.declared.Form.{Form}
use Rattle.std.proofs.Math.Nat.{add-mod_left, add-mul, mod-eq_of_lt, mod-le, one-mul}
use Rattle.std.proofs.Math.Seq.{drop-append-add}
use Rattle.std.proofs.lemmas.Nat.{div-mul-add}

-- So many records came off the bytes, and of what is left the tail is what stands behind its whole records.
pub record Left (size : ℕ) (bs rest : List ℕ) (k : ℕ) (tail : List ℕ) : Type 0 where
  pub counted : k * size + length rest ≡ length bs
  pub behind : drop (length rest - length rest % size) rest ≡ tail

pub left-start : (size : ℕ) {rest tail : List ℕ} {k : ℕ} (bs : List ℕ) → rest ≡ bs → k ≡ 0 → tail ≡ drop (length bs - length bs % size) bs → Left size bs rest k tail
left-start size bs e z t = rw (e, z, t) (record { counted = omega arith; behind = refl })

pub left-turn : {size : ℕ} {bs rest : List ℕ} {k n : ℕ} {tail : List ℕ} (x next : List ℕ) → rest ≡ x ++ next → length x ≡ size → n ≡ k + 1 → Left size bs rest k tail → Left size bs next n tail
left-turn {size} {bs} {rest} {k} {n} {tail} x next e l i q =
    let long : length rest ≡ size + length next = rw (e, length-append, l) refl in
    let over : length rest % size ≡ length next % size = rw long (add-mod_left size (length next)) in
    let less : length next % size ≤ length next = mod-le (length next) size in
    rw i
    (record {
      counted = rw (add-mul, one-mul) (omega (arith, q.counted, long));
      behind =
          sym (drop-append-add x next (length next - length next % size))
          ∙ ap (λ (m : ℕ). drop m (x ++ next)) (omega (arith, long, over, less, l))
          ∙ ap (λ (l : List ℕ). drop (length rest - length rest % size) l) (sym e)
          ∙ q.behind;
    })

pub left-end : {size : ℕ} {bs rest : List ℕ} {k : ℕ} {tail : List ℕ} → length rest < size → Left size bs rest k tail → (rest ≡ tail) × (length bs / size ≡ k)
left-end {size} {bs} {rest} {k} {tail} h q =
    let none : length rest - length rest % size ≡ 0 = rw (mod-eq_of_lt h) (omega arith) in
    (ap (λ (m : ℕ). drop m rest) (sym none) ∙ q.behind, ap (λ (m : ℕ). m / size) (sym q.counted) ∙ div-mul-add k size (length rest) h)

-- A whole record that comes off is as long as the size says, and of some length.
pub whole-comes : (form : Form) {size : ℕ} {rest : List ℕ} (x next : List ℕ) → size ≡ record_size form → rest ≡ x ++ next → length x ≡ size → (length x ≡ min size (length rest)) × (0 < length rest)
whole-comes form {size} {rest} x next s e l =
    let long : length rest ≡ length x + length next = rw (e, length-append) refl in
    (omega (arith, long, l), omega (arith, long, l, s, size-least form))

-- The tail, where it has bytes, comes off last.
pub tail-comes : {size : ℕ} {rest tail : List ℕ} → rest ≡ tail → length rest < size → 0 < length tail → (rest ≡ tail ++ []) × (length tail ≡ min size (length rest)) × (0 < length rest)
tail-comes {size} {rest} {tail} e h g = rw e (sym (append-nil tail), omega (arith, ap length e, h), g)
