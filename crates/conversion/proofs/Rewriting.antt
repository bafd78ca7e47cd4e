-- One record in the other form, as the code lays it into an array of 00h: over the form.
-- Assumes nothing.
use mathlib.Core.List.{List, [], ◌++◌, ◌∷◌, append_assoc}
use mathlib.Core.Path.{◌∙◌, ◌≡◌, ap, refl, sym}
use Prim.Native.Nat.{◌+◌, ◌-◌, ◌≤◌, suc, zero, ℕ}
use native.Mathlib.Omega.{arith}
use lib.ListN.{drop, get_or, length, length-append, length-drop, length-replicate, replicate, replicate-append-replicate, take}
use lib.Seq.{length-take-le, take_at}
use Rattle.conversion.specs.Conversion.{other, rewritten}
use Rattle.lent.proofs.Laws.{Written, amid, written_byte, written-put, written_start}
use Rattle.lent.specs.Lent.{left, put_of}
use Rattle.lent.specs.declared.Short.{Short}
use Rattle.std.specs.Prelude.{Result}
use Rattle.replay_capture.proofs.Laws.{sizes}
use Rattle.replay_capture.specs.Capture.{data_size, head_size, record_size}
use Rattle.replay_capture.specs.declared.Form.{Form}
use Rattle.replay_capture.specs.declared.Form.TheVariants.{Old}

fewer : (v : ℕ) {m n : ℕ} → m ≡ n → replicate m v ≡ replicate n v
fewer v e = ap (λ (k : ℕ). replicate k v) e

drop-replicate : (m n v : ℕ) → drop m (replicate n v) ≡ replicate (n - m) v
drop-replicate zero n v = let e : n ≡ n - 0 = omega arith in fewer v e
drop-replicate (suc m) zero v = let e : 0 ≡ 0 - suc m = omega arith in fewer v e
drop-replicate (suc m) (suc n) v = let e : n - m ≡ suc n - suc m = omega arith in drop-replicate m n v ∙ fewer v e

-- In room of one value, so many more of it are written already.
written_same : {w l : List ℕ} (n v k : ℕ) → Written w (replicate n v) l → length w + k ≤ n → Written (w ++ replicate k v) (replicate n v) l
written_same {w} {l} n v k p h =
    let m : length (w ++ replicate k v) ≡ length w + k = rw (length-append, length-replicate) in
    let e : k + (n - (length w + k)) ≡ n - length w = omega arith in
    let i : replicate k v ++ drop (length (w ++ replicate k v)) (replicate n v) ≡ drop (length w) (replicate n v) =
    rw (m, drop-replicate, drop-replicate, replicate-append-replicate, e) in
    record {
      is = p.is ∙ ap (λ (z : List ℕ). w ++ z) (sym i) ∙ sym (append_assoc w (replicate k v) (drop (length (w ++ replicate k v)) (replicate n v)));
      room = rw (m, length-replicate) h;
      long = p.long;
    }

pub head-is : (bs : List ℕ) → 2 ≤ length bs → get_or bs 0 0 ∷ get_or bs 1 0 ∷ [] ≡ take (head_size Old) bs
head-is [] h = absurd (omega arith)
head-is (a ∷ []) h = absurd (omega arith)
head-is (a ∷ b ∷ bs) h = refl

module _ (from : Form) (bs : List ℕ) (h : length bs ≡ record_size from) where
  six-long : length (take (data_size Old) (drop (head_size from) bs)) ≡ data_size Old
  six-long = length-take-le (data_size Old) (drop (head_size from) bs) (rw (length-drop, h) (omega (arith, sizes from)))

  pub rewritten-long : length (rewritten from bs) ≡ record_size (other from)
  unfolding rewritten
  rewritten-long =
      let b : length (take (head_size Old) bs) ≡ head_size Old = length-take-le (head_size Old) bs (omega (arith, sizes from)) in
      rw (length-append, length-append, length-append, length-replicate, length-replicate, six-long, b) (omega (arith, sizes (other from)))

  pub rewritten-laid : {at head : ℕ} {l : List ℕ} {a : Result Unit Short} → at ≡ head_size from → head ≡ head_size (other from)
      → left a l ≡ put_of (get_or bs 0 0 ∷ get_or bs 1 0 ∷ replicate 14 0x00) head (take (at + 6 - at) (drop at bs)) → take (record_size (other from)) l ≡ rewritten from bs
  unfolding rewritten
  rewritten-laid {at} {head} {l} {a} f g e =
      let z = sizes (other from) in
      let zeros : List ℕ = replicate 16 0x00 in
      let more = head_size (other from) - head_size Old in
      let six = take (data_size Old) (drop (head_size from) bs) in
      let b : length (take (head_size Old) bs) ≡ head_size Old = length-take-le (head_size Old) bs (omega (arith, sizes from)) in
      let n : length (take (head_size Old) bs ++ replicate more 0x00) ≡ head_size (other from) = rw (length-append, length-replicate, b) (omega (arith, z)) in
      let m : length (take (head_size Old) bs ++ replicate more 0x00 ++ six) ≡ head_size (other from) + data_size Old = rw (length-append, n, six-long) in
      let o : put_of (get_or bs 0 0 ∷ get_or bs 1 0 ∷ replicate 14 0x00) head (take (at + 6 - at) (drop at bs)) ≡ put_of (get_or bs 0 0 ∷ get_or bs 1 0 ∷ replicate 14 0x00) (head_size (other from)) six =
      rw (amid bs at 6, f, g) in
      let start : Written (get_or bs 0 0 ∷ get_or bs 1 0 ∷ []) zeros (get_or bs 0 0 ∷ get_or bs 1 0 ∷ replicate 14 0x00) =
      written_byte 1 (get_or bs 1 0) (written_byte 0 (get_or bs 0 0) (written_start zeros) refl (omega arith)) refl (omega arith) in
      let head : Written (take (head_size Old) bs) zeros (get_or bs 0 0 ∷ get_or bs 1 0 ∷ replicate 14 0x00) = rw (← head-is bs (omega (arith, sizes from))) start in
      let full = written-put (head_size (other from)) six (written_same 16 0x00 more head (omega (arith, z))) (e ∙ o) (sym n) (omega (arith, z, six-long)) in
      let whole = written_same 16 0x00 (data_size (other from) - data_size Old) full (omega (arith, z)) in
      ap (take (record_size (other from))) whole.is ∙ take_at (rewritten from bs) _ (record_size (other from)) rewritten-long

-- The array's part of the other form's size, put into the output.
pub rewritten-put : (from : Form) {to : Form} {n : ℕ} (at : ℕ) (laid out : List ℕ) {w l : List ℕ} {a : Result Unit Short} → take (record_size (other from)) laid ≡ w → to ≡ other from → n ≡ record_size to
    → left a l ≡ put_of out at (take (n - 0) laid) → left a l ≡ put_of out at w
rewritten-put from {to} {n} at laid out {w} {l} {a} p q r e =
    let m : n - 0 ≡ record_size (other from) = omega (arith, r, ap record_size q) in
    e ∙ ap (λ (k : ℕ). put_of out at (take k laid)) m ∙ ap (put_of out at) p
