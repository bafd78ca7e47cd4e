-- Laws about bytes put into lent room and bytes compared, and about a frame or a reply that is written from the room's start, piece by piece.
-- Assumes nothing.
use mathlib.Core.Bool.{◌&&◌, Bool, false, false≢true, true}
use mathlib.Core.List.{List, [], ◌++◌, ◌∷◌, append_assoc, append-nil}
use mathlib.Core.Path.{◌∙◌, ◌≡◌, ap, refl, sym}
use Prim.Native.Nat.{◌+◌, ◌-◌, ◌<◌, ◌≤◌, suc, ℕ}
use native.Mathlib.Decide.{dec_le}
use native.Mathlib.Numerals.{add-one}
use native.Mathlib.Omega.{arith}
use lib.Dec.{eqb}
use lib.ListN.{drop, drop_of_length-le, get_or, length, length-append, length-drop, replicate, set, take}
use lib.Seq.{append_snoc, drop-append-add, drop-cons, drop-drop, length-take-le, set-append_seam, take_all, take-append_seam, take-length}
use borrow.Author.Tests.{eq-eqb, eqb-true, le-leb, lt-leb}
use native.Mathlib.Nat.{add-zero}
use Rattle.std.specs.Cmp.Lexicographic.{pointwise}
use Rattle.std.specs.List.{list_all}
use Rattle.std.proofs.lemmas.List.Folds.{list_all_more}
use Rattle.lent.specs.Lent.{Left, all_are, left, put_at, put_of, same}
use Rattle.lent.specs.declared.Short.{Short}
use Rattle.std.specs.Prelude.{Err, Ok, Result}
use Rattle.words.proofs.Laws.{and_both, and-false, and_left, and_right}
use Rattle.words.specs.Words.{◌and◌, if◌then◌otherwise◌}

pub put-short : (l : List ℕ) (at : ℕ) (s : List ℕ) → length l < at + length s → left (Err (record {})) l ≡ put_of l at s
unfolding put_of if◌then◌otherwise◌
put-short l at s h = simp (lt-leb _ _ h)

pub put-lands : (l : List ℕ) (at : ℕ) (s : List ℕ) → at + length s ≤ length l → put_of l at s ≡ left (Ok tt) (put_at l at s)
unfolding put_of if◌then◌otherwise◌
put-lands l at s h = simp (le-leb _ _ h)

-- Neither answer changes how many bytes there are.
pub put-long : {a : Result Unit Short} {d : List ℕ} (l : List ℕ) (at : ℕ) (s : List ℕ) → left a d ≡ put_of l at s → length d ≡ length l
unfolding put_at
put-long {a} {d} l at s e = go (dec_le (at + length s) (length l))
  where
    go : Dec (at + length s ≤ length l) → length d ≡ length l
    go (yes h) =
        ap (λ (x : Left). length x.bytes) (e ∙ put-lands l at s h)
        ∙ rw (length-append, length-append, length-drop, length-take-le at l (omega arith)) (omega arith)
    go (no h) = ap (λ (x : Left). length x.bytes) (e ∙ sym (put-short l at s (omega arith)))

-- Nothing put at the end or past it.
pub put-nothing : (l : List ℕ) (at : ℕ) → length l ≤ at → l ≡ (put_of l at []).bytes
unfolding put_at
put-nothing l at h = go (dec_le (at + 0) (length l))
  where
    go : Dec (at + 0 ≤ length l) → l ≡ (put_of l at []).bytes
    go (yes k) = rw (put-lands l at [] k, add-zero, take_all at l h, drop_of_length-le l h, append-nil, append-nil)
    go (no k) = ap (λ (x : Left). x.bytes) (put-short l at [] (omega arith))

-- A part of n bytes from at on, lent and changed to t, comes back in this form.
pub part-put : (l : List ℕ) (at n : ℕ) (t : List ℕ) → at + n ≤ length l → length t ≡ n → left (Ok tt) (take at l ++ (t ++ drop n (drop at l))) ≡ put_of l at t
unfolding put_at
part-put l at n t h e = rw (put-lands l at t (omega arith), e, drop-drop, append_assoc)

-- A part from at to the end, lent to `bytes::copy`, comes back in this form.
pub copied : (l : List ℕ) (at : ℕ) (s t : List ℕ) → at + length s ≤ length l
    → t ≡ take (length s) s ++ drop (length s) (take (length l - at) (drop at l))
    → left (Ok tt) (take at l ++ (t ++ drop (length l - at) (drop at l))) ≡ put_of l at s
unfolding put_at
copied l at s t h e =
    let long : length (drop at l) ≤ length l - at = rw length-drop (omega arith) in
    let whole : take (length l - at) (drop at l) ≡ drop at l = take_all (length l - at) (drop at l) long in
    let none : drop (length l - at) (drop at l) ≡ [] = drop_of_length-le (drop at l) long in
    let u : t ≡ s ++ drop (at + length s) l = e ∙ rw (whole, take-length, drop-drop) in
    rw (none, u, append-nil, put-lands l at s h, append_assoc)

-- The room l is w, and after it what stood in the room r.
pub record Written (w r l : List ℕ) : Type 0 where
  pub is : l ≡ w ++ drop (length w) r
  pub room : length w ≤ length r
  pub long : length l ≡ length r

pub written_start : (r : List ℕ) → Written [] r r
written_start r = record { is = refl; room = omega arith; long = refl }

is-long : (w r : List ℕ) → length w ≤ length r → length (w ++ drop (length w) r) ≡ length r
is-long w r h = rw (length-append, length-drop) (omega arith)

pub written_byte : {w r l : List ℕ} (at b : ℕ) → Written w r l → at ≡ length w → at < length r → Written (w ++ b ∷ []) r (set l at b)
written_byte {w} {r} {l} at b p e h =
    let n : length (w ++ b ∷ []) ≡ suc (length w) = rw length-append (add-one (length w)) in
    let m : length (w ++ b ∷ []) ≤ length r = omega arith in
    let i : set l at b ≡ (w ++ b ∷ []) ++ drop (length (w ++ b ∷ [])) r =
    rw (n, p.is, e, drop-cons r (length w) 0 (omega arith), set-append_seam, append_snoc) in
    record { is = i; room = m; long = ap length i ∙ is-long (w ++ b ∷ []) r m }

pub written-put : {w r l l' : List ℕ} {a : Result Unit Short} (at : ℕ) (s : List ℕ) → Written w r l → left a l' ≡ put_of l at s → at ≡ length w
    → at + length s ≤ length r → Written (w ++ s) r l'
unfolding put_at
written-put {w} {r} {l} {l'} {a} at s p e f h =
    let n : length (w ++ s) ≡ length w + length s = length-append w s in
    let m : length (w ++ s) ≤ length r = omega arith in
    let v : left a l' ≡ left (Ok tt) (put_at l at s) = e ∙ put-lands l at s (omega (arith, p.long)) in
    let i : l' ≡ (w ++ s) ++ drop (length (w ++ s)) r =
    ap (λ (x : Left). x.bytes) v ∙ rw (n, p.is, f, take-append_seam, drop-append-add, drop-drop) in
    record { is = i; room = m; long = ap length i ∙ is-long (w ++ s) r m }

-- What is written from the room's start was put there.
pub written-laid : {w r l : List ℕ} → Written w r l → left (Ok tt) l ≡ put_of r 0 w
unfolding put_at
written-laid {w} {r} {l} p =
    let z : 0 + length w ≡ length w = omega arith in
    ap (left (Ok tt)) (p.is ∙ ap (λ (n : ℕ). w ++ drop n r) (sym z)) ∙ sym (put-lands r 0 w (omega (arith, p.room)))

-- Bytes that are all v are so many bytes v, and nothing else.
pub all-is : (v : ℕ) (bs : List ℕ) → all_are v bs ≡ true → bs ≡ replicate (length bs) v
unfolding all_are
all-is v [] t = refl
all-is v (b ∷ bs) t = ap (λ (x : ℕ). x ∷ bs) (eqb-true b v (and_left _ _ t)) ∙ ap (λ (r : List ℕ). v ∷ r) (all-is v bs (and_right (eqb b v) _ t))

-- std's `&&` is the word `and`.
pub both_is : (a b : Bool) → (a && b) ≡ a and b
unfolding ◌and◌
both_is true b = refl
both_is false b = refl

-- A test of each byte is std's.
pub all_is_listed : (v : ℕ) (bs : List ℕ) → all_are v bs ≡ list_all (λ b. eqb b v) bs
unfolding all_are
all_is_listed v [] = refl
all_is_listed v (b ∷ bs) = rw (all_is_listed v bs, both_is)

-- One more byte, as at a turn of a loop.
pub all_are_more : (v : ℕ) (bs : List ℕ) (i : ℕ) → i < length bs → all_are v (take (i + 1) bs) ≡ (all_are v (take i bs) && eqb (get_or bs i 0) v)
all_are_more v bs i h = rw (all_is_listed v (take (i + 1) bs), all_is_listed v (take i bs)) (list_all_more (λ b. eqb b v) bs i 0 h)

-- What `==` says of two stretches.
pub same_is_pointwise : (bs cs : List ℕ) → same bs cs ≡ pointwise eqb bs cs
unfolding same
same_is_pointwise [] [] = refl
same_is_pointwise [] (c ∷ cs) = refl
same_is_pointwise (b ∷ bs) [] = refl
same_is_pointwise (b ∷ bs) (c ∷ cs) = rw (same_is_pointwise bs cs, both_is)

pub same-is : (bs cs : List ℕ) → same bs cs ≡ true → bs ≡ cs
unfolding same
same-is [] [] t = refl
same-is [] (c ∷ cs) t = absurd (false≢true t)
same-is (b ∷ bs) [] t = absurd (false≢true t)
same-is (b ∷ bs) (c ∷ cs) t = rw (eqb-true b c (and_left _ _ t), same-is bs cs (and_right (eqb b c) _ t))

pub same_self : (bs : List ℕ) → same bs bs ≡ true
unfolding same
same_self [] = refl
same_self (b ∷ bs) = and_both (eq-eqb b b refl) (same_self bs)

pub same-apart : (bs cs : List ℕ) → (length bs ≡ length cs → ⊥) → false ≡ same bs cs
unfolding same
same-apart [] [] d = absurd (d refl)
same-apart [] (c ∷ cs) d = refl
same-apart (b ∷ bs) [] d = refl
same-apart (b ∷ bs) (c ∷ cs) d = and-false (eqb b c) (same-apart bs cs (λ e. d (ap suc e)))

-- What fills the room is all of it.
pub written-full : {w r l : List ℕ} → Written w r l → length r ≤ length w → l ≡ w
written-full {w} {r} {l} p h = p.is ∙ rw (drop_of_length-le r h, append-nil)

pub amid : (l : List ℕ) (at n : ℕ) → take (at + n - at) (drop at l) ≡ take n (drop at l)
amid l at n = let e : at + n - at ≡ n = omega arith in rw e

-- Bytes put into an array of their own length are the array.
pub put_whole : (r l s : List ℕ) (a : Result Unit Short) → left a l ≡ put_of r 0 s → length s ≡ length r → l ≡ s
put_whole r l s a e h = written-full (written-put 0 s (written_start r) e refl (omega arith)) (omega arith)
