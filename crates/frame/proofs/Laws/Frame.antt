-- Laws about LEN and about complete frames.
-- Assumes nothing.
use Rattle.std.proofs.Common.{◌≡◌, ℕ, suc, ◌+◌, ◌-◌, ◌<◌, ◌≤◌, Bool, ◌&&◌, true, false, eqb, ltb, leb, List, [], ◌∷◌, ◌++◌, length, get_or}
use Rattle.std.proofs.Common.{drop, refl, ◌∙◌, arith, length-append, length-drop, length-take-le, get_or-drop, get_or-take, sym, ne_eqb, ltb-false, ltb-true, le-ltb, lt-ltb, eq-eqb, eqb-true, le-leb, leb-false, leb-true}
use native.Mathlib.Decide.{dec_lt}
use Prim.Native.Nat.{min}
use lib.Seq.{take-append_seam}
use borrow.Author.Tests.{eqb-false, lt-leb}
use Rattle.frame.specs.Frame.{counted, footer_byte, framed, full, is_frame, lacking_of, len_byte, overhead, payload}
use Rattle.frame.specs.Sum.{sum_of}
use Rattle.frame.specs.declared.Footer.{Footer}
use Rattle.frame.specs.declared.Header.{Header}
use Rattle.lent.proofs.Laws.{both_is}
use Rattle.words.proofs.Laws.{and_both, and_right}
use Rattle.words.specs.Words.{◌and◌, if◌then◌otherwise◌}

pub counted-some : (x : ℕ) → 1 ≤ counted x
unfolding counted if◌then◌otherwise◌
counted-some x = go (eqb x 0) refl
  where
    go : (t : Bool) → eqb x 0 ≡ t → 1 ≤ (if t then 256 otherwise x)
    go true e = omega arith
    go false e = let n : x ≡ 0 → ⊥ = eqb-false x 0 e in omega arith

pub counted-small : (x : ℕ) → x < 256 → counted x ≤ 256
unfolding counted if◌then◌otherwise◌
counted-small x h = go (eqb x 0)
  where
    go : (t : Bool) → (if t then 256 otherwise x) ≤ 256
    go true = omega arith
    go false = omega arith

pub counted-zero : (x : ℕ) → x ≡ 0 → counted x ≡ 256
unfolding counted if◌then◌otherwise◌
counted-zero x e = simp (eq-eqb x 0 e)

pub counted-plain : (x : ℕ) → (x ≡ 0 → ⊥) → counted x ≡ x
unfolding counted if◌then◌otherwise◌
counted-plain x n = simp (ne_eqb x 0 n)

pub ruleset counts = (counted-zero, counted-plain, counted-small)

-- The tests of a count, as the code joins them.
pub full_is : (n x : ℕ) → full n x ≡ (leb 2 n && leb (counted x + 4) n)
unfolding full
full_is n x = sym (both_is (leb 2 n) (leb (counted x + 4) n))

pub frame_is : (bs : List ℕ) → is_frame bs ≡ (leb 2 (length bs) && eqb (length bs) (counted (get_or bs 1 0) + 4))
unfolding is_frame
frame_is bs = sym (both_is (leb 2 (length bs)) (eqb (length bs) (counted (get_or bs 1 0) + 4)))

pub full-yes : (n x : ℕ) → 2 ≤ n → counted x + 4 ≤ n → full n x ≡ true
unfolding full
full-yes n x h k = and_both (le-leb _ _ h) (le-leb _ _ k)

pub full-short : (n x : ℕ) → n < 2 → full n x ≡ false
unfolding full ◌and◌
full-short n x h = simp (lt-leb _ _ h)

pub full-not : (n x : ℕ) → n < counted x + 4 → full n x ≡ false
unfolding full ◌and◌
full-not n x h = go (leb 2 n)
  where
    go : (t : Bool) → t and leb (counted x + 4) n ≡ false
    go true = lt-leb _ _ h
    go false = refl

-- A frame that is not yet complete has room for one byte more among the 260.
pub full-room : (n x : ℕ) → full n x ≡ false → counted x ≤ 256 → n < 260
unfolding full ◌and◌
full-room n x e b = go (leb 2 n) refl e
  where
    go : (t : Bool) → leb 2 n ≡ t → t and leb (counted x + 4) n ≡ false → n < 260
    go true h e = let l : n < counted x + 4 = leb-false _ _ e in omega arith
    go false h e = let l : n < 2 = leb-false _ _ h in omega arith

-- A frame's payload: how long it is, its bytes, and what was framed.
pub payload-long : (bs : List ℕ) → length (payload bs) ≡ length bs - overhead
unfolding payload
payload-long bs = length-take-le (length bs - overhead) (drop 2 bs) (rw length-drop (omega arith))

pub payload-at : (bs : List ℕ) (i : ℕ) → i < length bs - overhead → get_or (payload bs) i 0 ≡ get_or bs (2 + i) 0
unfolding payload
payload-at bs i h = get_or-take (length bs - overhead) (drop 2 bs) i 0 h ∙ get_or-drop 2 bs i 0

pub payload-framed : (h : Header) (ds : List ℕ) (f : Footer) → payload (framed h ds f) ≡ ds
unfolding payload framed
payload-framed h ds f =
    let e : length (ds ++ sum_of (len_byte (length ds) ∷ ds) ∷ footer_byte f ∷ []) ≡ length ds + 2 = length-append ds _ in
    let n : suc (suc (length (ds ++ sum_of (len_byte (length ds) ∷ ds) ∷ footer_byte f ∷ []))) - 4 ≡ length ds = omega arith in
    rw n (take-append_seam ds _)

-- One complete frame has as many bytes as its LEN asks for, and no other bytes are one.
pub frame-counted : (bs : List ℕ) → is_frame bs ≡ true → length bs ≡ counted (get_or bs 1 0) + 4
unfolding is_frame
frame-counted bs t = eqb-true _ _ (and_right _ _ t)

pub counted-frame : (bs : List ℕ) → length bs ≡ counted (get_or bs 1 0) + 4 → is_frame bs ≡ true
unfolding is_frame
counted-frame bs e = and_both (le-leb 2 (length bs) (omega arith)) (eq-eqb (length bs) (counted (get_or bs 1 0) + 4) e)

pub frame-payload : (bs : List ℕ) → is_frame bs ≡ true → length (payload bs) ≡ counted (get_or bs 1 0)
frame-payload bs e = payload-long bs ∙ (let n : length bs ≡ counted (get_or bs 1 0) + 4 = frame-counted bs e in omega arith)

-- How many bytes are lacking: no more than there are, and the frame is not complete after them.
pub record Lacks (count len rest n : ℕ) : Type 0 where
  pub begun : 2 ≤ count
  pub short : count + n ≤ counted len + 3
  pub there : n ≤ rest

pub lacks : (count len rest n : ℕ) → n ≡ lacking_of count len rest → 0 < n → Lacks count len rest n
unfolding lacking_of if◌then◌otherwise◌
lacks count len rest n e h = go (leb 2 count) refl (ltb rest (counted len + 3 - count)) refl e
  where
    go : (t : Bool) → leb 2 count ≡ t → (u : Bool) → ltb rest (counted len + 3 - count) ≡ u
        → n ≡ (if t then (if u then rest otherwise counted len + 3 - count) otherwise 0) → Lacks count len rest n
    go false t u v e = absurd (omega arith)
    go true t true v e = record { begun = leb-true _ _ t; short = omega (arith, ltb-true rest (counted len + 3 - count) v); there = omega arith }
    go true t false v e = record { begun = leb-true _ _ t; short = omega arith; there = omega (arith, ltb-false rest (counted len + 3 - count) v) }

-- How many bytes are lacking, as the code says it.
pub lacking-early : (count len rest : ℕ) → count < 2 → 0 ≡ lacking_of count len rest
unfolding lacking_of if◌then◌otherwise◌
lacking-early count len rest h = simp (lt-leb 2 count h)

pub lacking-least : (count len rest : ℕ) → 2 ≤ count → min rest (counted len + 3 - count) ≡ lacking_of count len rest
unfolding lacking_of if◌then◌otherwise◌
lacking-least count len rest h = go (dec_lt rest (counted len + 3 - count))
  where
    go : Dec (rest < counted len + 3 - count) → min rest (counted len + 3 - count) ≡ lacking_of count len rest
    go (yes k) = simp (le-leb 2 count h, lt-ltb rest (counted len + 3 - count) k) (omega arith)
    go (no k) = simp (le-leb 2 count h, le-ltb rest (counted len + 3 - count) (omega arith)) (omega arith)

pub ruleset lacks_by_tests = (lacking-early, lacking-least, counted-small)
