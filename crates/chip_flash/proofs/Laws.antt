-- Laws about blank, erased and programmed bytes: how far each loop has come, and what a caller may conclude from an answer.
-- Assumes nothing.
use mathlib.Core.Bool.{◌&&◌, Bool, false, true}
use mathlib.Core.List.{List, [], ◌++◌, ◌∷◌}
use mathlib.Core.Path.{◌∙◌, ◌≡◌, ap, refl, sym}
use Prim.Native.Nat.{◌+◌, ◌-◌, ◌<◌, ◌≤◌, min, suc, zero, ℕ}
use native.Mathlib.Decide.{dec_le}
use native.Mathlib.Nat.{min-eq_left, min-eq_right, min-le_right}
use native.Mathlib.Numerals.{add-one}
use native.Mathlib.Omega.{arith}
use lib.Bits.{bit_and}
use lib.Dec.{eqb}
use lib.ListN.{drop, get_or, length, drop_of_length-le, length-drop, length-replicate, length-take, replicate, set, take}
use lib.Seq.{length-take-le, take_all, take-nil}
use Rattle.chip_flash.specs.Flash.{blank, erase_of, erased, lands, program_of, programmed}
use Rattle.lent.proofs.Laws.{all-is, part-put, put-lands, put-long, put-nothing, put-short, same-apart, same_is_pointwise}
use Rattle.lent.specs.Lent.{Left, left, put_at, put_of}
use Rattle.std.specs.Cmp.Lexicographic.{pointwise}
use Rattle.std.specs.List.{fold, zip}
use Rattle.lent.specs.declared.Short.{Short}
use Rattle.std.specs.Prelude.{Err, Ok, Result}

-- Blank bytes are so many bytes FFh, and nothing else.
pub blank-is : (bs : List ℕ) → blank bs ≡ true → bs ≡ replicate (length bs) erased
unfolding blank
blank-is bs t = all-is erased bs t

pub erase-short : (l : List ℕ) (at n : ℕ) → length l < at + n → left (Err (record {})) l ≡ erase_of l at n
unfolding erase_of
erase-short l at n h = put-short l at (replicate n erased) (rw length-replicate h)

pub erase-fits : (l : List ℕ) (at n : ℕ) → at + n ≤ length l → erase_of l at n ≡ left (Ok tt) (put_at l at (replicate n erased))
unfolding erase_of
erase-fits l at n h = put-lands l at (replicate n erased) (rw length-replicate h)

-- A part lent to a fill comes back in this form.
pub erase-lands : (l : List ℕ) (at n : ℕ) (t : List ℕ) → at + n ≤ length l → t ≡ replicate (length (take (at + n - at) (drop at l))) erased
    → left (Ok tt) (take at l ++ (t ++ drop (at + n - at) (drop at l))) ≡ erase_of l at n
unfolding erase_of
erase-lands l at n t h e =
    let m : at + n - at ≡ n = omega arith in
    let k : length (take n (drop at l)) ≡ n = length-take-le n (drop at l) (rw length-drop (omega arith)) in
    rw (e, m, k) (part-put l at n (replicate n erased) h (length-replicate n erased))

pub ruleset erasing = (erase-short, erase-lands)

-- An erase does not change how many bytes there are, done or refused.
pub erase-long : {a : Result Unit Short} {d : List ℕ} (l : List ℕ) (at n : ℕ) → left a d ≡ erase_of l at n → length d ≡ length l
unfolding erase_of
erase-long l at n e = put-long l at (replicate n erased) e

pub erase-of-long : (l : List ℕ) (at n : ℕ) → length (erase_of l at n).bytes ≡ length l
erase-of-long l at n = erase-long {a = (erase_of l at n).answer} {d = (erase_of l at n).bytes} l at n refl

-- Programming does not change how many bytes there are, and each is the old one AND the new one.
pub programmed-long : (old new : List ℕ) → length (programmed old new) ≡ length old
unfolding programmed
programmed-long [] new = refl
programmed-long (b ∷ bs) [] = refl
programmed-long (b ∷ bs) (c ∷ cs) = ap suc (programmed-long bs cs)

pub programmed-at : (old new : List ℕ) (i : ℕ) → i < length old → i < length new → get_or (programmed old new) i 0 ≡ bit_and (get_or old i 0) (get_or new i 0)
unfolding programmed
programmed-at [] new i h k = absurd (omega arith)
programmed-at (b ∷ bs) [] i h k = absurd (omega arith)
programmed-at (b ∷ bs) (c ∷ cs) zero h k = refl
programmed-at (b ∷ bs) (c ∷ cs) (suc i) h k = programmed-at bs cs i (omega arith) (omega arith)

pub programmed-none : (old : List ℕ) → programmed old [] ≡ old
unfolding programmed
programmed-none [] = refl
programmed-none (b ∷ bs) = refl

-- New bytes past the old ones have no part in it.
pub programmed-front : (old new : List ℕ) (n : ℕ) → length old ≤ n → programmed old (take n new) ≡ programmed old new
unfolding programmed
programmed-front [] new n h = refl
programmed-front (b ∷ bs) [] zero h = refl
programmed-front (b ∷ bs) [] (suc n) h = refl
programmed-front (b ∷ bs) (c ∷ cs) zero h = absurd (omega arith)
programmed-front (b ∷ bs) (c ∷ cs) (suc n) h = ap (λ (r : List ℕ). bit_and b c ∷ r) (programmed-front bs cs n (omega arith))

-- How far programming has come: the first i new bytes are in.
pub programmed-turn : (old new : List ℕ) (i : ℕ) → i < length old → i < length new
    → set (programmed old (take i new)) i (bit_and (get_or (programmed old (take i new)) i 0) (get_or new i 0)) ≡ programmed old (take (suc i) new)
unfolding programmed
programmed-turn [] new i h k = absurd (omega arith)
programmed-turn (b ∷ bs) [] i h k = absurd (omega arith)
programmed-turn (b ∷ bs) (c ∷ cs) zero h k = ap (λ (r : List ℕ). bit_and b c ∷ r) (sym (programmed-none bs))
programmed-turn (b ∷ bs) (c ∷ cs) (suc i) h k = ap (λ (r : List ℕ). bit_and b (c) ∷ r) (programmed-turn bs cs i (omega arith) (omega arith))

pub record Cleared (l new : List ℕ) (i : ℕ) (d : List ℕ) : Type 0 where
  pub is : d ≡ programmed l (take i new)
  pub long : length d ≡ length l

cleared_by : (l new : List ℕ) (i : ℕ) {d : List ℕ} → d ≡ programmed l (take i new) → Cleared l new i d
cleared_by l new i e = record { is = e; long = ap length e ∙ programmed-long l (take i new) }

pub cleared-start : (l new : List ℕ) → Cleared l new 0 l
cleared-start l new = cleared_by l new 0 (sym (programmed-none l))

pub cleared-turn : {l new d : List ℕ} {i : ℕ} → Cleared l new i d → i < length l → i < length new
    → Cleared l new (i + 1) (set d i (bit_and (get_or d i 0) (get_or new i 0)))
cleared-turn {l} {new} {d} {i} f h k = cleared_by l new (i + 1) (rw (f.is, add-one) (programmed-turn l new i h k))

-- The loop's end is reached where either runs out.
pub data RunsOut (l new : List ℕ) (end : ℕ) : Type 0 where
  by_new : length new ≡ end → length new ≤ length l → RunsOut l new end
  by_old : length l ≡ end → length l ≤ length new → RunsOut l new end

pub runs-out : (l new : List ℕ) {end : ℕ} → end ≡ min (length new) (length l) → RunsOut l new end
runs-out l new {end} e = go (dec_le (length new) (length l))
  where
    go : Dec (length new ≤ length l) → RunsOut l new end
    go (yes h) = by_new (sym (e ∙ min-eq_left h)) h
    go (no h) = by_old (sym (e ∙ min-eq_right (omega arith))) (omega arith)

pub under-old : {l new : List ℕ} {i end : ℕ} → RunsOut l new end → i < end → i < length l
under-old (by_new e h) k = omega arith
under-old (by_old e h) k = omega arith

pub under-new : {l new : List ℕ} {i end : ℕ} → RunsOut l new end → i < end → i < length new
under-new (by_new e h) k = omega arith
under-new (by_old e h) k = omega arith

pub under-part : {l new d : List ℕ} {i end : ℕ} → Cleared l new i d → RunsOut l new end → i < end → i < length d
under-part f r k = omega (arith, f.long, under-old r k)

pub cleared-end : {l new d : List ℕ} {i end : ℕ} → Cleared l new i d → RunsOut l new end → i ≡ end → d ≡ programmed l new
cleared-end {l} {new} {d} {i} f (by_new e h) k = f.is ∙ ap (programmed l) (take_all i new (omega arith))
cleared-end {l} {new} {d} {i} f (by_old e h) k = f.is ∙ programmed-front l new i (omega arith)

-- Whether programming leaves what was sent, as a fold over the pairs.
abbrev pub lands_step : Bool → ℕ × ℕ → Bool
lands_step ok p = ok && eqb (bit_and p.0 p.1) p.1

joined : (a b c : Bool) → ((a && b) && c) ≡ (a && (b && c))
joined true b c = refl
joined false b c = refl

lands-folded : (ok : Bool) (old new : List ℕ) → length old ≡ length new
    → fold lands_step ok (zip old new) ≡ (ok && pointwise eqb (programmed old new) new)
unfolding programmed
lands-folded true [] [] e = refl
lands-folded false [] [] e = refl
lands-folded ok [] (c ∷ cs) e = absurd (omega arith)
lands-folded ok (b ∷ bs) [] e = absurd (omega arith)
lands-folded ok (b ∷ bs) (c ∷ cs) e =
    lands-folded (ok && eqb (bit_and b c) c) bs cs (omega arith) ∙ joined ok (eqb (bit_and b c) c) (pointwise eqb (programmed bs cs) cs)

pub lands-fold : (old new : List ℕ) → length old ≡ length new → fold lands_step true (zip old new) ≡ lands old new
unfolding lands
lands-fold old new e = lands-folded true old new e ∙ sym (same_is_pointwise (programmed old new) new)

pub lands-apart : (old new : List ℕ) → (length old ≡ length new → ⊥) → lands old new ≡ false
unfolding lands
lands-apart old new d = sym (same-apart (programmed old new) new (λ e. d (sym (programmed-long old new) ∙ e)))

-- Programming at a place: past the end there is nothing to program.
pub program-past : (l : List ℕ) (at n : ℕ) (new : List ℕ) → length l ≤ at → l ≡ program_of l at n new
unfolding program_of programmed
program-past l at n new h =
    let e : take n (drop at l) ≡ [] = ap (take n) (drop_of_length-le l h) ∙ take-nil n in
    put-nothing l at h ∙ ap (λ (old : List ℕ). (put_of l at (programmed old new)).bytes) (sym e)

pub least-within : (n m : ℕ) {k : ℕ} → k ≡ min n m → k ≤ m
least-within n m e = rw e (min-le_right n m)

-- As many bytes as there are.
take-least : (n : ℕ) (bs : List ℕ) {k m : ℕ} → m ≡ length bs → k ≡ min n m → (take k bs ≡ take n bs) × (length (take n bs) ≡ k)
take-least n bs {k} {m} l e = go (dec_le n m)
  where
    go : Dec (n ≤ m) → (take k bs ≡ take n bs) × (length (take n bs) ≡ k)
    go (yes h) = let f : k ≡ n = e ∙ min-eq_left h in (rw f, length-take-le n bs (omega arith) ∙ sym f)
    go (no h) =
        let f : k ≡ m = e ∙ min-eq_right (omega arith) in
        let a : take n bs ≡ bs = take_all n bs (omega arith) in
        (take_all k bs (omega arith) ∙ sym a, rw a (omega arith))

-- A part lent for it comes back in this form.
pub program-lands : (l : List ℕ) (at n : ℕ) (new : List ℕ) {k : ℕ} {t : List ℕ} → at < length l → k ≡ min n (length l - at)
    → t ≡ programmed (take (at + k - at) (drop at l)) new → take at l ++ (t ++ drop (at + k - at) (drop at l)) ≡ program_of l at n new
unfolding program_of
program-lands l at n new {k} {t} h e f =
    let m : at + k - at ≡ k = omega arith in
    let s = take-least n (drop at l) (sym (length-drop at l)) e in
    let g : t ≡ programmed (take n (drop at l)) new = f ∙ rw (m, s.0) in
    let long : length t ≡ k = rw g (programmed-long (take n (drop at l)) new ∙ s.1) in
    let in-it : at + k ≤ length l = omega (arith, s.1, length-take n (drop at l), length-drop at l) in
    rw m (ap (λ (x : Left). x.bytes) (part-put l at k t in-it long) ∙ ap (λ (r : List ℕ). (put_of l at r).bytes) g)

pub ruleset programming = (program-past, least-within, program-lands)

pub program-is : (l : List ℕ) (at n : ℕ) (new : List ℕ) → program_of l at n new ≡ (put_of l at (programmed (take n (drop at l)) new)).bytes
unfolding program_of
program-is l at n new = refl
