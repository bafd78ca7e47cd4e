-- What is written is read back: a written frame is one complete, good frame; a written data frame is a good reply, and its payload and what follows it lie there.
-- Assumes nothing.
use mathlib.Core.Bool.{Bool, false, true}
use mathlib.Core.List.{List, [], ◌++◌, ◌∷◌, append_assoc}
use mathlib.Core.Path.{◌∙◌, ◌≡◌, ap, refl, sym}
use Prim.Native.Nat.{◌%◌, ◌+◌, ◌-◌, ◌<◌, ◌≤◌, suc, ℕ}
use native.Mathlib.Decide.{dec_lt}
use native.Mathlib.Numerals.{add-one}
use native.Mathlib.Omega.{arith}
use lib.Dec.{eqb, ltb}
use lib.ListN.{drop, get_or, length, length-append, take}
use lib.Seq.{drop_at, get_or-append-add, get_or-append_seam, take-append_seam, take_at}
use borrow.Author.Tests.{le-ltb, lt-ltb, ne_eqb}
use Rattle.frame.proofs.Laws.Frame.{counted-frame}
use Rattle.frame.proofs.Laws.Judgement.{judged-good}
use Rattle.frame.proofs.Laws.Wire.{framed-long, reply-judged, unfit-over}
use Rattle.frame.specs.Frame.{counted, data_frame, footer_byte, framed, header_byte, is_frame, len_byte}
use Rattle.frame.specs.Judgement.{judge_of, summed}
use Rattle.frame.specs.Sum.{sum_of}
use Rattle.frame.specs.Wire.{judge_reply, unfit_reply}
use Rattle.frame.specs.declared.Footer.{Footer}
use Rattle.frame.specs.declared.Footer.TheVariants.{Last}
use Rattle.frame.specs.declared.Header.{Header}
use Rattle.frame.specs.declared.Header.TheVariants.{Data}
use Rattle.frame.specs.declared.judgement.Judgement.TheVariants.{Good}
use Rattle.words.specs.Words.{◌and◌, if◌then◌otherwise◌}

pub counted-len : (n : ℕ) → 1 ≤ n → n ≤ 256 → counted (len_byte n) ≡ n
unfolding counted if◌then◌otherwise◌
counted-len n h k = go (dec_lt n 256)
  where
    go : Dec (n < 256) → (if eqb (n % 256) 0 then 256 otherwise n % 256) ≡ n
    go (yes l) = let e : n % 256 ≡ n = omega arith in rw (e, ne_eqb n 0 (λ z. omega arith))
    go (no l) = let e : n % 256 ≡ 0 = omega arith in rw e (omega arith)

framed-len : (h : Header) (ds : List ℕ) (f : Footer) → get_or (framed h ds f) 1 0 ≡ len_byte (length ds)
unfolding framed
framed-len h ds f = refl

-- Written out, with room for the two places past the payload.
framed-footer : (h : Header) (ds : List ℕ) (f : Footer) → get_or (framed h ds f) (length ds + 3) 0 ≡ footer_byte f
unfolding framed
framed-footer h ds f =
    let e : length ds + 3 ≡ suc (suc (length ds + 1)) = omega arith in
    ap (λ (k : ℕ). get_or (framed h ds f) k 0) e ∙ get_or-append-add ds (sum_of (len_byte (length ds) ∷ ds) ∷ footer_byte f ∷ []) 1 0

framed-sum : (h : Header) (ds : List ℕ) (f : Footer) → get_or (framed h ds f) (length ds + 2) 0 ≡ sum_of (len_byte (length ds) ∷ ds)
unfolding framed
framed-sum h ds f =
    let e : length ds + 2 ≡ suc (suc (length ds)) = omega arith in
    ap (λ (k : ℕ). get_or (framed h ds f) k 0) e ∙ get_or-append_seam ds (sum_of (len_byte (length ds) ∷ ds)) (footer_byte f ∷ []) 0

framed-summed : (h : Header) (ds : List ℕ) (f : Footer) → take (length ds + 1) (drop 1 (framed h ds f)) ≡ len_byte (length ds) ∷ ds
unfolding framed
framed-summed h ds f =
    ap (λ (k : ℕ). take k (drop 1 (framed h ds f))) (add-one (length ds))
    ∙ ap (λ (xs : List ℕ). len_byte (length ds) ∷ xs) (take-append_seam ds (sum_of (len_byte (length ds) ∷ ds) ∷ footer_byte f ∷ []))

-- A written frame is one complete frame, and good where its own footer is expected.
module _ (h : Header) (ds : List ℕ) (f : Footer) (some : 1 ≤ length ds) (most : length ds ≤ 256) where
  pub framed-whole : is_frame (framed h ds f) ≡ true
  framed-whole =
      let l : length (framed h ds f) ≡ length ds + 4 = framed-long h ds f in
      let c : counted (get_or (framed h ds f) 1 0) ≡ length ds = ap counted (framed-len h ds f) ∙ counted-len (length ds) some most in
      counted-frame (framed h ds f) (omega arith)

  pub framed-good : judge_of f (framed h ds f) ≡ Good
  unfolding summed
  framed-good =
      let l : length (framed h ds f) ≡ length ds + 4 = framed-long h ds f in
      let a : length (framed h ds f) - 1 ≡ length ds + 3 = omega arith in
      let b : length (framed h ds f) - 2 ≡ length ds + 2 = omega arith in
      let c : length (framed h ds f) - 3 ≡ length ds + 1 = omega arith in
      judged-good f (framed h ds f) framed-whole (rw a (framed-footer h ds f))
      (rw (b, c) (framed-sum h ds f ∙ ap sum_of (sym (framed-summed h ds f))))

-- Reading what was written gives it back, with whatever follows it; as the last frame of an answer, where nothing does.
pub record ReadBack (ds rest bs : List ℕ) : Type 0 where
  pub read : (last : Bool) → last and ltb 0 (length rest) ≡ false → judge_reply (length ds) last bs ≡ Good
  pub payload : take (length ds) (drop 2 bs) ≡ ds
  pub follows : drop (length ds + 4) bs ≡ rest

front-header : (ds rest : List ℕ) → get_or (data_frame ds Last ++ rest) 0 0 ≡ header_byte Data
unfolding framed
front-header ds rest = refl

front-len : (ds rest : List ℕ) → get_or (data_frame ds Last ++ rest) 1 0 ≡ len_byte (length ds)
unfolding framed
front-len ds rest = refl

front-payload : (ds rest : List ℕ) → take (length ds) (drop 2 (data_frame ds Last ++ rest)) ≡ ds
unfolding framed
front-payload ds rest =
    let tail : List ℕ = sum_of (len_byte (length ds) ∷ ds) ∷ footer_byte Last ∷ [] in
    ap (λ (xs : List ℕ). take (length ds) xs) (append_assoc ds tail rest) ∙ take-append_seam ds (tail ++ rest)

front-counted : (ds rest : List ℕ) → 1 ≤ length ds → length ds ≤ 256 → counted (get_or (data_frame ds Last ++ rest) 1 0) ≡ length ds
front-counted ds rest some most = ap counted (front-len ds rest) ∙ counted-len (length ds) some most

same_test : (n m k : ℕ) → m ≡ n + k → ltb n m ≡ ltb 0 k
same_test n m k e = go (dec_lt 0 k)
  where
    go : Dec (0 < k) → ltb n m ≡ ltb 0 k
    go (yes h) = lt-ltb n m (omega arith) ∙ sym (lt-ltb 0 k h)
    go (no h) = le-ltb n m (omega arith) ∙ sym (le-ltb 0 k (omega arith))

-- It fits, and something follows it where something does.
front_fits : (ds rest : List ℕ) → 1 ≤ length ds → length ds ≤ 256 → (last : Bool) → last and ltb 0 (length rest) ≡ false
    → unfit_reply (length ds) last (data_frame ds Last ++ rest) ≡ false
front_fits ds rest some most last t =
    let f : List ℕ = data_frame ds Last in
    let l : length f ≡ length ds + 4 = framed-long Data ds Last in
    let w : length (f ++ rest) ≡ length f + length rest = length-append f rest in
    let c : counted (get_or (f ++ rest) 1 0) ≡ length ds = front-counted ds rest some most in
    let o : ltb (length ds + 4) (length (f ++ rest)) ≡ ltb 0 (length rest) = same_test (length ds + 4) (length (f ++ rest)) (length rest) (omega arith) in
    sym (unfit-over (length ds) last (f ++ rest) (length ds + 4) last refl c (omega arith) (omega arith)) ∙ ap (λ (u : Bool). last and u) o ∙ t

pub read_back : (ds rest : List ℕ) → 1 ≤ length ds → length ds ≤ 256 → ReadBack ds rest (data_frame ds Last ++ rest)
read_back ds rest some most =
    let f : List ℕ = data_frame ds Last in
    let l : length f ≡ length ds + 4 = framed-long Data ds Last in
    let n : length f ≡ length ds + 4 - 0 = omega arith in
    let g : Good ≡ judge_of Last (take (length ds + 4 - 0) (f ++ rest)) =
    sym (ap (λ (xs : List ℕ). judge_of Last xs) (take_at f rest (length ds + 4 - 0) n) ∙ framed-good Data ds Last some most) in
    record {
      read = λ last t. sym (reply-judged (length ds) last (f ++ rest) (length ds + 4) Good (front-header ds rest) (front_fits ds rest some most last t) (omega (arith, front-counted ds rest some most)) g);
      payload = front-payload ds rest;
      follows = drop_at f rest (length ds + 4) l;
    }
