-- The records of a capture where they lie, over their size: where one ends, and that the bytes up to there are the record, and those from there on the rest.
-- Assumes nothing.
use mathlib.Core.List.{List, ◌++◌, ◌∷◌}
use mathlib.Core.Path.{◌∙◌, ◌≡◌, ap, refl, sym}
use Prim.Native.Nat.{◌+◌, ◌-◌, ◌<◌, ◌≤◌, min, ℕ}
use native.Mathlib.Decide.{dec_le}
use native.Mathlib.Omega.{arith}
use lib.ListN.{drop, drop_of_length-le, length, length-append, length-drop, take}
use lib.Seq.{drop_at, drop-drop, drop-length, take_all, take_at}
use borrow.Author.Tests.{le-leb, lt-leb}
use Rattle.replay_capture.proofs.Laws.{records-next}
use Rattle.replay_capture.specs.Capture.{record_end, records_in}
use Rattle.words.specs.Words.{if◌then◌otherwise◌}

module _ (size at len : ℕ) where
  pub end_fits : at + size ≤ len → record_end size at len ≡ at + size
  unfolding record_end if◌then◌otherwise◌
  end_fits h = simp (le-leb (at + size) len h)

  pub end_short : len < at + size → record_end size at len ≡ len
  unfolding record_end if◌then◌otherwise◌
  end_short h = simp (lt-leb (at + size) len h)

  pub end_after : 1 ≤ size → at < len → at < record_end size at len
  end_after s h = go (dec_le (at + size) len)
    where
      go : Dec (at + size ≤ len) → at < record_end size at len
      go (yes k) = omega (arith, end_fits k)
      go (no k) = omega (arith, end_short (omega arith))

  pub end-within : at < len → record_end size at len ≤ len
  end-within h = go (dec_le (at + size) len)
    where
      go : Dec (at + size ≤ len) → record_end size at len ≤ len
      go (yes k) = omega (arith, end_fits k)
      go (no k) = omega (arith, end_short (omega arith))

module _ (size at : ℕ) (bs : List ℕ) where
  abbrev end : ℕ
  end = record_end size at (length bs)

  pub cut_record : take (end - at) (drop at bs) ≡ take size (drop at bs)
  cut_record = go (dec_le (at + size) (length bs))
    where
      go : Dec (at + size ≤ length bs) → take (end - at) (drop at bs) ≡ take size (drop at bs)
      go (yes k) = let e : end - at ≡ size = omega (arith, end_fits size at (length bs) k) in ap (λ (n : ℕ). take n (drop at bs)) e
      go (no k) =
          let l : length (drop at bs) ≡ length bs - at = length-drop at bs in
          let e : end ≡ length bs = end_short size at (length bs) (omega arith) in
          take_all (end - at) (drop at bs) (omega arith) ∙ sym (take_all size (drop at bs) (omega arith))

  pub cut-rest : drop size (drop at bs) ≡ drop end bs
  cut-rest = go (dec_le (at + size) (length bs))
    where
      go : Dec (at + size ≤ length bs) → drop size (drop at bs) ≡ drop end bs
      go (yes k) = drop-drop size at bs ∙ ap (λ (n : ℕ). drop n bs) (sym (end_fits size at (length bs) k))
      go (no k) =
          let past : length bs ≤ at + size = omega arith in
          drop-drop size at bs ∙ drop_of_length-le bs past ∙ sym (drop-length bs) ∙ ap (λ (n : ℕ). drop n bs) (sym (end_short size at (length bs) (omega arith)))

  -- The records from a place on: the one there, and the rest.
  pub records-cut : (most : ℕ) → at < length bs → length (drop at bs) ≤ most
      → records_in size most (drop at bs) ≡ take (end - at) (drop at bs) ∷ records_in size (most - 1) (drop end bs)
  records-cut most h k =
      let l : length (drop at bs) ≡ length bs - at = length-drop at bs in
      records-next size most (drop at bs) (omega arith) (omega arith)
      ∙ ap (λ (l : List ℕ). l ∷ records_in size (most - 1) (drop size (drop at bs))) (sym cut_record)
      ∙ ap (λ (l : List ℕ). take (end - at) (drop at bs) ∷ records_in size (most - 1) l) cut-rest

-- A chunk off the front of the bytes that are left is their first record.
pub chunk_is : (size : ℕ) (x next : List ℕ) → length x ≡ min size (length (x ++ next)) → (take size (x ++ next) ≡ x) × (drop size (x ++ next) ≡ next)
chunk_is size x next l = go (dec_le size (length (x ++ next)))
  where
    go : Dec (size ≤ length (x ++ next)) → (take size (x ++ next) ≡ x) × (drop size (x ++ next) ≡ next)
    go (yes h) = let e : length x ≡ size = omega (arith, l) in (take_at x next size e, drop_at x next size e)
    go (no h) =
        let e : length x ≡ length (x ++ next) = omega (arith, l) in (
          take_all size (x ++ next) (omega arith) ∙ sym (take_all (length x) (x ++ next) (omega arith)) ∙ take_at x next (length x) refl,
          drop_of_length-le (x ++ next) (omega arith) ∙ sym (drop_of_length-le (x ++ next) {i = length x} (omega arith)) ∙ drop_at x next (length x) refl,
        )

pub chunk_first : (size most : ℕ) {rest : List ℕ} (x next : List ℕ) → rest ≡ x ++ next → length x ≡ min size (length rest) → 0 < length rest → length rest ≤ most
    → records_in size most rest ≡ x ∷ records_in size (most - 1) next
chunk_first size most {rest} x next e l g h =
    let c = chunk_is size x next (rw (← e) l) in
    let a : take size rest ≡ x = rw e c.0 in
    let b : drop size rest ≡ next = rw e c.1 in
    records-next size most rest g (omega (arith, h)) ∙ ap (λ (y : List ℕ). y ∷ records_in size (most - 1) (drop size rest)) a ∙ ap (λ (y : List ℕ). x ∷ records_in size (most - 1) y) b

-- It has bytes, and those behind it are fewer.
pub chunk_less : (size : ℕ) {rest : List ℕ} (x next : List ℕ) → rest ≡ x ++ next → length x ≡ min size (length rest) → 0 < length rest → 1 ≤ size → length next + 1 ≤ length rest
chunk_less size {rest} x next e l g s =
    let n : length rest ≡ length x + length next = rw (e, length-append) in
    omega (arith, n, l, g, s)
