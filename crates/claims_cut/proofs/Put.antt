-- Bytes put at a place of flash: what they leave there, and that every other byte stays.
-- Assumes nothing.
use mathlib.Core.List.{List, ◌++◌, append_assoc}
use mathlib.Core.Path.{◌∙◌, ◌≡◌, ap, refl}
use Prim.Native.Nat.{◌+◌, ◌-◌, ◌<◌, ◌≤◌, ℕ}
use native.Mathlib.Omega.{arith}
use lib.ListN.{get_or-append, drop, get_or, length, length-append, take}
use lib.Seq.{drop_at, get_or-append-add, get_or-drop, get_or-take, length-take-le, take-append_seam}
use Rattle.claims_cut.specs.Cut.{Becomes}
use Rattle.chip_core.specs.Effect.{Flash, bytes_in, with_bytes}
use Rattle.frame.specs.Framing.{inside}
use Rattle.lent.proofs.Laws.{put-lands}
use Rattle.lent.specs.Lent.{Left, put_at, put_of}
use Rattle.part.specs.declared.Area.{Area}
use Rattle.part.specs.declared.Area.TheVariants.{CodeFlash, DataFlash}

module _ (l : List ℕ) (at : ℕ) (s : List ℕ) (fits : at + length s ≤ length l) where
  front : List ℕ
  front = take at l ++ s

  cut-long : length (take at l) ≡ at
  cut-long = length-take-le at l (omega arith)

  front_long : length front ≡ at + length s
  unfolding front
  front_long = length-append (take at l) s ∙ ap (λ (n : ℕ). n + length s) cut-long

  put_is : (put_of l at s).bytes ≡ front ++ drop (at + length s) l
  unfolding front put_at
  put_is = ap (λ (x : Left). x.bytes) (put-lands l at s fits)

  put_under : (i : ℕ) → i < at → get_or (put_of l at s).bytes i 0 ≡ get_or l i 0
  unfolding front
  put_under i h =
      ap (λ (x : List ℕ). get_or x i 0) put_is ∙ get_or-append front (drop (at + length s) l) 0 i (omega (arith, front_long))
      ∙ get_or-append (take at l) s 0 i (omega (arith, cut-long)) ∙ get_or-take at l i 0 h

  put-past : (i : ℕ) → at + length s ≤ i → get_or (put_of l at s).bytes i 0 ≡ get_or l i 0
  put-past i h =
      let n = i - (at + length s) in
      let e : i ≡ length front + n = omega (arith, front_long) in
      let f : at + length s + n ≡ i = omega arith in
      ap (λ (x : List ℕ). get_or x i 0) put_is ∙ ap (λ (k : ℕ). get_or (front ++ drop (at + length s) l) k 0) e
      ∙ get_or-append-add front (drop (at + length s) l) n 0 ∙ get_or-drop (at + length s) l n 0 ∙ ap (λ (k : ℕ). get_or l k 0) f

  put-now : take (length s) (drop at (put_of l at s).bytes) ≡ s
  unfolding front
  put-now =
      ap (λ (x : List ℕ). take (length s) (drop at x)) (put_is ∙ append_assoc (take at l) s (drop (at + length s) l))
      ∙ ap (λ (x : List ℕ). take (length s) x) (drop_at (take at l) (s ++ drop (at + length s) l) at cut-long) ∙ take-append_seam s (drop (at + length s) l)

pub put-becomes : (a : Area) (at : ℕ) (ds : List ℕ) (m : Flash) → at + length ds ≤ length (bytes_in a m)
    → Becomes a at ds m (with_bytes a m (put_of (bytes_in a m) at ds).bytes)
put-becomes CodeFlash at ds m h =
    record { inside = h; now = put-now _ at ds h; under = put_under _ at ds h; past = put-past _ at ds h; other = refl }
put-becomes DataFlash at ds m h =
    record { inside = h; now = put-now _ at ds h; under = put_under _ at ds h; past = put-past _ at ds h; other = refl }
