-- Laws of the kept sums: where a slot lies, a block's bytes, and how far a loop over the blocks has come.
-- Assumes nothing.
use mathlib.Core.Bool.{not}
use mathlib.Core.List.{List, [], ◌∷◌}
use mathlib.Core.Path.{◌∙◌, ◌≡◌, ap, refl, sym}
use Prim.Native.Nat.{◌*◌, ◌+◌, ◌<◌, ◌^◌, ◌≤◌, ℕ}
use native.Mathlib.Nat.{mul-le-mul_right, one-mul}
use native.Mathlib.Numerals.{add-one}
use native.Mathlib.Omega.{arith}
use lib.Dec.{eqb}
use lib.ListN.{get_or-eq_default, drop, length, set, take}
use lib.Seq.{set_out}
use Rattle.chip_core.specs.Effect.{Flash, Memory, bytes_in, flash, memory}
use Rattle.chip_sums.specs.Sums.{block_sum, flash_verdict, kept, range_bytes, resummed, slot, summed_to}
use Rattle.part.proofs.Laws.{row_ends, row-goes-on, size_small}
use Rattle.part.specs.Part.{block_size, blocks, described, size}
use Rattle.part.specs.Refusal.{Condition, ◌when◌, first_of}
use Rattle.part.specs.declared.refusal.Refusal.{Refusal}
use Rattle.part.specs.declared.refusal.Refusal.TheVariants.{BadPart, CodeLength, DataLength}
use Rattle.part.specs.declared.Area.{Area}
use Rattle.part.specs.declared.Area.TheVariants.{CodeFlash, DataFlash}
use Rattle.part.specs.declared.Part.{Part}
use Rattle.part.specs.declared.Place.{Place}
use Rattle.std.specs.Prelude.{Err, None, Ok, Option, Some}
use Rattle.words.proofs.Laws.{if-all}

-- No slot comes before its block's number.
pub slot-past : (a : Area) (b : ℕ) → b ≤ slot a b
unfolding slot
slot-past CodeFlash b = omega arith
slot-past DataFlash b = omega arith

-- Past the last slot nothing is kept, and nothing is put.
pub none_kept : (s : List ℕ) (a : Area) (b : ℕ) → length s ≤ slot a b → 0 ≡ kept s a b
unfolding kept
none_kept s a b h = sym (get_or-eq_default s 0 h)

pub none-put : (s : List ℕ) (a : Area) (b x : ℕ) → length s ≤ slot a b → s ≡ set s (slot a b) x
none-put s a b x h = sym (set_out s (slot a b) x h)

-- The bytes up to a block of the part can be counted.
pub counts : (p : Part) (a : Area) (n s : ℕ) → s ≡ block_size p a → n ≤ blocks p a → p.code_blocks < 2 ^ 32 → p.data_blocks < 2 ^ 32 → n * s ≤ 2 ^ 48
counts p a n s e h i j =
    let m : n * block_size p a ≤ blocks p a * block_size p a = mul-le-mul_right (block_size p a) h in
    rw e (omega (arith, size_small p a i j))

-- The bytes of a range, counted by a size that is the block's.
pub range-in : {t : List ℕ} {s : ℕ} (p : Part) (a : Area) (block count : ℕ) (m : Flash) → s ≡ block_size p a → t ≡ take (count * s) (drop (block * s) (bytes_in a m))
    → t ≡ range_bytes p a block count m
unfolding range_bytes
range-in p a block count m e f = f ∙ ap (λ (n : ℕ). take (count * n) (drop (block * n) (bytes_in a m))) e

-- One block's bytes.
pub block-bytes : (p : Part) (a : Area) (b : ℕ) (m : Flash) → range_bytes p a b 1 m ≡ take (block_size p a) (drop (b * block_size p a) (bytes_in a m))
unfolding range_bytes
block-bytes p a b m = ap (λ (n : ℕ). take n (drop (b * block_size p a) (bytes_in a m))) (one-mul (block_size p a))

-- The verdict on what is lent of flash stands first in every row of refusals that begins as it does.
pub flash-bars : {r : Refusal} (p : Part) (code «data» : ℕ) (own : List Condition) → flash_verdict p code «data» ≡ Err r
    → first_of (BadPart when not (described p) ∷ CodeLength when not (eqb code (size p CodeFlash)) ∷ DataLength when not (eqb «data» (size p DataFlash)) ∷ own) ≡ Err r
unfolding flash_verdict
flash-bars p code «data» own e =
    row_ends (BadPart when not (described p) ∷ CodeLength when not (eqb code (size p CodeFlash)) ∷ DataLength when not (eqb «data» (size p DataFlash)) ∷ []) own _ e

pub flash-lets : (p : Part) (code «data» : ℕ) (own : List Condition) → flash_verdict p code «data» ≡ Ok tt
    → first_of (BadPart when not (described p) ∷ CodeLength when not (eqb code (size p CodeFlash)) ∷ DataLength when not (eqb «data» (size p DataFlash)) ∷ own)
    ≡ first_of own
unfolding flash_verdict
flash-lets p code «data» own e =
    row-goes-on (BadPart when not (described p) ∷ CodeLength when not (eqb code (size p CodeFlash)) ∷ DataLength when not (eqb «data» (size p DataFlash)) ∷ []) own e

-- How far a loop over an area's blocks has come: those before block i are summed.
pub record SummedTo (p : Part) (a : Area) (m : Flash) (l : List ℕ) (i : ℕ) (s : List ℕ) : Type 0 where
  pub is : s ≡ summed_to i p a m l

pub summed-start : (p : Part) (a : Area) (m : Flash) (l : List ℕ) → SummedTo p a m l 0 l
unfolding summed_to
summed-start p a m l = record { is = refl }

pub summed_turn : {p : Part} {a : Area} {m : Flash} {l s t : List ℕ} {i x : ℕ} → SummedTo p a m l i s → x ≡ block_sum p a i m → t ≡ set s (slot a i) x
    → SummedTo p a m l (i + 1) t
unfolding summed_to
summed_turn {p} {a} {m} {l} {s} {t} {i} {x} f e g = record { is = rw (add-one, g, e, f.is) }

pub summed-end : {p : Part} {a : Area} {m : Flash} {l s : List ℕ} {i n : ℕ} → SummedTo p a m l i s → i ≡ n → s ≡ summed_to n p a m l
summed-end f e = f.is ∙ rw e

-- A sum worked out afresh leaves flash as it was.
pub resummed-flash : (p : Part) (at : Option Place) (m : Memory) → (resummed p at m).flash ≡ m.flash
unfolding resummed
resummed-flash p None m = refl
resummed-flash p (Some place) m = if-all (λ (n : Memory). n.flash ≡ m.flash) _ (λ t. refl) (λ t. refl)

-- What a change of flash and the sum worked out after it leave.
pub resummed-after : {c d t : List ℕ} {f : Flash} (p : Part) (at : Option Place) (s : List ℕ) → flash c d ≡ f → t ≡ (resummed p at (memory c d s)).sums
    → memory c d t ≡ resummed p at (record { flash = f; sums = s })
resummed-after {c} {d} p at s e g =
    let m : Memory = memory c d s in
    ap (λ (x : List ℕ). memory c d x) g
    ∙ ap (λ (x : Flash). record { flash = x; sums = (resummed p at m).sums }) (sym (resummed-flash p at m))
    ∙ ap (λ (x : Flash). resummed p at (record { flash = x; sums = s })) e
