-- Laws about the lasting options: which of them are good, and how they stand in bytes.
-- Assumes nothing.
use mathlib.Core.Bool.{true}
use mathlib.Core.List.{List, [], ◌++◌, ◌∷◌, append_assoc}
use mathlib.Core.Path.{◌≡◌, ap, refl}
use Prim.Native.Nat.{◌%◌, ◌/◌, ◌<◌, ◌^◌, suc, ℕ}
use native.Mathlib.Omega.{arith}
use lib.Dec.{eqb}
use lib.ListN.{length}
use borrow.Author.Tests.{le-leb, lt-ltb}
use Rattle.chip_options.specs.Options.{fixed_bits, fresh_options, good_options, last_block, option_bytes, options_in, released, security}
use Rattle.chip_options.specs.declared.Options.{Options}
use Rattle.numbers.proofs.Laws.{low-2, low-long, number-low}
use Rattle.numbers.specs.Numbers.{low_first, number_at}
use Rattle.part.proofs.Laws.{blocks-bare, described-is}
use Rattle.part.specs.Part.{bare, blocks, described}
use Rattle.part.specs.declared.Area.TheVariants.{CodeFlash}
use Rattle.part.specs.declared.Part.{Part}
use Rattle.words.proofs.Laws.{and_both, and_left, and_right}
use Rattle.words.specs.Words.{◌and◌}

pub last_block_lem : (p : Part) → described p ≡ true → last_block p < blocks p CodeFlash
unfolding last_block
last_block_lem p d = omega (arith, (described-is p d).code-least)

pub fresh-good : (p : Part) → described p ≡ true → good_options p (fresh_options p) ≡ true
unfolding good_options fresh_options fixed_bits ◌and◌
fresh-good p d = simp (le-leb 0 (last_block p) (omega arith), lt-ltb _ _ (last_block_lem p d))

fresh-bits : (p : Part) → fixed_bits p 0xFF ≡ true
unfolding fixed_bits ◌and◌
fresh-bits p = refl

pub released-good : (p : Part) (o : Options) → described p ≡ true → good_options p o ≡ true → good_options p (released p o) ≡ true
unfolding good_options released
released-good p o d g =
    let b : eqb o.boot 0x03 ≡ true = and_left _ _ (and_right (fixed_bits p o.flags) _ g) in
    and_both (fresh-bits p) (and_both b (and_both (le-leb 0 (last_block p) (omega arith)) (lt-ltb _ _ (last_block_lem p d))))

-- No name of a part is looked at.
pub options-bare : (p : Part) (o : Options) → good_options (bare p) o ≡ good_options p o
unfolding good_options fixed_bits
options-bare p o = rw (blocks-bare p CodeFlash)

-- The options as bytes, one by one, and how many A1h says.
pub option-bytes : (o : Options) → option_bytes o ≡ o.flags ∷ o.boot ∷ o.start % 256 ∷ o.start / 256 % 256 ∷ o.end % 256 ∷ o.end / 256 % 256 ∷ []
unfolding option_bytes
option-bytes o = rw (low-2 o.start, low-2 o.end)

pub security-bytes : (o : Options)
    → security o ≡ o.flags ∷ o.boot ∷ o.start % 256 ∷ o.start / 256 % 256 ∷ o.end % 256 ∷ o.end / 256 % 256 ∷ 0xFF ∷ 0xFF ∷ []
unfolding security
security-bytes o = rw (option-bytes o)

pub security-long : (o : Options) → length (security o) ≡ 8
security-long o = rw (security-bytes o)

-- What was written is read back, where the window's blocks take two bytes.
pub options-back : (o : Options) (ys : List ℕ) → o.start < 256 ^ 2 → o.end < 256 ^ 2 → options_in (option_bytes o ++ ys) ≡ o
unfolding options_in option_bytes
options-back o ys h k =
    let long : length (o.flags ∷ o.boot ∷ low_first 2 o.start) ≡ 4 = ap (λ (n : ℕ). suc (suc n)) (low-long 2 o.start) in
    let s : number_at 2 2 (o.flags ∷ o.boot ∷ (low_first 2 o.start ++ low_first 2 o.end) ++ ys) ≡ o.start =
    rw append_assoc (number-low 2 o.start (o.flags ∷ o.boot ∷ []) (low_first 2 o.end ++ ys) h) in
    let e : number_at 2 4 (o.flags ∷ o.boot ∷ (low_first 2 o.start ++ low_first 2 o.end) ++ ys) ≡ o.end =
    rw (← long) (number-low 2 o.end (o.flags ∷ o.boot ∷ low_first 2 o.start) ys k) in
    rw (s, e)
