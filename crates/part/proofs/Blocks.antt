-- Blocks, pages and ranges as arithmetic on offsets, over any size of a block: proved once, used at 1,024 and at 256.
-- Assumes nothing.
use mathlib.Core.Path.{◌≡◌, sym}
use Prim.Native.Nat.{◌%◌, ◌*◌, ◌+◌, ◌-◌, ◌/◌, ◌<◌, ◌≤◌, suc, zero, ℕ}
use native.Mathlib.Nat.{div-add-mod', div-eq_of_lt-le, div-lt_iff_lt-mul, div-mul-le_self, le-div_iff_mul-le, le_of_mul-le-mul_right, mul-div_left, mul-mod_left, suc-mul, zero-mul}
use native.Mathlib.Numerals.{add-one}
use native.Mathlib.Omega.{arith}

module _ (s : ℕ) (pos : 0 < s) where
  pub div_mono : (x y : ℕ) → x ≤ y → x / s ≤ y / s
  div_mono x y h = (le-div_iff_mul-le pos).1 (let l : x / s * s ≤ x = div-mul-le_self x s in omega arith)

  -- An offset below n blocks lies in one of those n.
  pub below : (n x : ℕ) → x < n * s → x / s < n
  below n x h = (div-lt_iff_lt-mul pos).1 h

  -- A block's first byte, and its last.
  pub first_byte : (x : ℕ) → x % s ≡ 0 → x ≡ x / s * s
  first_byte x z = omega (arith, div-add-mod' x s)

  last_of : (y q : ℕ) → q * s ≡ y + 1 → q ≡ y / s + 1
  last_of y zero e = let z : 0 * s ≡ 0 = zero-mul s in omega arith
  last_of y (suc k) e =
      let m : suc k * s ≡ k * s + s = suc-mul k s in
      let d : y / s ≡ k = div-eq_of_lt-le s (omega arith) (rw add-one (omega arith)) in
      omega arith

  pub last_byte : (y : ℕ) → (y + 1) % s ≡ 0 → y + 1 ≡ (y / s + 1) * s
  last_byte y z =
      let e : (y + 1) / s * s ≡ y + 1 = omega (arith, div-add-mod' (y + 1) s) in
      rw (← last_of y ((y + 1) / s) e) (sym e)

  -- From the offset x to the offset y stand count whole blocks, the first of them the block numbered block.
  pub record Whole (x y block count : ℕ) : Type 0 where
    pub begins : x ≡ block * s
    pub ends : y + 1 ≡ (block + count) * s
    pub some : 1 ≤ count

  pub whole : (x y : ℕ) → x ≤ y → x % s ≡ 0 → (y + 1) % s ≡ 0 → Whole x y (x / s) (y / s + 1 - x / s)
  whole x y h p q =
      let m : x / s ≤ y / s = div_mono x y h in
      let k : x / s + (y / s + 1 - x / s) ≡ y / s + 1 = omega arith in
      record { begins = first_byte x p; ends = rw k (last_byte y q); some = omega arith }

  pub whole-inside : (n x y block count : ℕ) → Whole x y block count → y < n * s → block + count ≤ n
  whole-inside n x y block count w h = le_of_mul-le-mul_right (omega (arith, w.ends)) pos

  -- And nothing else is whole blocks: the numbers can be read off the ends.
  pub record Read (x y block count : ℕ) : Type 0 where
    pub start : x % s ≡ 0
    pub end : (y + 1) % s ≡ 0
    pub number : x / s ≡ block
    pub long : y / s + 1 - x / s ≡ count

  pub whole-read : (x y block count : ℕ) → Whole x y block count → Read x y block count
  whole-read x y block count w =
      let n : x / s ≡ block = rw w.begins (mul-div_left block pos) in
      let e : block + count ≡ y / s + 1 = last_of y (block + count) (sym w.ends) in
      record {
        start = rw w.begins (mul-mod_left block s);
        end = rw w.ends (mul-mod_left (block + count) s);
        number = n;
        long = omega arith;
      }
