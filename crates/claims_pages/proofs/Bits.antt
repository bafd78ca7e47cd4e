-- Laws of one byte AND another, by their bits.
-- Assumes nothing.
use mathlib.Core.Path.{◌∙◌, ◌≡◌, ap, ap₂, refl, sym}
use Prim.Native.Nat.{◌%◌, ◌*◌, ◌+◌, ◌/◌, ◌<◌, ◌^◌, ◌≤◌, ℕ}
use native.Mathlib.Decide.{dec_le}
use native.Mathlib.Nat.{div-add-mod', div-one, min-eq_left, min-eq_right, mod-eq_of_lt, mod-lt, zero-lt-suc}
use native.Mathlib.Omega.{arith}
use lib.Arith.{bin_ind}
use lib.Bits.{and_comm, and_le_l, and_le_r, and_mask, and_mod, and_shr, and_step, and_zero_r, bit_and}
use lib.Pow.{shr-shr}
use Rattle.claims_pages.specs.Bytes.{BitAfter, bit_of}

-- A bit is 0 or 1.
pub bit-small : (k n : ℕ) → bit_of k n < 2
bit-small k n = mod-lt (n / 2 ^ k) (zero-lt-suc 1)

pub bit-and : (k a b : ℕ) → bit_of k (bit_and a b) ≡ bit_and (bit_of k a) (bit_of k b)
bit-and k a b = ap (λ (n : ℕ). n % 2) (and_shr a b k) ∙ and_mod (a / 2 ^ k) (b / 2 ^ k) 1

-- Of two digits.
digit_and : (x y : ℕ) → x < 2 → y < 2 → BitAfter x y (bit_and x y)
digit_and x y h k =
    record {
      stays = λ e f. ap₂ bit_and e f;
      was = λ e. omega (arith, and_le_l x y);
      sent = λ e. omega (arith, and_le_r x y);
    }

pub bit-after : (k a b : ℕ) → BitAfter (bit_of k a) (bit_of k b) (bit_of k (bit_and a b))
bit-after k a b = rw (bit-and k a b) (digit_and (bit_of k a) (bit_of k b) (bit-small k a) (bit-small k b))

pub bit-less : (k a b : ℕ) → bit_of k (bit_and a b) ≤ bit_of k a
bit-less k a b = rw (bit-and k a b) (and_le_l (bit_of k a) (bit_of k b))

-- A byte over FFh, and FFh over a byte.
pub and_ff : (b : ℕ) → b < 256 → bit_and b 0xFF ≡ b
and_ff b h = and_mask b 8 ∙ mod-eq_of_lt h

pub ff-and : (b : ℕ) → b < 256 → bit_and 0xFF b ≡ b
ff-and b h = and_comm 0xFF b ∙ and_ff b h

-- c over b lands, or a bit of it is lost.
pub data OverByte (b c : ℕ) : Type 0 where
  fits : bit_and b c ≡ c → OverByte b c
  lost : (k : ℕ) → bit_of k c ≡ 1 → bit_of k b ≡ 0 → OverByte b c

higher : (k n : ℕ) → bit_of k (n / 2) ≡ bit_of (1 + k) n
higher k n = ap (λ (x : ℕ). x % 2) (shr-shr n 1 k)

lowest : (n : ℕ) → bit_of 0 n ≡ n % 2
lowest n = ap (λ (x : ℕ). x % 2) (div-one n)

over-step : (b c : ℕ) → OverByte (b / 2) (c / 2) → OverByte b c
over-step b c (lost k s w) = lost (1 + k) (sym (higher k c) ∙ s) (sym (higher k b) ∙ w)
over-step b c (fits e) = go (dec_le (c % 2) (b % 2))
  where
    go : Dec (c % 2 ≤ b % 2) → OverByte b c
    go (yes h) = fits (and_step b c ∙ ap₂ (λ (x y : ℕ). x * 2 + y) e (min-eq_right h) ∙ div-add-mod' c 2)
    go (no h) = let s : c % 2 < 2 = mod-lt c (zero-lt-suc 1) in lost 0 (lowest c ∙ omega arith) (lowest b ∙ omega arith)

pub over-byte : (c b : ℕ) → OverByte b c
over-byte = bin_ind (λ (c : ℕ). (b : ℕ) → OverByte b c) (λ b. fits (and_zero_r b)) (λ c ih b. over-step b c (ih (b / 2)))

-- The same byte once more clears nothing more.
pub and_again : (b c : ℕ) → bit_and (bit_and b c) c ≡ bit_and b c
and_again =
    bin_ind (λ (b : ℕ). (c : ℕ) → bit_and (bit_and b c) c ≡ bit_and b c) (λ c. refl)
    (λ b ih c.
    let half : bit_and b c / 2 ≡ bit_and (b / 2) (c / 2) = and_shr b c 1 in
    let low : bit_and b c % 2 ≤ c % 2 = rw (and_mod b c 1) (and_le_r (b % 2) (c % 2)) in
    and_step (bit_and b c) c
    ∙ ap₂ (λ (x y : ℕ). x * 2 + y) (ap (λ (n : ℕ). bit_and n (c / 2)) half ∙ ih (c / 2) ∙ sym half) (min-eq_left low)
    ∙ div-add-mod' (bit_and b c) 2)

pub and-within : (b c : ℕ) → bit_and b (bit_and b c) ≡ bit_and b c
and-within b c = and_comm b (bit_and b c) ∙ ap (λ (n : ℕ). bit_and n b) (and_comm b c) ∙ and_again c b ∙ and_comm c b
