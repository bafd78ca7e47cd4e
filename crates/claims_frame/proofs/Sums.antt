-- The SUM fact step by step, over any modulus: what wraps back when a byte is added, and a walk over the bytes from a place on. Document 01, "Frames".
-- Assumes nothing.
use Rattle.std.proofs.Common.{◌≡◌, ℕ, ◌+◌, ◌-◌, ◌%◌, ◌<◌, ◌≤◌, List, length, get_or, drop, sym, refl, ap, ◌∙◌, mod-eq_of_lt, add-one, arith, drop_of_length-le, drop-cons}
use native.Mathlib.Decide.{dec_le}
use native.Mathlib.Nat.{mod-eq-sub-mod}
use Rattle.frame.proofs.Laws.Sum.{less_is}
use Rattle.frame.specs.Sum.{less, less_all}

-- What wraps back to a when b is added is a less b: this ties the machine's subtraction to the definition.
pub less-wraps : (m r a b : ℕ) → r < m → b < m → (r + b) % m ≡ a → r ≡ less m a b
less-wraps m r a b h k e = go (dec_le m (r + b))
  where
    go : Dec (m ≤ r + b) → r ≡ less m a b
    go (yes w) =
        let f : a ≡ r + b - m = sym e ∙ mod-eq-sub-mod w ∙ mod-eq_of_lt (omega arith) in
        let g : a + (m - b) ≡ r = omega arith in
        sym (mod-eq_of_lt h) ∙ ap (λ (n : ℕ). n % m) (sym g) ∙ less_is m a b (omega arith) k
    go (no w) =
        let f : a ≡ r + b = sym e ∙ mod-eq_of_lt (omega arith) in
        let g : a + (m - b) ≡ r + m = omega arith in
        let u : m ≤ r + m = omega arith in
        let z : r + m - m ≡ r = omega arith in
        sym (mod-eq-sub-mod u ∙ rw z (mod-eq_of_lt h)) ∙ ap (λ (n : ℕ). n % m) (sym g) ∙ less_is m a b (omega arith) k

-- What a SUM from s makes of the bytes from the place i on.
pub record From (m s : ℕ) (bs : List ℕ) (i t : ℕ) : Type 0 where
  pub rest : less_all m s (drop i bs) ≡ t

pub from_start : (m s : ℕ) (bs : List ℕ) → From m s bs 0 (less_all m s bs)
from_start m s bs = record { rest = refl }

pub from-turn : {m s r t : ℕ} {bs : List ℕ} {i : ℕ} → From m s bs i t → r ≡ less m s (get_or bs i 0) → i < length bs → From m r bs (i + 1) t
unfolding less_all
from-turn {m} {s} {r} {t} {bs} {i} f e h = record { rest = rw (e, add-one) (rw (drop-cons bs i 0 h) at f.rest) }

pub from_end : {m s t : ℕ} {bs : List ℕ} {i : ℕ} → From m s bs i t → length bs ≤ i → s ≡ t
unfolding less_all
from_end {m} {s} {t} {bs} {i} f h = rw (drop_of_length-le bs h) at f.rest
