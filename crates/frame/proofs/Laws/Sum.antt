-- The SUM fact, once over the modulus: what SUM is, that the SUM of a joined list follows from its parts, and that one changed byte changes it.
-- Assumes nothing.
use Rattle.std.proofs.Common.{◌≡◌, ℕ, zero, suc, ◌+◌, ◌-◌, ◌*◌, ◌%◌, ◌<◌, ◌≤◌, ◌≢◌, List, [], ◌∷◌, ◌++◌, length, get_or, take, drop, set, sym, refl, ◌∙◌, mod-eq_of_lt, suc-mul, zero-mul, arith, le-leb}
use native.Mathlib.Decide.{dec_le}
use native.Mathlib.Nat.{mod-eq-sub-mod}
use borrow.Author.Tests.{lt-leb}
use Rattle.std.specs.List.{fold}
use Rattle.frame.specs.Sum.{less, less_all}
use Rattle.words.specs.Words.{if◌then◌otherwise◌}

data Cases (m a b : ℕ) : Type 0 where
  plain : b ≤ a → less m a b ≡ a - b → Cases m a b
  under : a < b → less m a b ≡ a + m - b → Cases m a b

cases : (m a b : ℕ) → Cases m a b
unfolding less if◌then◌otherwise◌
cases m a b = go (dec_le b a)
  where
    go : Dec (b ≤ a) → Cases m a b
    go (yes h) = plain h (simp (le-leb _ _ h))
    go (no h) = under (omega arith) (simp (lt-leb b a (omega arith)))

pub less-below : (m a b : ℕ) → a < m → b < m → less m a b < m
less-below m a b h k = go (cases m a b)
  where
    go : Cases m a b → less m a b < m
    go (plain p e) = omega arith
    go (under p e) = omega arith

-- The machine's subtraction is the definition's.
pub less_is : (m a b : ℕ) → a < m → b < m → (a + (m - b)) % m ≡ less m a b
less_is m a b h k = go (cases m a b)
  where
    go : Cases m a b → (a + (m - b)) % m ≡ less m a b
    go (plain p e) =
        let s : a + (m - b) - m ≡ a - b = omega arith in
        let w : m ≤ a + (m - b) = omega arith in
        mod-eq-sub-mod w ∙ rw s (mod-eq_of_lt (omega arith)) ∙ sym e
    go (under p e) = mod-eq_of_lt (omega arith) ∙ omega arith

-- Each number of the list is below the modulus.
pub data Below (m : ℕ) : List ℕ → Type 0 where
  none : Below m []
  more : {b : ℕ} {bs : List ℕ} → b < m → Below m bs → Below m (b ∷ bs)

pub below_each : {m : ℕ} (bs : List ℕ) → ((i : ℕ) → get_or bs i 0 < m) → Below m bs
below_each [] h = none
below_each (b ∷ bs) h = more (h 0) (below_each bs (λ i. h (suc i)))

pub below-take : (m n : ℕ) {bs : List ℕ} → Below m bs → Below m (take n bs)
below-take m zero b = none
below-take m (suc n) none = none
below-take m (suc n) (more h r) = more h (below-take m n r)

pub below-drop : (m n : ℕ) {bs : List ℕ} → Below m bs → Below m (drop n bs)
below-drop m zero b = b
below-drop m (suc n) none = none
below-drop m (suc n) (more h r) = below-drop m n r

pub below-append : {m : ℕ} {bs cs : List ℕ} → Below m bs → Below m cs → Below m (bs ++ cs)
below-append none c = c
below-append (more h r) c = more h (below-append r c)

pub below_at : {m : ℕ} {bs : List ℕ} (i : ℕ) → 0 < m → Below m bs → get_or bs i 0 < m
below_at i h none = h
below_at zero h (more k r) = k
below_at (suc i) h (more k r) = below_at i h r

-- What SUM is: with all the bytes added it makes the start again, and a whole number of moduli, one for each borrow.
pub total : List ℕ → ℕ
total [] = 0
total (b ∷ bs) = b + total bs

pub record Sums (m s : ℕ) (bs : List ℕ) : Type 0 where
  pub borrows : ℕ
  pub below : less_all m s bs < m
  pub adds : less_all m s bs + total bs ≡ s + borrows * m

pub sum_is : (m s : ℕ) (bs : List ℕ) → s < m → Below m bs → Sums m s bs
unfolding less_all total
sum_is m s [] h none = record { borrows = 0; below = h; adds = let z : 0 * m ≡ 0 = zero-mul m in omega arith }
sum_is m s (b ∷ bs) h (more k r) = go (cases m s b) (sum_is m (less m s b) bs (less-below m s b h k) r)
  where
    go : Cases m s b → Sums m (less m s b) bs → Sums m s (b ∷ bs)
    go (plain p e) t = record { borrows = t.borrows; below = t.below; adds = omega (arith, t.adds) }
    go (under p e) t =
        record {
          borrows = suc t.borrows;
          below = t.below;
          adds = let z : suc t.borrows * m ≡ t.borrows * m + m = suc-mul t.borrows m in omega (arith, t.adds);
        }

-- The SUM of a joined list follows from its parts.
pub sum-join : (m s : ℕ) (xs ys : List ℕ) → less_all m s (xs ++ ys) ≡ less_all m (less_all m s xs) ys
unfolding less_all
sum-join m s [] ys = refl
sum-join m s (x ∷ xs) ys = sum-join m (less m s x) xs ys

-- Two bytes that differ leave different numbers, and so do two starts.
less-byte : (m a x y : ℕ) → a < m → x < m → y < m → less m a x ≡ less m a y → x ≡ y
less-byte m a x y h i j e = go (cases m a x) (cases m a y)
  where
    go : Cases m a x → Cases m a y → x ≡ y
    go (plain p q) (plain r s) = omega arith
    go (plain p q) (under r s) = omega arith
    go (under p q) (plain r s) = omega arith
    go (under p q) (under r s) = omega arith

less-start : (m a c b : ℕ) → a < m → c < m → b < m → less m a b ≡ less m c b → a ≡ c
less-start m a c b h i j e = go (cases m a b) (cases m c b)
  where
    go : Cases m a b → Cases m c b → a ≡ c
    go (plain p q) (plain r s) = omega arith
    go (plain p q) (under r s) = omega arith
    go (under p q) (plain r s) = omega arith
    go (under p q) (under r s) = omega arith

sum-start : (m a c : ℕ) (bs : List ℕ) → a < m → c < m → Below m bs → less_all m a bs ≡ less_all m c bs → a ≡ c
unfolding less_all
sum-start m a c [] h i none e = e
sum-start m a c (b ∷ bs) h i (more k r) e =
    less-start m a c b h i k (sum-start m (less m a b) (less m c b) bs (less-below m a b h k) (less-below m c b i k) r e)

-- Changing exactly one byte changes SUM.
pub one_byte : (m s : ℕ) (bs : List ℕ) (i v : ℕ) → s < m → v < m → Below m bs → i < length bs → get_or bs i 0 ≢ v
    → less_all m s (set bs i v) ≢ less_all m s bs
unfolding less_all
one_byte m s [] i v h k none l d e = omega arith
one_byte m s (b ∷ bs) zero v h k (more j r) l d e =
    d (sym (less-byte m s v b h k j (sum-start m (less m s v) (less m s b) bs (less-below m s v h k) (less-below m s b h j) r e)))
one_byte m s (b ∷ bs) (suc i) v h k (more j r) l d e = one_byte m (less m s b) bs i v (less-below m s b h j) k r (omega arith) d e

-- s less each byte in turn is a fold.
pub folded : (m s : ℕ) (bs : List ℕ) → fold (less m) s bs ≡ less_all m s bs
unfolding less_all
folded m s [] = refl
folded m s (b ∷ bs) = folded m (less m s b) bs
