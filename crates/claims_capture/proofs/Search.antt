-- What the search for a record that does not pass finds, and that it is the only such thing.
-- Assumes nothing.
use mathlib.Core.Bool.{Bool, false, false≢true, true}
use mathlib.Core.List.{List, [], ◌∷◌}
use mathlib.Core.Path.{◌∙◌, ◌≡◌, ap, refl, sym}
use Prim.Native.Nat.{◌<◌, suc, zero, ℕ}
use native.Mathlib.Decide.{dec_lt}
use native.Mathlib.Omega.{arith}
use lib.ListN.{get_or, length}
use Rattle.claims_capture.specs.Answers.{AllPass, FirstNot}
use Rattle.conversion.specs.Conversion.{first_not, one_later, passes}
use Rattle.conversion.specs.declared.Asked.{Asked}
use Rattle.std.specs.Prelude.{None, Option, Some}
use Rattle.replay_capture.specs.declared.Form.{Form}
use Rattle.words.specs.Words.{if◌then◌otherwise◌}

pub data Search (good : List ℕ → Bool) (rs : List (List ℕ)) : Option ℕ → Type 0 where
  nowhere : AllPass good rs → Search good rs None
  at : (k : ℕ) → FirstNot good rs k → Search good rs (Some k)

module _ (good : List ℕ → Bool) (r : List ℕ) (rs : List (List ℕ)) where
  pub one_more : (n : ℕ) → good r ≡ true → ((i : ℕ) → i < n → good (get_or rs i []) ≡ true) → (i : ℕ) → i < suc n → good (get_or (r ∷ rs) i []) ≡ true
  one_more n e f zero h = e
  one_more n e f (suc i) h = f i (omega arith)

  later : {f : Option ℕ} → good r ≡ true → Search good rs f → Search good (r ∷ rs) (one_later f)
  unfolding one_later
  later e (nowhere f) = nowhere (one_more (length rs) e f)
  later e (at k x) = at (suc k) (record { there = omega (arith, x.there); fails = x.fails; before = one_more k e x.before })

pub search_is : (form : Form) (asked : Asked) (rs : List (List ℕ)) → Search (passes form asked) rs (first_not form asked rs)
unfolding first_not if◌then◌otherwise◌
search_is form asked [] = nowhere (λ i h. absurd (omega arith))
search_is form asked (r ∷ rs) = go (passes form asked r) refl (search_is form asked rs)
  where
    go : (t : Bool) → passes form asked r ≡ t → Search (passes form asked) rs (first_not form asked rs)
        → Search (passes form asked) (r ∷ rs) (if t then one_later (first_not form asked rs) otherwise Some 0)
    go true e s = later (passes form asked) r rs e s
    go false e s = at 0 (record { there = omega arith; fails = e; before = λ i h. absurd (omega arith) })

module _ {good : List ℕ → Bool} {rs : List (List ℕ)} where
  apart : {k : ℕ} → FirstNot good rs k → good (get_or rs k []) ≡ true → ⊥
  apart x e = false≢true (sym x.fails ∙ e)

  pub search-only : {f g : Option ℕ} → Search good rs f → Search good rs g → f ≡ g
  search-only (nowhere a) (nowhere b) = refl
  search-only (nowhere a) (at k y) = absurd (apart y (a k y.there))
  search-only (at k x) (nowhere b) = absurd (apart x (b k x.there))
  search-only (at k x) (at l y) = go (dec_lt k l) (dec_lt l k)
    where
      go : Dec (k < l) → Dec (l < k) → Some k ≡ Some l
      go (yes h) d = absurd (apart x (y.before k h))
      go (no h) (yes i) = absurd (apart y (x.before l i))
      go (no h) (no i) = let e : k ≡ l = omega arith in ap Some e
