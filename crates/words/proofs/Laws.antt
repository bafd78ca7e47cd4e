-- Laws about the words: what a joined test that holds says of its parts.
-- Assumes nothing.
use mathlib.Core.Bool.{Bool, false, false≢true, true}
use mathlib.Core.Path.{◌≡◌, refl}
use Rattle.words.specs.Words.{◌and◌, ◌or◌, if◌then◌otherwise◌}

pub and_left : (a b : Bool) → a and b ≡ true → a ≡ true
unfolding ◌and◌
and_left true b t = refl
and_left false b t = t

pub and_right : (a b : Bool) → a and b ≡ true → b ≡ true
unfolding ◌and◌
and_right true b t = t
and_right false b t = absurd (false≢true t)

pub and_both : {a b : Bool} → a ≡ true → b ≡ true → a and b ≡ true
unfolding ◌and◌
and_both p q = simp (p, q)

pub and_assoc : (a b c : Bool) → (a and b) and c ≡ a and (b and c)
unfolding ◌and◌
and_assoc true b c = refl
and_assoc false b c = refl

pub and-true : (a : Bool) → a and true ≡ a
unfolding ◌and◌
and-true true = refl
and-true false = refl

pub and-false : {b : Bool} (a : Bool) → false ≡ b → false ≡ a and b
unfolding ◌and◌
and-false true e = e
and-false false e = refl

pub or_left : {a : Bool} (b : Bool) → a ≡ true → a or b ≡ true
unfolding ◌or◌
or_left b p = simp p

pub or_right : (a : Bool) {b : Bool} → b ≡ true → a or b ≡ true
unfolding ◌or◌
or_right true q = refl
or_right false q = q

-- A claim about an if-then-else holds where it holds of each branch, the test having come out so.
pub if-all : {A : Type 0} (P : A → Type 0) (t : Bool) {a b : A} → (t ≡ true → P a) → (t ≡ false → P b) → P (if t then a otherwise b)
unfolding if◌then◌otherwise◌
if-all P true f g = f refl
if-all P false f g = g refl

-- What holds of both branches holds of the choice.
pub if-both : {A : Type 0} (P : A → Type 0) (t : Bool) {a b : A} → P a → P b → P (if t then a otherwise b)
if-both P t p q = if-all P t (λ e. p) (λ e. q)
