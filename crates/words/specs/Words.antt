-- The words that every definition of the house is written with: if-then-otherwise, and, or, a number in a range.
-- They are `unfoldable`: a proof that looks into one says so.
use Rattle.std.specs.Prelude.{Bool, true, false, ℕ, leb}

infix 5 if◌then◌otherwise◌
unfoldable pub if◌then◌otherwise◌ : {A : Type 0} → Bool → A → A → A
if true then a otherwise b = a
if false then a otherwise b = b

infixr 8 ◌and◌
unfoldable pub ◌and◌ : Bool → Bool → Bool
true and b = b
false and b = false

infixr 7 ◌or◌
unfoldable pub ◌or◌ : Bool → Bool → Bool
true or b = true
false or b = b

infix 20 ◌from◌to◌
unfoldable pub ◌from◌to◌ : ℕ → ℕ → ℕ → Bool
n from low to high = leb low n and leb n high
