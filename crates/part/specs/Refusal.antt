-- Document 01, "Refusal numbers": the number of each refusal.
use Rattle.std.specs.Prelude.{Bool, List, [], ◌∷◌, ℕ, Err, Ok, Result}
use Rattle.part.specs.declared.refusal.Refusal.{Refusal}
use Rattle.part.specs.declared.refusal.Refusal.TheVariants.{BadPart, BadRange, BadState, CodeLength, DataLength, ImageLength, ManyRetries, OutOfTurn, ShortRoom}
use Rattle.words.specs.Words.{if◌then◌otherwise◌}

abbrev pub number : Refusal → ℕ
number BadPart = 1  -- part description outside its numbers, or rate or supply of a job outside 9Ah's
number CodeLength = 2  -- code slice not the length of the code blocks
number DataLength = 3  -- data slice not the length of the data blocks
number ShortRoom = 4  -- reply or frame room too short
number BadRange = 5  -- job range bad
number ImageLength = 6  -- image length not the range's
number ManyRetries = 7  -- retries over 15
number OutOfTurn = 8  -- reply or timeout given when none is awaited, frame asked when one is, or job over
number BadState = 9  -- a chip state or a dock state that is none

-- Refusals in order: the first whose condition holds decides.
pub record Condition : Type 0 where
  pub refusal : Refusal
  pub holds : Bool

infix 70 ◌when◌
abbrev pub ◌when◌ : Refusal → Bool → Condition
r when t = record { refusal = r; holds = t }

unfoldable pub first_of : List Condition → Result Unit Refusal
first_of [] = Ok tt
first_of (x ∷ xs) = if x.holds then Err x.refusal otherwise first_of xs
