-- Bytes put at a place in lent room: what is there afterwards, and the answer. Bytes that all have one value; whether two stretches are equal.
use Rattle.std.specs.Prelude.{Bool, false, true, List, [], ◌++◌, ◌∷◌, ◌+◌, ℕ, eqb, leb, drop, length, take, Err, Ok, Result}
use Rattle.lent.specs.declared.Short.{Short}
use Rattle.words.specs.Words.{◌and◌, if◌then◌otherwise◌}

-- l with the bytes s from the place at on; every other byte stays.
unfoldable pub put_at : List ℕ → ℕ → List ℕ → List ℕ
put_at l at s = take at l ++ s ++ drop (at + length s) l

-- What a call leaves: its answer, and all of the lent bytes.
pub record Left : Type 0 where
  pub answer : Result Unit Short
  pub bytes : List ℕ

abbrev pub left : Result Unit Short → List ℕ → Left
left a l = record { answer = a; bytes = l }

unfoldable pub put_of : List ℕ → ℕ → List ℕ → Left
put_of l at s = if leb (at + length s) (length l) then left (Ok tt) (put_at l at s) otherwise left (Err (record {})) l

-- Each of these bytes is v.
unfoldable pub all_are : ℕ → List ℕ → Bool
all_are v [] = true
all_are v (b ∷ bs) = eqb b v and all_are v bs

-- The bytes are equal, one for one.
unfoldable pub same : List ℕ → List ℕ → Bool
same [] [] = true
same [] (c ∷ cs) = false
same (b ∷ bs) [] = false
same (b ∷ bs) (c ∷ cs) = eqb b c and same bs cs
