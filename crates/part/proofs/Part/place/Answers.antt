-- `part::Part::place` meets its contract: each test is the definition's, in its order.
-- Assumes nothing.
use mathlib.Core.Path.{◌∙◌, sym}
use Rattle.part.specs.Part.{place_of}
use Rattle.words.specs.Words.{if◌then◌otherwise◌}
use Rattle.part.proofs.Part.place.Goals as goal

pub place_in-requires : goal.place_in-requires
place_in-requires c = sym c.lies_in.ensures ∙ c.if-lies_in.true

pub returns-then-lies_in : goal.returns-then-lies_in
unfolding place_of if◌then◌otherwise◌
returns-then-lies_in c = simp (← c.lies_in.ensures, c.if-lies_in.true, ← c.place_in.ensures)

pub place_in-requires-then-lies_in-2 : goal.place_in-requires-then-lies_in-2
place_in-requires-then-lies_in-2 c = sym c.lies_in-2.ensures ∙ c.if-lies_in-2.true

pub returns-then-lies_in-2 : goal.returns-then-lies_in-2
unfolding place_of if◌then◌otherwise◌
returns-then-lies_in-2 c = simp (← c.lies_in.ensures, c.if-lies_in.false, ← c.lies_in-2.ensures, c.if-lies_in-2.true, ← c.place_in-then-lies_in-2.ensures)

pub returns : goal.returns
unfolding place_of if◌then◌otherwise◌
returns c = simp (← c.lies_in.ensures, c.if-lies_in.false, ← c.lies_in-2.ensures, c.if-lies_in-2.false)
