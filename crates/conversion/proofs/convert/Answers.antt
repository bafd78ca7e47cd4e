-- `conversion::convert` meets its contract: one judgement after the other, then the writing.
-- Assumes nothing.
use Rattle.conversion.specs.Conversion.{convert_by, convert_of}
use Rattle.conversion.proofs.convert.Goals as goal

pub returns-in-Some : goal.returns-in-Some
unfolding convert_of convert_by
returns-in-Some c = simp (← c.first_not.ensures, c.in-Some.is)

pub returns-in-Some-first_not : goal.returns-in-Some-first_not
unfolding convert_of convert_by
returns-in-Some-first_not c = simp (← c.first_not.ensures, c.in_default.is, ← c.first_not-2.ensures, c.in-Some-first_not.is)

pub returns : goal.returns
unfolding convert_of convert_by
returns c = simp (← c.first_not.ensures, c.in_default.is, ← c.first_not-2.ensures, c.in_default-first_not.is, ← c.write.ensures)
