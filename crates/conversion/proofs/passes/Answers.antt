-- `conversion::passes` meets its contract: one question or the other.
-- Assumes nothing.
use Rattle.conversion.specs.Conversion.{passes}
use Rattle.conversion.proofs.passes.Goals as goal

pub returns-in-Good : goal.returns-in-Good
unfolding passes
returns-in-Good c = simp (c.in-Good.is, ← c.is_good.ensures)

pub returns-in-Held : goal.returns-in-Held
unfolding passes
returns-in-Held c = simp (c.in-Held.is, ← c.is_held.ensures)
