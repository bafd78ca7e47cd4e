-- `part::Part::last` meets its contract: no address wraps.
-- Assumes nothing.
use native.Mathlib.Omega.{arith}
use borrow.Author.Rules.{rules}
use borrow.Author.Tests.{eq-eqb, ne_eqb}
use Rattle.part.proofs.Laws.{first_small, size_small}
use Rattle.part.specs.Part.{last_of}
use Rattle.words.specs.Words.{if◌then◌otherwise◌}
use Rattle.part.proofs.Part.last.Goals as goal

pub returns-then-size-eq0 : goal.returns-then-size-eq0
unfolding last_of if◌then◌otherwise◌
returns-then-size-eq0 c = simp (← c.size-size.ensures, eq-eqb _ _ c.if-size-eq0.true)

pub overflow_add-result : goal.overflow_add-result
overflow_add-result c = omega (arith, size_small c.args.self c.args.area (search rules) (search rules), first_small c.args.area)

pub returns : goal.returns
unfolding last_of if◌then◌otherwise◌
returns c = simp (← c.size-size.ensures, ne_eqb _ _ c.if-size-eq0.false, ← c.first.ensures)
