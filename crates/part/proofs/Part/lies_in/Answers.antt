-- `part::Part::lies_in` meets its contract: no address wraps.
-- Assumes nothing.
use native.Mathlib.Omega.{arith}
use borrow.Author.Rules.{rules}
use Rattle.part.proofs.Laws.{first_small, size_small}
use Rattle.part.specs.Part.{lies_in}
use Rattle.words.specs.Words.{◌and◌}
use Rattle.part.proofs.Part.lies_in.Goals as goal

pub overflow_add-result : goal.overflow_add-result
overflow_add-result c = omega (arith, size_small c.args.self c.args.area (search rules) (search rules), first_small c.args.area)

pub returns-then-first-address : goal.returns-then-first-address
unfolding lies_in ◌and◌
returns-then-first-address c = search rules

pub returns-else-first-address : goal.returns-else-first-address
unfolding lies_in ◌and◌
returns-else-first-address c = search rules
