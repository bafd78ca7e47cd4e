-- `part::Part::size` meets its contract: the product cannot wrap, whatever the part's numbers.
-- Assumes nothing.
use native.Mathlib.Omega.{arith}
use borrow.Author.Rules.{rules}
use Rattle.part.proofs.Laws.{size_small}
use Rattle.part.proofs.Part.size.Goals as goal

pub overflow_mul-result : goal.overflow_mul-result
overflow_mul-result c = rw (c.blocks-2.ensures, c.block_size.ensures) (omega (arith, size_small c.args.self c.args.area (search rules) (search rules)))

pub returns : goal.returns
returns c = simp (← c.blocks-2.ensures, ← c.block_size.ensures)
