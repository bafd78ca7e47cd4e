-- `part::Part::place_in` meets its contract: an address in an area is no lower than its first.
-- Assumes nothing.
use native.Mathlib.Omega.{arith}
use Rattle.part.proofs.Laws.{lies, positive}
use Rattle.part.specs.Part.{block_of, page_of, place_in}
use Rattle.part.proofs.Part.place_in.Goals as goal

pub overflow_sub-offset : goal.overflow_sub-offset
overflow_sub-offset c = omega (arith, (lies _ _ _ c.requires).low)

pub nonzero_div-result : goal.nonzero_div-result
nonzero_div-result c = positive _ _ c.block_size-size.ensures

pub nonzero_rem-result : goal.nonzero_rem-result
nonzero_rem-result c = positive _ _ c.block_size-size.ensures

pub returns : goal.returns
unfolding place_in block_of page_of
returns c = simp (← c.first.ensures, ← c.block_size-size.ensures, ← c.page_size.ensures)
