-- `chip_sums::sum_area` meets its contract: the blocks before the one that the loop has come to are summed, the other slots still stand.
-- Assumes nothing.
use native.Mathlib.Omega.{arith}
use borrow.Author.Rules.{rules}
use Rattle.chip_sums.proofs.Laws.{summed-end, summed-start, summed_turn}
use Rattle.chip_sums.proofs.sum_area.Goals as goal

pub loop-block-init : goal.loop-block-init
loop-block-init c = (omega arith, c.blocks-block-end.ensures, search rules, summed-start _ _ _ _)

pub block_sum-requires : goal.block_sum-requires
block_sum-requires c = omega (arith, c.loop-block-test.true, c.loop-block.invariant.1)

pub loop-block-preserved : goal.loop-block-preserved
loop-block-preserved c = (omega (arith, c.loop-block-test.true), c.loop-block.invariant.1, search rules, summed_turn c.loop-block.invariant.3 c.block_sum.ensures c.put.ensures)

pub returns : goal.returns
returns c = summed-end c.loop-block.invariant.3 (omega (arith, c.loop-block-test.false, c.loop-block.invariant.0))
