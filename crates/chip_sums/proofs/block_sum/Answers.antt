-- `chip_sums::block_sum` meets its contract: blocks of the part can be counted in bytes.
-- Assumes nothing.
use mathlib.Core.Path.{◌∙◌, ap, sym}
use native.Mathlib.Omega.{arith}
use borrow.Author.Rules.{rules}
use Rattle.chip_flash.specs.Flash.{sum_of_bytes}
use Rattle.chip_sums.proofs.Laws.{block-bytes, counts}
use Rattle.chip_sums.specs.Sums.{block_sum}
use Rattle.chip_sums.proofs.block_sum.Goals as goal

pub overflow_mul-block : goal.overflow_mul-block
overflow_mul-block c = omega (arith, counts c.args.part c.args.area c.args.block _ c.block_size-size.ensures (omega arith) (search rules) (search rules))

pub returns : goal.returns
unfolding block_sum
returns c = c.sum.ensures ∙ ap sum_of_bytes (c.span.ensures ∙ rw (c.area_bytes-bytes.ensures, c.block_size-size.ensures) (sym (block-bytes _ _ _ _)))
