-- `chip_work::range_bytes` meets its contract: blocks of the part can be counted in bytes.
-- Assumes nothing.
use native.Mathlib.Omega.{arith}
use borrow.Author.Rules.{rules}
use Rattle.chip_sums.proofs.Laws.{counts, range-in}
use Rattle.chip_work.proofs.range_bytes.Goals as goal

pub overflow_mul-block : goal.overflow_mul-block
overflow_mul-block c = omega (arith, counts c.args.part c.args.area c.args.block _ c.block_size-size.ensures (omega arith) (search rules) (search rules))

pub overflow_mul-count : goal.overflow_mul-count
overflow_mul-count c = omega (arith, counts c.args.part c.args.area c.args.count _ c.block_size-size.ensures (omega arith) (search rules) (search rules))

pub returns : goal.returns
returns c = range-in _ _ _ _ _ c.block_size-size.ensures (rw (c.span.ensures, c.area_bytes-bytes.ensures))
