-- `chip_sums::put` meets its contract: the block's slot is set, and nothing past the last slot.
-- Assumes nothing.
use native.Mathlib.Omega.{arith}
use Rattle.chip_sums.proofs.Laws.{none-put, slot-past}
use Rattle.chip_sums.proofs.put.Goals as goal

pub returns-then-i-lt72 : goal.returns-then-i-lt72
returns-then-i-lt72 c = simp c.slot-i.ensures

pub returns-else-i-lt72 : goal.returns-else-i-lt72
returns-else-i-lt72 c = none-put _ _ _ _ (omega (arith, c.slot-i.ensures, c.if-i-lt72.false))

pub returns-else-block-lt72 : goal.returns-else-block-lt72
returns-else-block-lt72 c = none-put _ _ _ _ (omega (arith, slot-past c.args.area c.args.block, c.if-block-lt72.false))
