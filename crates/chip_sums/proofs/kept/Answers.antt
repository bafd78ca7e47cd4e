-- `chip_sums::kept` meets its contract: what lies in the block's slot, and nothing past the last slot.
-- Assumes nothing.
use native.Mathlib.Omega.{arith}
use borrow.Author.Rules.{rules}
use Rattle.chip_sums.proofs.Laws.{none_kept, slot-past}
use Rattle.chip_sums.specs.Sums.{kept}
use Rattle.chip_sums.proofs.kept.Goals as goal

pub returns-then-block-lt72 : goal.returns-then-block-lt72
unfolding kept
returns-then-block-lt72 c = search rules

pub returns : goal.returns
returns c = none_kept _ _ _ (omega (arith, slot-past c.args.area c.args.block, c.if-block-lt72.false))
