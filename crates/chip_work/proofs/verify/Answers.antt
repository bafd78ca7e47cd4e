-- `chip_work::verify` meets its contract: parameters alone.
-- Assumes nothing.
use borrow.Author.Rules.{rules}
use Rattle.chip_work.specs.Work.{verify}
use Rattle.chip_work.proofs.verify.Goals as goal

pub returns-then-is_none : goal.returns-then-is_none
unfolding verify
returns-then-is_none c = search rules

pub returns : goal.returns
unfolding verify
returns c = search rules
