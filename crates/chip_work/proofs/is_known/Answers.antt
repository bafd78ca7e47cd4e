-- `chip_work::is_known` meets its contract: both values are the definition's.
-- Assumes nothing.
use borrow.Author.Rules.{rules}
use Rattle.words.specs.Words.{◌or◌}
use Rattle.chip_work.proofs.is_known.Goals as goal

pub returns-in-0 : goal.returns-in-0
unfolding ◌or◌
returns-in-0 c = search rules

pub returns-in_default : goal.returns-in_default
unfolding ◌or◌
returns-in_default c = search rules
