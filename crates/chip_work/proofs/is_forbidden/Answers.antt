-- `chip_work::is_forbidden` meets its contract: the tests are the definition's.
-- Assumes nothing.
use borrow.Author.Rules.{rules}
use Rattle.chip_work.specs.Work.{forbidden}
use Rattle.words.specs.Words.{◌and◌, ◌or◌}
use Rattle.chip_work.proofs.is_forbidden.Goals as goal

pub returns-then-not-allowed : goal.returns-then-not-allowed
unfolding forbidden ◌and◌ ◌or◌
returns-then-not-allowed c = search rules

pub returns-then-boot : goal.returns-then-boot
unfolding forbidden ◌and◌ ◌or◌
returns-then-boot c = search rules

pub returns-else-boot : goal.returns-else-boot
unfolding forbidden ◌and◌ ◌or◌
returns-else-boot c = search rules
