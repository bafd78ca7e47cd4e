-- `chip_work::is_releasable` meets its contract: the boot flag, then the erase flag.
-- Assumes nothing.
use borrow.Author.Rules.{rules}
use Rattle.words.specs.Words.{◌and◌}
use Rattle.chip_work.proofs.is_releasable.Goals as goal

pub returns-then-boot_allowed : goal.returns-then-boot_allowed
unfolding ◌and◌
returns-then-boot_allowed c = search rules

pub returns-else-boot_allowed : goal.returns-else-boot_allowed
unfolding ◌and◌
returns-else-boot_allowed c = search rules
