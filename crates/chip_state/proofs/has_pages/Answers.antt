-- `chip_state::has_pages` meets its contract: both tests are the definition's.
-- Assumes nothing.
use borrow.Author.Rules.{rules}
use Rattle.words.specs.Words.{◌or◌}
use Rattle.chip_state.proofs.has_pages.Goals as goal

pub returns-then-command-eq64 : goal.returns-then-command-eq64
unfolding ◌or◌
returns-then-command-eq64 c = search rules

pub returns-else-command-eq64 : goal.returns-else-command-eq64
unfolding ◌or◌
returns-else-command-eq64 c = search rules
