-- `chip_state::is_good_core` meets its contract: each test is the definition's, in its order.
-- Assumes nothing.
use borrow.Author.Rules.{rules}
use Rattle.chip_state.specs.Refusals.{good_core}
use Rattle.words.specs.Words.{◌and◌}
use Rattle.chip_state.proofs.is_good_core.Goals as goal

pub returns-then-is_good : goal.returns-then-is_good
unfolding good_core ◌and◌
returns-then-is_good c = search rules

pub returns-else-is_good : goal.returns-else-is_good
unfolding good_core ◌and◌
returns-else-is_good c = search rules
