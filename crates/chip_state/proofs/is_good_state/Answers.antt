-- `chip_state::is_good_state` meets its contract: what is collected, then the record.
-- Assumes nothing.
use borrow.Author.Rules.{rules}
use Rattle.chip_state.specs.Refusals.{good_state}
use Rattle.words.specs.Words.{◌and◌}
use Rattle.chip_state.proofs.is_good_state.Goals as goal

pub returns-then-is_good_collected : goal.returns-then-is_good_collected
unfolding good_state ◌and◌
returns-then-is_good_collected c = search rules

pub returns-else-is_good_collected : goal.returns-else-is_good_collected
unfolding good_state ◌and◌
returns-else-is_good_collected c = search rules
