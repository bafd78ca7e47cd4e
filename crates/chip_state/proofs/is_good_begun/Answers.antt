-- `chip_state::is_good_begun` meets its contract: each test is the definition's, in its order.
-- Assumes nothing.
use borrow.Author.Rules.{rules}
use Rattle.chip_state.specs.Refusals.{good_begun}
use Rattle.words.specs.Words.{◌or◌, ◌and◌}
use Rattle.chip_state.proofs.is_good_begun.Goals as goal

pub returns-then-count-eq0 : goal.returns-then-count-eq0
unfolding good_begun ◌or◌ ◌and◌
returns-then-count-eq0 c = search rules

pub returns-then-head-byte : goal.returns-then-head-byte
unfolding good_begun ◌or◌ ◌and◌
returns-then-head-byte c = search rules

pub returns-else-head-byte : goal.returns-else-head-byte
unfolding good_begun ◌or◌ ◌and◌
returns-else-head-byte c = search rules
