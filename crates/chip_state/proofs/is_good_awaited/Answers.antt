-- `chip_state::is_good_awaited` meets its contract: each test is the definition's, in its order.
-- Assumes nothing.
use borrow.Author.Rules.{rules}
use Rattle.chip_state.specs.Refusals.{good_awaited}
use Rattle.words.specs.Words.{◌or◌, ◌and◌}
use Rattle.chip_state.proofs.is_good_awaited.Goals as goal

pub returns-then-w-eq160 : goal.returns-then-w-eq160
unfolding good_awaited ◌or◌ ◌and◌
returns-then-w-eq160 c = search rules

pub returns-then-w : goal.returns-then-w
unfolding good_awaited ◌or◌ ◌and◌
returns-then-w c = search rules

pub returns-else-w : goal.returns-else-w
unfolding good_awaited ◌or◌ ◌and◌
returns-else-w c = search rules
