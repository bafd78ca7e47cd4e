-- `chip_options::Options::is_good` meets its contract: each test is the definition's, in its order.
-- Assumes nothing.
use borrow.Author.Rules.{rules}
use Rattle.chip_options.specs.Options.{good_options}
use Rattle.words.specs.Words.{◌and◌}
use Rattle.chip_options.proofs.Options.is_good.Goals as goal

pub returns-then-self : goal.returns-then-self
unfolding good_options ◌and◌
returns-then-self c = search rules

pub returns-else-self : goal.returns-else-self
unfolding good_options ◌and◌
returns-else-self c = search rules
