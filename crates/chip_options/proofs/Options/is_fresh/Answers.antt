-- `chip_options::Options::is_fresh` meets its contract: each test is the definition's, in its order.
-- Assumes nothing.
use borrow.Author.Rules.{rules}
use Rattle.chip_options.specs.Options.{is_fresh}
use Rattle.words.specs.Words.{◌and◌}
use Rattle.chip_options.proofs.Options.is_fresh.Goals as goal

pub returns-then-self-eq0 : goal.returns-then-self-eq0
unfolding is_fresh ◌and◌
returns-then-self-eq0 c = search rules

pub returns-else-self-eq0 : goal.returns-else-self-eq0
unfolding is_fresh ◌and◌
returns-else-self-eq0 c = search rules
