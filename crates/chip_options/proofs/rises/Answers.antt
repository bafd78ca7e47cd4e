-- `chip_options::rises` meets its contract: both tests are the definition's.
-- Assumes nothing.
use borrow.Author.Rules.{rules}
use Rattle.chip_options.specs.Options.{rises}
use Rattle.words.specs.Words.{◌and◌}
use Rattle.chip_options.proofs.rises.Goals as goal

pub returns-then-not-old : goal.returns-then-not-old
unfolding rises ◌and◌
returns-then-not-old c = search rules

pub returns-else-not-old : goal.returns-else-not-old
unfolding rises ◌and◌
returns-else-not-old c = search rules
