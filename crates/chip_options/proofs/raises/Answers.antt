-- `chip_options::raises` meets its contract: the first flag that rises decides.
-- Assumes nothing.
use borrow.Author.Rules.{rules}
use Rattle.chip_options.specs.Options.{raises}
use Rattle.words.specs.Words.{◌or◌}
use Rattle.chip_options.proofs.raises.Goals as goal

pub returns-then-rises-2 : goal.returns-then-rises-2
unfolding raises ◌or◌
returns-then-rises-2 c = search rules

pub returns-else-rises-2 : goal.returns-else-rises-2
unfolding raises ◌or◌
returns-else-rises-2 c = search rules
