-- `chip_options::fixed_bits` meets its contract: each bit's test is the definition's, in its order.
-- Assumes nothing.
use borrow.Author.Rules.{rules}
use Rattle.chip_options.specs.Options.{fixed_bits}
use Rattle.words.specs.Words.{◌and◌}
use Rattle.chip_options.proofs.fixed_bits.Goals as goal

pub returns-then-flags-eq1-4 : goal.returns-then-flags-eq1-4
unfolding fixed_bits ◌and◌
returns-then-flags-eq1-4 c = search rules

pub returns-else-flags-eq1-4 : goal.returns-else-flags-eq1-4
unfolding fixed_bits ◌and◌
returns-else-flags-eq1-4 c = search rules
