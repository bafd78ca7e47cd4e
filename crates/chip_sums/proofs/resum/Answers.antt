-- `chip_sums::resum` meets its contract: a block of the part has its sum worked out afresh, nothing else has.
-- Assumes nothing.
use borrow.Author.Rules.{rules}
use Rattle.chip_sums.specs.Sums.{resummed}
use Rattle.words.specs.Words.{if◌then◌otherwise◌}
use Rattle.chip_sums.proofs.resum.Goals as goal

pub returns-in_default : goal.returns-in_default
unfolding resummed if◌then◌otherwise◌
returns-in_default c = search rules

pub returns-then-block-blocks : goal.returns-then-block-blocks
unfolding resummed if◌then◌otherwise◌
returns-then-block-blocks c = search rules

pub returns-else-block-blocks : goal.returns-else-block-blocks
unfolding resummed if◌then◌otherwise◌
returns-else-block-blocks c = search rules
