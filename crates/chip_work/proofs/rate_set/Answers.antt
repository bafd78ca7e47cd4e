-- `chip_work::rate_set` meets its contract: each test is the definition's.
-- Assumes nothing.
use borrow.Author.Rules.{rules}
use Rattle.chip_work.specs.Work.{rate_set}
use Rattle.words.specs.Words.{if◌then◌otherwise◌}
use Rattle.chip_work.proofs.rate_set.Goals as goal

pub returns-then-not-accepts : goal.returns-then-not-accepts
unfolding rate_set if◌then◌otherwise◌
returns-then-not-accepts c = search rules

pub returns : goal.returns
unfolding rate_set if◌then◌otherwise◌
returns c = search rules
