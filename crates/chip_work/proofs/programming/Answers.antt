-- `chip_work::programming` meets its contract: parameters, then protection.
-- Assumes nothing.
use borrow.Author.Rules.{rules}
use Rattle.chip_work.specs.Work.{programming}
use Rattle.words.specs.Words.{if◌then◌otherwise◌}
use Rattle.chip_work.proofs.programming.Goals as goal

pub returns-in_default : goal.returns-in_default
unfolding programming if◌then◌otherwise◌
returns-in_default c = search rules

pub returns-then-is_forbidden : goal.returns-then-is_forbidden
unfolding programming if◌then◌otherwise◌
returns-then-is_forbidden c = search rules

pub returns : goal.returns
unfolding programming if◌then◌otherwise◌
returns c = search rules
