-- `dock_answer::first_other` meets its contract: the first that is not 06h, in order.
-- Assumes nothing.
use borrow.Author.Rules.{rules}
use Rattle.dock_answer.specs.Answer.{deciding}
use Rattle.words.specs.Words.{if◌then◌otherwise◌}
use Rattle.dock_answer.proofs.first_other.Goals as goal

pub returns-in-6-eq6 : goal.returns-in-6-eq6
unfolding deciding if◌then◌otherwise◌
returns-in-6-eq6 c = search rules

pub returns-in-6-default : goal.returns-in-6-default
unfolding deciding if◌then◌otherwise◌
returns-in-6-default c = search rules

pub returns-in_default : goal.returns-in_default
unfolding deciding if◌then◌otherwise◌
returns-in_default c = search rules
