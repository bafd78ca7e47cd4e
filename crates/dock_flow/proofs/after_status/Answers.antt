-- `dock_flow::after_status` meets its contract: each test is the definition's, in its order.
-- Assumes nothing.
use borrow.Author.Rules.{rules}
use Rattle.dock_flow.specs.Flow.{after_status}
use Rattle.words.specs.Words.{if◌then◌otherwise◌, ◌or◌}
use Rattle.dock_flow.proofs.after_status.Goals as goal

pub returns-in-6 : goal.returns-in-6
unfolding after_status if◌then◌otherwise◌ ◌or◌
returns-in-6 c = search rules

pub returns-in-6-2 : goal.returns-in-6-2
unfolding after_status if◌then◌otherwise◌ ◌or◌
returns-in-6-2 c = search rules

pub returns-in_default : goal.returns-in_default
unfolding after_status if◌then◌otherwise◌ ◌or◌
returns-in_default c = search rules

pub returns-in-7 : goal.returns-in-7
unfolding after_status if◌then◌otherwise◌ ◌or◌
returns-in-7 c = search rules

pub returns-in_default-2 : goal.returns-in_default-2
unfolding after_status if◌then◌otherwise◌ ◌or◌
returns-in_default-2 c = search rules
