-- `dock_flow::retried` meets its contract: each test is the definition's, in its order.
-- Assumes nothing.
use borrow.Author.Rules.{rules}
use Rattle.dock_flow.specs.Flow.{retried}
use Rattle.words.specs.Words.{if◌then◌otherwise◌}
use Rattle.dock_flow.proofs.retried.Goals as goal

pub returns-then-used-job : goal.returns-then-used-job
unfolding retried if◌then◌otherwise◌
returns-then-used-job c = search rules

pub returns : goal.returns
unfolding retried if◌then◌otherwise◌
returns c = search rules
