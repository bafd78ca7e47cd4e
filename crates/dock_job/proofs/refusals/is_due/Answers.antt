-- `dock_job::refusals::is_due` meets its contract: each test is the definition's, in its order.
-- Assumes nothing.
use borrow.Author.Rules.{rules}
use Rattle.dock_job.specs.Refusals.{due}
use Rattle.words.specs.Words.{◌and◌}
use Rattle.dock_job.proofs.refusals.is_due.Goals as goal

pub returns-then-not-is_over : goal.returns-then-not-is_over
unfolding due ◌and◌
returns-then-not-is_over c = search rules

pub returns-else-not-is_over : goal.returns-else-not-is_over
unfolding due ◌and◌
returns-else-not-is_over c = search rules
