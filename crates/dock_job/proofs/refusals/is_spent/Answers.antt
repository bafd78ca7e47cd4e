-- `dock_job::refusals::is_spent` meets its contract: each test is the definition's, in its order.
-- Assumes nothing.
use borrow.Author.Rules.{rules}
use Rattle.dock_job.specs.Refusals.{spent}
use Rattle.words.specs.Words.{◌and◌}
use Rattle.dock_job.proofs.refusals.is_spent.Goals as goal

pub returns-then-is_due : goal.returns-then-is_due
unfolding spent ◌and◌
returns-then-is_due c = search rules

pub returns-else-is_due : goal.returns-else-is_due
unfolding spent ◌and◌
returns-else-is_due c = search rules
