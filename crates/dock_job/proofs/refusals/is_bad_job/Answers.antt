-- `dock_job::refusals::is_bad_job` meets its contract: each test is the definition's, in its order.
-- Assumes nothing.
use borrow.Author.Rules.{rules}
use Rattle.dock_job.specs.Refusals.{bad_job}
use Rattle.words.specs.Words.{◌or◌}
use Rattle.dock_job.proofs.refusals.is_bad_job.Goals as goal

pub returns-then-not-is_described : goal.returns-then-not-is_described
unfolding bad_job ◌or◌
returns-then-not-is_described c = search rules

pub returns-else-not-is_described : goal.returns-else-not-is_described
unfolding bad_job ◌or◌
returns-else-not-is_described c = search rules
