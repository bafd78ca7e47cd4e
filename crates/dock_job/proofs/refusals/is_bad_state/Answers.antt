-- `dock_job::refusals::is_bad_state` meets its contract: each test is the definition's, in its order.
-- Assumes nothing.
use borrow.Author.Rules.{rules}
use Rattle.dock_job.specs.Refusals.{bad_state}
use Rattle.words.specs.Words.{◌or◌}
use Rattle.dock_job.proofs.refusals.is_bad_state.Goals as goal

pub returns-then-not-is_good_dock : goal.returns-then-not-is_good_dock
unfolding bad_state ◌or◌
returns-then-not-is_good_dock c = search rules

pub returns-else-not-is_good_dock : goal.returns-else-not-is_good_dock
unfolding bad_state ◌or◌
returns-else-not-is_good_dock c = search rules
