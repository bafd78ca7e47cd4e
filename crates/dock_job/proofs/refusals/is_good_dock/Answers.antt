-- `dock_job::refusals::is_good_dock` meets its contract: each test is the definition's, in its order.
-- Assumes nothing.
use borrow.Author.Rules.{rules}
use Rattle.dock_job.specs.Refusals.{good_dock}
use Rattle.words.specs.Words.{◌and◌}
use Rattle.dock_job.proofs.refusals.is_good_dock.Goals as goal

pub returns-then-dock-job : goal.returns-then-dock-job
unfolding good_dock ◌and◌
returns-then-dock-job c = search rules

pub returns-else-dock-job : goal.returns-else-dock-job
unfolding good_dock ◌and◌
returns-else-dock-job c = search rules
