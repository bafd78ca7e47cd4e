-- `dock_job::refusals::is_good_stage` meets its contract: each test is the definition's, in its order.
-- Assumes nothing.
use borrow.Author.Rules.{rules}
use Rattle.dock_job.specs.Refusals.{good_stage}
use Rattle.words.specs.Words.{◌and◌}
use Rattle.dock_job.proofs.refusals.is_good_stage.Goals as goal

pub returns-then-is_good_block : goal.returns-then-is_good_block
unfolding good_stage ◌and◌
returns-then-is_good_block c = search rules

pub returns-else-is_good_block : goal.returns-else-is_good_block
unfolding good_stage ◌and◌
returns-else-is_good_block c = search rules
