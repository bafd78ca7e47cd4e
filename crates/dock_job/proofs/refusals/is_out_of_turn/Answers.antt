-- `dock_job::refusals::is_out_of_turn` meets its contract: each test is the definition's, in its order.
-- Assumes nothing.
use borrow.Author.Rules.{rules}
use Rattle.dock_job.specs.Refusals.{out_of_turn}
use Rattle.words.specs.Words.{◌or◌}
use Rattle.dock_job.proofs.refusals.is_out_of_turn.Goals as goal

pub returns-then-is_over : goal.returns-then-is_over
unfolding out_of_turn ◌or◌
returns-then-is_over c = search rules

pub returns-else-is_over : goal.returns-else-is_over
unfolding out_of_turn ◌or◌
returns-else-is_over c = search rules

pub returns-then-is_over-2 : goal.returns-then-is_over-2
unfolding out_of_turn ◌or◌
returns-then-is_over-2 c = search rules

pub returns-else-is_over-2 : goal.returns-else-is_over-2
unfolding out_of_turn ◌or◌
returns-else-is_over-2 c = search rules
