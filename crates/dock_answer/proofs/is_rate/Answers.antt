-- `dock_answer::is_rate` meets its contract: each test is the definition's, in its order.
-- Assumes nothing.
use borrow.Author.Rules.{rules}
use Rattle.dock_answer.specs.Answer.{rate_matches}
use Rattle.words.specs.Words.{◌and◌}
use Rattle.dock_answer.proofs.is_rate.Goals as goal

pub returns-then-from-part : goal.returns-then-from-part
unfolding rate_matches ◌and◌
returns-then-from-part c = search rules

pub returns-else-from-part : goal.returns-else-from-part
unfolding rate_matches ◌and◌
returns-else-from-part c = search rules
