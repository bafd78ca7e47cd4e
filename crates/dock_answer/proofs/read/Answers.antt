-- `dock_answer::read` meets its contract: judged first, then what it says.
-- Assumes nothing.
use borrow.Author.Rules.{rules}
use Rattle.dock_answer.specs.Answer.{read_answer}
use Rattle.words.specs.Words.{if◌then◌otherwise◌}
use Rattle.dock_answer.proofs.read.Goals as goal

pub returns-then-is_good : goal.returns-then-is_good
unfolding read_answer if◌then◌otherwise◌
returns-then-is_good c = search rules

pub returns : goal.returns
unfolding read_answer if◌then◌otherwise◌
returns c = search rules
