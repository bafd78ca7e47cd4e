-- `dock_answer::judge_answer` meets its contract: the statuses decide which frames are asked for.
-- Assumes nothing.
use borrow.Author.Rules.{rules}
use Rattle.dock_answer.specs.Answer.{judge_answer, shape}
use Rattle.words.specs.Words.{◌and◌, if◌then◌otherwise◌}
use Rattle.dock_answer.proofs.judge_answer.Goals as goal

pub returns-in-WithRate : goal.returns-in-WithRate
unfolding judge_answer shape ◌and◌ if◌then◌otherwise◌
returns-in-WithRate c = search rules

pub returns-in-WithSignature : goal.returns-in-WithSignature
unfolding judge_answer shape ◌and◌ if◌then◌otherwise◌
returns-in-WithSignature c = search rules

pub returns-in-OfLastPage : goal.returns-in-OfLastPage
unfolding judge_answer shape ◌and◌ if◌then◌otherwise◌
returns-in-OfLastPage c = search rules

pub returns-in-OfPage : goal.returns-in-OfPage
unfolding judge_answer shape ◌and◌ if◌then◌otherwise◌
returns-in-OfPage c = search rules

pub returns-in-OneStatus : goal.returns-in-OneStatus
unfolding judge_answer shape ◌and◌ if◌then◌otherwise◌
returns-in-OneStatus c = search rules
