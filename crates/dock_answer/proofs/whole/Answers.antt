-- `dock_answer::whole` meets its contract: each form's shape.
-- Assumes nothing.
use borrow.Author.Rules.{rules}
use Rattle.dock_answer.specs.Answer.{shape, long}
use Rattle.words.specs.Words.{◌and◌, if◌then◌otherwise◌}
use Rattle.dock_answer.proofs.whole.Goals as goal

pub returns-in-WithRate : goal.returns-in-WithRate
unfolding shape long ◌and◌ if◌then◌otherwise◌
returns-in-WithRate c = search rules

pub returns-in-WithSignature : goal.returns-in-WithSignature
unfolding shape long ◌and◌ if◌then◌otherwise◌
returns-in-WithSignature c = search rules

pub returns-in-OfLastPage : goal.returns-in-OfLastPage
unfolding shape long ◌and◌ if◌then◌otherwise◌
returns-in-OfLastPage c = search rules

pub returns-in-OfPage : goal.returns-in-OfPage
unfolding shape long ◌and◌ if◌then◌otherwise◌
returns-in-OfPage c = search rules

pub returns-in-OneStatus : goal.returns-in-OneStatus
unfolding shape long ◌and◌ if◌then◌otherwise◌
returns-in-OneStatus c = search rules
