-- `dock_answer::status_of` meets its contract: the form says which bytes are statuses.
-- Assumes nothing.
use mathlib.Core.Path.{◌∙◌}
use native.Mathlib.Omega.{arith}
use Rattle.std.proofs.lemmas.Grind.{common_steps}
use Rattle.dock_answer.proofs.Laws.{deciding-one, deciding-two}
use Rattle.dock_answer.specs.Answer.{statuses}
use Rattle.dock_answer.proofs.status_of.Goals as goal

pub returns-in-OneStatus : goal.returns-in-OneStatus
unfolding statuses
returns-in-OneStatus c = grind (arith, common_steps, deciding-one)

pub returns-in-OfPage : goal.returns-in-OfPage
unfolding statuses
returns-in-OfPage c = simp (← c.byte_at-first.ensures, ← c.byte_at-second.ensures, c.in-OfPage.is) (c.first_other.ensures ∙ deciding-two c.byte_at-first.result c.byte_at-second.result)

pub returns-in-OfLastPage : goal.returns-in-OfLastPage
unfolding statuses
returns-in-OfLastPage c = simp (← c.byte_at-first.ensures, ← c.byte_at-second.ensures, c.in-OfLastPage.is, ← c.byte_at.ensures, ← c.first_other-in-OfLastPage.ensures)
