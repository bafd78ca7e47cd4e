-- `dock_flow::after_answer` meets its contract: the stage's form is read, and what it says leads on.
-- Assumes nothing.
use Rattle.dock_flow.proofs.LawsFrames.{alike_is}
use Rattle.dock_flow.specs.Flow.{after_heard}
use Rattle.dock_flow.proofs.after_answer.Goals as goal

pub returns : goal.returns
unfolding after_heard
returns c =
    let a = alike_is _ _ _ c.query_with-query.ensures in
    simp (← a.form, ← c.read-answer.ensures, ← c.after_reading.ensures)
