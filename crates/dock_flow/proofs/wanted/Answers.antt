-- `dock_flow::wanted` meets its contract: by the form of the stage's answer.
-- Assumes nothing.
use Rattle.dock_flow.proofs.LawsFrames.{alike_is}
use Rattle.dock_flow.specs.Flow.{wanted_at}
use Rattle.dock_flow.proofs.wanted.Goals as goal

pub returns : goal.returns
unfolding wanted_at
returns c =
    let a = alike_is _ _ _ c.query_with-query.ensures in
    simp (← a.form, ← c.wanted.ensures)
