-- `dock_flow::first_stage` meets its contract: the head of the setup's list.
-- Assumes nothing.
use Rattle.dock_flow.specs.Flow.{setup_from}
use Rattle.dock_job.proofs.Laws.{setup-is}
use Rattle.dock_flow.proofs.first_stage.Goals as goal

pub returns : goal.returns
unfolding setup_from
returns c = simp (setup-is)
