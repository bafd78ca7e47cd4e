-- `dock_answer::judge_one` meets its contract: one frame, the last of its answer.
-- Assumes nothing.
use mathlib.Core.Path.{◌∙◌}
use Rattle.dock_answer.proofs.Laws.{frames-one}
use Rattle.dock_answer.proofs.judge_one.Goals as goal

pub returns : goal.returns
returns c = c.judge_reply.ensures ∙ frames-one _ _
