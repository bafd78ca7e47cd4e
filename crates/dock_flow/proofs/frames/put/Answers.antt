-- `dock_flow::frames::put` meets its contract: the stage's frame, by what is asked with it; rate and supply are bytes.
-- Assumes nothing.
use mathlib.Core.Path.{◌∙◌, ap, sym}
use native.Mathlib.Omega.{arith}
use borrow.Author.Rules.{rules}
use Rattle.dock_flow.proofs.LawsFrames.{block-frame, page-good, setup-frame}
use Rattle.dock_flow.specs.Frames.{frame_at}
use Rattle.dock_job.proofs.Laws.{place_is}
use Rattle.dock_job.specs.Refusals.{good_stage}
use Rattle.part.proofs.Laws.{rate-is}
use Rattle.dock_flow.proofs.frames.put.Goals as goal

pub overflow_cast-job : goal.overflow_cast-job
overflow_cast-job c = omega (arith, rate-is _ _ _ c.requires.0)

pub overflow_cast-job-2 : goal.overflow_cast-job-2
overflow_cast-job-2 c = omega (arith, rate-is _ _ _ c.requires.0)

pub send_work-requires : goal.send_work-requires
send_work-requires c =
    let good = place_is c.args.job c.in-InBlock.block c.in-InBlock.work (ap (good_stage c.args.job) (sym c.in-InBlock.is) ∙ c.requires.1) in
    (good.in-job, page-good _ _ _ _ _ c.query_with-query.ensures c.in-InBlock.is good.in-block, search rules, search rules)

pub returns-in-SetUp : goal.returns-in-SetUp
returns-in-SetUp c =
    c.send_command.ensures
    ∙ setup-frame _ _ _ _ _ _ c.query_with-query.ensures c.in-SetUp.is

pub returns-in-InBlock : goal.returns-in-InBlock
returns-in-InBlock c =
    c.send_work.ensures
    ∙ block-frame _ _ _ _ _ _ _ c.query_with-query.ensures c.in-InBlock.is

pub returns-in-Over : goal.returns-in-Over
unfolding frame_at
returns-in-Over c = simp c.in-Over.is
