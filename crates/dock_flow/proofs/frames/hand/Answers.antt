-- `dock_flow::frames::hand` meets its contract: the verdict decides; what it accepts is what the frame needs.
-- Assumes nothing.
use Rattle.dock_flow.specs.Frames.{handed, hand_of}
use mathlib.Core.Path.{◌∙◌, sym}
use lib.ListN.{length}
use borrow.Author.Rules.{rules}
use Rattle.dock_job.proofs.Laws.{Accepts, accepts, asked_is}
use Rattle.dock_job.specs.declared.refusals.Call.TheVariants.{Asks}
use Rattle.dock_flow.proofs.frames.hand.Goals as goal

pub put-requires : goal.put-requires
put-requires c =
    let fine : Accepts c.args.job (length c.args.image.now) (Asks c.args.dock (length c.args.room.now)) = accepts _ _ _ (sym c.verdict.ensures ∙ c.in_ok-verdict.was) in
    let a = fine in
    let d = asked_is _ _ _ _ a in
    (a.accepted-rate, d.good.at_stage, a.image-length, d.roomy)

pub returns-in_err-verdict : goal.returns-in_err-verdict
unfolding hand_of handed
returns-in_err-verdict c = search rules

pub returns : goal.returns
unfolding hand_of handed
returns c = search rules
