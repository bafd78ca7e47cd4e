-- `dock::calls::ask` meets its contract: what the flow hands out is counted; the frames of an accepted call stay below the bound.
-- Assumes nothing.
use mathlib.Core.Path.{◌∙◌, ap, sym}
use native.Mathlib.Omega.{arith}
use lib.ListN.{length}
use Rattle.dock_flow.proofs.LawsFrames.{sent-accepted}
use Rattle.dock_flow.specs.Frames.{handing}
use Rattle.part.specs.declared.refusal.Refusal.{Refusal}
use Rattle.std.specs.Prelude.{ℕ, Result}
use Rattle.dock_job.proofs.Laws.{accepts, asked_is, bound-few}
use Rattle.dock_job.specs.declared.refusals.Call.TheVariants.{Asks}
use Rattle.dock.specs.Calls.{ask_of, asked}
use Rattle.dock.proofs.calls.ask.Goals as goal

pub overflow_add-result : goal.overflow_add-result
overflow_add-result c =
    let e = ap (λ (h : Result ℕ Refusal). handing h c.hand.new.room) (sym c.in-Ok.is) ∙ c.hand.ensures in
    let a = accepts c.args.job (length c.args.image.now) (Asks c.args.dock (length c.args.room.now)) (sent-accepted c.args.job c.args.image.now c.args.dock c.args.room.now _ _ e) in
    omega (arith, (asked_is _ _ _ _ a).below, bound-few c.args.job a.described-part a.few-retries)

pub returns-in-Err : goal.returns-in-Err
unfolding ask_of asked
returns-in-Err c = simp (← c.hand.ensures, c.in-Err.is)

pub returns-in-Ok : goal.returns-in-Ok
unfolding ask_of asked
returns-in-Ok c = simp (← c.hand.ensures, c.in-Ok.is)
