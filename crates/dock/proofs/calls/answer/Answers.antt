-- `dock::calls::answer` meets its contract: the verdict decides, then what was read leads on; the retries stay within the allowance.
-- Assumes nothing.
use mathlib.Core.Path.{◌∙◌, ◌≡◌, ap, sym}
use Prim.Native.Nat.{◌<◌, ◌^◌}
use native.Mathlib.Omega.{arith}
use borrow.Author.Rules.{rules}
use Rattle.dock.specs.Calls.{hear_of, turning}
use Rattle.dock_flow.proofs.Laws.{heard-within}
use Rattle.dock_flow.specs.Flow.{after_heard, answered}
use Rattle.dock_flow.specs.declared.Turned.{Turned}
use Rattle.dock_job.proofs.Laws.{Told, accepts, told_is}
use Rattle.dock_job.specs.declared.refusals.Call.TheVariants.{Tells}
use Rattle.dock.proofs.calls.answer.Goals as goal

pub moved-requires : goal.moved-requires
moved-requires c =
    let waits : Told c.args.job c.args.dock = told_is _ _ _ (accepts _ _ (Tells c.args.dock) (sym c.verdict.ensures ∙ c.in-Ok.is)) in
    let r : c.args.job.retries < 2 ^ 32 = search rules in
    let h = answered c.args.bytes.now in
    let w = heard-within c.args.job c.args.dock.retries c.args.dock.stage h waits.good.few-used in
    let s : c.after_answer-turned.result.spent ≡ (after_heard c.args.job c.args.dock.retries c.args.dock.stage h).spent =
    ap (λ (t : Turned). t.spent) c.after_answer-turned.ensures in
    omega (arith, w.allowed)

pub returns-in-Err : goal.returns-in-Err
unfolding hear_of turning
returns-in-Err c = simp (← c.verdict.ensures, c.in-Err.is)

pub returns-in-Ok : goal.returns-in-Ok
unfolding hear_of turning
returns-in-Ok c = simp (← c.verdict.ensures, c.in-Ok.is, ← c.after_answer-turned.ensures, ← c.moved.ensures)
