-- `dock::calls::timeout` meets its contract: the verdict decides, then the timeout ends the job.
-- Assumes nothing.
use mathlib.Core.Path.{◌≡◌, ap}
use Prim.Native.Nat.{◌<◌, ◌^◌}
use native.Mathlib.Omega.{arith}
use borrow.Author.Rules.{rules}
use Rattle.dock.specs.Calls.{hear_of, turning}
use Rattle.dock_flow.proofs.Laws.{heard-silence}
use Rattle.dock_flow.specs.declared.Turned.{Turned}
use Rattle.dock.proofs.calls.timeout.Goals as goal

pub moved-requires : goal.moved-requires
moved-requires c =
    let r : c.args.dock.retries < 2 ^ 32 = search rules in
    let s : c.after_timeout.result.spent ≡ 0 = ap (λ (t : Turned). t.spent) c.after_timeout.ensures in
    omega arith

pub returns-in-Err : goal.returns-in-Err
unfolding hear_of turning
returns-in-Err c = simp (← c.verdict.ensures, c.in-Err.is)

pub returns-in-Ok : goal.returns-in-Ok
unfolding hear_of turning
returns-in-Ok c = simp (← c.verdict.ensures, c.in-Ok.is, heard-silence, ← c.after_timeout.ensures, ← c.moved.ensures)
