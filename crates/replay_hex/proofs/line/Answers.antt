-- `replay_hex::line` meets its contract: what the bytes before i have written stands at the start of the text.
-- Assumes nothing.
use mathlib.Core.Path.{refl}
use Prim.Native.Nat.{◌*◌}
use native.Mathlib.Omega.{arith}
use Rattle.replay_hex.proofs.Laws.{lined-end, lined-turn}
use Rattle.replay_hex.proofs.line.Goals as goal

pub loop-i-preserved : goal.loop-i-preserved
loop-i-preserved c =
    let x = c.loop-i.invariant in
    let q = lined-turn _ _ _ (3 * c.loop-i.i) x.2 c.loop-i-test.true x.0 c.digit.ensures c.digit-in-loop-i.ensures c.after.ensures refl in
    (x.0, q.stands.long, q)

pub returns : goal.returns
returns c = lined-end c.loop-i.invariant.2 (omega arith)
