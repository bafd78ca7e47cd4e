-- `replay_capture::record_end` meets its contract: the record has its whole size, or the capture ends sooner.
-- Assumes nothing.
use mathlib.Core.Path.{◌∙◌, ap, sym}
use Prim.Native.Nat.{◌+◌, ℕ}
use native.Mathlib.Omega.{arith}
use Rattle.replay_capture.proofs.Records.{end_fits, end_short}
use Rattle.replay_capture.proofs.record_end.Goals as goal

pub returns-then-len-size : goal.returns-then-len-size
returns-then-len-size c = sym (end_short _ _ _ (omega (arith, c.record_size-size.ensures, c.if-len-size.true)))

pub returns-then-len-size-2 : goal.returns-then-len-size-2
returns-then-len-size-2 c = sym (end_short _ _ _ (omega (arith, c.record_size-size.ensures, c.if-len-size.false, c.if-len-size-2.true)))

pub returns : goal.returns
returns c =
    ap (λ (n : ℕ). c.args.at + n) c.record_size-size.ensures
    ∙ sym (end_fits _ _ _ (omega (arith, c.record_size-size.ensures, c.if-len-size.false, c.if-len-size-2.false)))
