-- `replay_play::output_least` meets its contract: the number is small.
-- Assumes nothing.
use mathlib.Core.Path.{ap}
use Prim.Native.Nat.{◌*◌, ℕ}
use native.Mathlib.Omega.{arith}
use Rattle.replay_capture.proofs.Laws.{sizes}
use Rattle.replay_play.proofs.output_least.Goals as goal

pub overflow_mul-result : goal.overflow_mul-result
overflow_mul-result c = omega (arith, c.data_size.ensures, (sizes c.args.form).data_most)

pub returns : goal.returns
returns c = ap (λ (n : ℕ). 32 * n) c.data_size.ensures
