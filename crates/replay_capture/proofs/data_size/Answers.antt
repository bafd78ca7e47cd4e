-- `replay_capture::data_size` meets its contract: there are more bytes in a record than before its data.
-- Assumes nothing.
use native.Mathlib.Omega.{arith}
use Rattle.replay_capture.proofs.Laws.{sizes}
use Rattle.replay_capture.proofs.data_size.Goals as goal

pub overflow_sub-result : goal.overflow_sub-result
overflow_sub-result c = rw (c.head_size.ensures, c.record_size.ensures) (omega (arith, (sizes c.args.form).parts))
