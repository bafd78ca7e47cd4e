-- `chip_reply::send_two` meets its contract: the second frame lies where the first one ends.
-- Assumes nothing.
use native.Mathlib.Omega.{arith}
use Rattle.chip_reply.proofs.Laws.{said-two}
use Rattle.chip_reply.proofs.send_two.Goals as goal

pub returns : goal.returns
returns c = said-two _ _ _ _ _ _ _ c.write_data.ensures c.write_data-2.ensures (omega arith) (omega arith) (omega arith) (omega arith)
