-- `chip_reply::send_one` meets its contract: a frame that fits lies at the room's start.
-- Assumes nothing.
use native.Mathlib.Omega.{arith}
use Rattle.chip_reply.proofs.Laws.{said-one}
use Rattle.chip_reply.proofs.send_one.Goals as goal

pub returns : goal.returns
returns c = said-one _ _ _ _ c.write_data.ensures (omega arith) (omega arith) (omega arith)
