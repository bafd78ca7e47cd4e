-- `engine::ended` meets its contract: what is held lies at the collector's start, and its bytes past it stay.
-- Assumes nothing.
use native.Mathlib.Omega.{arith}
use Rattle.engine.proofs.Answering.{ended_is}
use Rattle.engine.proofs.ended.Goals as goal

pub returns : goal.returns
returns c = ended_is _ _ _ _ _ _ c.put.ensures (omega arith)
