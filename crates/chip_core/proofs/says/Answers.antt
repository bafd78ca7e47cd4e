-- `chip_core::says` meets its contract: the reply is the status handed in. (A file of its own, so that a wrong status is refused here.)
-- Assumes nothing.
use mathlib.Core.Path.{refl}
use Rattle.chip_core.proofs.says.Goals as goal

pub returns : goal.returns
returns c = refl
