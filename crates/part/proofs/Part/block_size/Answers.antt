-- `part::Part::block_size` meets its contract: the number is the definition's.
-- Assumes nothing.
use mathlib.Core.Path.{refl}
use Rattle.part.specs.Part.{block_size}
use Rattle.part.proofs.Part.block_size.Goals as goal

pub returns : goal.returns
unfolding block_size
returns c = refl
