-- `numbers::number3` meets its contract: three bytes and a zero are the number in four.
-- Assumes nothing.
use mathlib.Core.Path.{◌∙◌}
use native.Mathlib.Omega.{arith}
use Rattle.numbers.proofs.number3.Goals as goal
use Rattle.numbers.specs.Numbers.{bytes_at, number_at}

pub returns : goal.returns
unfolding bytes_at number_at
returns c = c.from_le_bytes.ensures ∙ rw c.bytes_at.ensures (omega arith)
