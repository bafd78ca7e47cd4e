-- `conversion_door::convert` meets its contract: what the conversion came to, told by its three numbers.
-- Assumes nothing.
use Rattle.conversion_door.specs.Calls.{converted_through}
use Rattle.conversion_door.proofs.convert.Goals as goal

pub returns : goal.returns
unfolding converted_through
returns c = simp (← c.convert-converted.ensures, ← c.bytes_written-written.ensures, ← c.record_named-named.ensures, ← c.number.ensures)
