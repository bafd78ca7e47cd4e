-- `chip_layout::in_place::add_byte` meets its contract: the count, then the byte; nothing where there is no place for it.
-- Assumes nothing.
use Rattle.chip_layout.proofs.Laid.{byte_left, byte-stored}
use Rattle.chip_layout.proofs.in_place.add_byte.Goals as goal

pub returns-then-n-lt-LONGEST : goal.returns-then-n-lt-LONGEST
returns-then-n-lt-LONGEST c = byte-stored _ _ _ _ c.lay_count.ensures c.number8-n.ensures c.if-n-lt-LONGEST.true

pub returns-else-n-lt-LONGEST : goal.returns-else-n-lt-LONGEST
returns-else-n-lt-LONGEST c = byte_left _ _ _ c.number8-n.ensures c.if-n-lt-LONGEST.false
