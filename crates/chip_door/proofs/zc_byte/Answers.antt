-- `chip_door::zc_byte` meets its contract: a byte that is only added is judged by the call's number and written where the state lies; any other is a step.
-- Assumes nothing.
use Rattle.chip_door.proofs.Judged.{byte-told, refused-told}
use Rattle.chip_door.proofs.zc_byte.Goals as goal

pub returns-then-refused-ne0 : goal.returns-then-refused-ne0
returns-then-refused-ne0 c = refused-told _ _ _ _ _ _ c.judge-refused.ensures c.bare_in-p.ensures c.if-refused-ne0.true

pub returns-then-is_added : goal.returns-then-is_added
returns-then-is_added c = byte-told _ _ _ _ _ _ c.fits-state c.told-state c.is_added.ensures c.if-is_added.true c.judge-refused.ensures c.bare_in-p.ensures c.if-refused-ne0.false c.add_byte.ensures
