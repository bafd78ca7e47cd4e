-- `chip_door::zc_gap` meets its contract: refused by its number, all stays; accepted, only the count is written.
-- Assumes nothing.
use Rattle.chip_door.proofs.Judged.{gap-told, refused-told}
use Rattle.chip_door.proofs.zc_gap.Goals as goal

pub returns-then-refused-ne0 : goal.returns-then-refused-ne0
returns-then-refused-ne0 c = refused-told _ _ _ _ _ _ c.judge-refused.ensures c.bare_in-p.ensures c.if-refused-ne0.true

pub returns : goal.returns
returns c = gap-told _ _ _ _ _ c.fits-state c.told-state c.judge-refused.ensures c.bare_in-p.ensures c.if-refused-ne0.false c.lay_count.ensures
