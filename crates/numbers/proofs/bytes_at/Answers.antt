-- `numbers::bytes_at` meets its contract: bytes that are all there are taken as they are, and fewer are put over zeros.
-- Assumes nothing.
use mathlib.Core.Path.{◌∙◌}
use Rattle.numbers.proofs.Laws.{bytes-put, bytes-whole}
use Rattle.numbers.proofs.bytes_at.Goals as goal

pub returns-in-Some : goal.returns-in-Some
returns-in-Some g c = c.in-Some.ensures.cases.same ∙ bytes-whole g.row.N _ _ _ c.span-there.ensures c.in-Some.ensures.cases.long

pub returns : goal.returns
returns g c = bytes-put g.row.N _ _ _ _ c.copy_from_slice.ensures.after c.span-there.ensures
