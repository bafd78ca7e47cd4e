-- `part::Part::pages` meets its contract: a page is not empty.
-- Assumes nothing.
use Rattle.part.proofs.Part.pages.Goals as goal

pub returns : goal.returns
returns c = simp (← c.block_size.ensures, ← c.page_size.ensures)
