-- `chip_pages::write_page` meets its contract: the area decides which slice is programmed.
-- Assumes nothing.
use borrow.Author.Rules.{rules}
use Rattle.chip_flash.proofs.Laws.{program-is}
use Rattle.chip_pages.specs.Pages.{page_in, page_stored}
use Rattle.chip_pages.proofs.write_page.Goals as goal

pub returns-in_default : goal.returns-in_default
unfolding page_stored page_in
returns-in_default c = search rules

pub returns-in-CodeFlash : goal.returns-in-CodeFlash
unfolding page_stored page_in
returns-in-CodeFlash c = simp (c.in-Some.is, c.in-CodeFlash.is, c.program.ensures, c.page_size.ensures, program-is)

pub returns-in-DataFlash : goal.returns-in-DataFlash
unfolding page_stored page_in
returns-in-DataFlash c = simp (c.in-Some.is, c.in-DataFlash.is, c.program-in-DataFlash.ensures, c.page_size-in-DataFlash.ensures, program-is)
