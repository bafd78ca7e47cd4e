-- `chip_pages::program_page` meets its contract: the status is that of the page and what stood there, and the sum is worked out after the page.
-- Assumes nothing.
use Rattle.chip_pages.proofs.Laws.{page-written}
use Rattle.chip_pages.proofs.program_page.Goals as goal

pub returns : goal.returns
returns c = page-written _ _ _ _ _ c.place-place.ensures c.page_bytes.ensures c.page_status-status.ensures c.write_page.ensures c.resum.ensures c.told_written.ensures
