-- `chip_pages::verify_page` meets its contract: the comparison is noted, and the record tells the status and what follows.
-- Assumes nothing.
use borrow.Author.Rules.{rules}
use Rattle.chip_pages.specs.Pages.{verify_page}
use Rattle.chip_pages.proofs.verify_page.Goals as goal

pub returns : goal.returns
unfolding verify_page
returns c = search rules
