-- `chip_pages::page_status` meets its contract: 06h where programming leaves what was sent.
-- Assumes nothing.
use Rattle.chip_pages.specs.Pages.{page_status}
use Rattle.words.specs.Words.{if◌then◌otherwise◌}
use Rattle.chip_pages.proofs.page_status.Goals as goal

pub returns-then-lands : goal.returns-then-lands
unfolding page_status if◌then◌otherwise◌
returns-then-lands c = simp (← c.lands.ensures, c.if-lands.true)

pub returns : goal.returns
unfolding page_status if◌then◌otherwise◌
returns c = simp (← c.lands.ensures, c.if-lands.false)
