-- `chip_pages::bad_data` meets its contract: A0h has one status, pages have two.
-- Assumes nothing.
use borrow.Author.Rules.{rules}
use Rattle.chip_pages.specs.Pages.{bad_data}
use Rattle.words.specs.Words.{if◌then◌otherwise◌}
use Rattle.chip_pages.proofs.bad_data.Goals as goal

pub returns : goal.returns
unfolding bad_data if◌then◌otherwise◌
returns c = search rules
