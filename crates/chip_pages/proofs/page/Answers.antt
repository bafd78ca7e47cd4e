-- `chip_pages::page` meets its contract: the judgement, then the command.
-- Assumes nothing.
use borrow.Author.Rules.{rules}
use Rattle.chip_pages.specs.Pages.{data_does}
use Rattle.words.specs.Words.{if◌then◌otherwise◌}
use Rattle.chip_pages.proofs.page.Goals as goal

pub returns-then-not-is_good : goal.returns-then-not-is_good
unfolding data_does if◌then◌otherwise◌
returns-then-not-is_good c = search rules

pub returns : goal.returns
unfolding data_does if◌then◌otherwise◌
returns c = search rules
