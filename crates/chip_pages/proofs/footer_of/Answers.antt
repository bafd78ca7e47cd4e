-- `chip_pages::footer_of` meets its contract: A0h's frame is a last frame; so is the last page.
-- Assumes nothing.
use borrow.Author.Rules.{rules}
use Rattle.chip_pages.specs.Pages.{footer_of}
use Rattle.words.specs.Words.{◌or◌, if◌then◌otherwise◌}
use Rattle.chip_pages.proofs.footer_of.Goals as goal

pub returns-then-w-eq160 : goal.returns-then-w-eq160
unfolding footer_of ◌or◌ if◌then◌otherwise◌
returns-then-w-eq160 c = search rules

pub returns : goal.returns
unfolding footer_of ◌or◌ if◌then◌otherwise◌
returns c = search rules
