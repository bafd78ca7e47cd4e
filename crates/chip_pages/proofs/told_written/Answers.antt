-- `chip_pages::told_written` meets its contract: after 06h the next page is awaited, or none; after another status none.
-- Assumes nothing.
use borrow.Author.Rules.{rules}
use Rattle.chip_pages.specs.Pages.{stored_reply, told_written}
use Rattle.words.specs.Words.{if◌then◌otherwise◌}
use Rattle.chip_pages.proofs.told_written.Goals as goal

pub returns-then-status-ne6 : goal.returns-then-status-ne6
unfolding told_written stored_reply if◌then◌otherwise◌
returns-then-status-ne6 c = search rules

pub returns : goal.returns
unfolding told_written stored_reply if◌then◌otherwise◌
returns c = search rules
