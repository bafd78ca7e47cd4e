-- `chip_pages::verify_status` meets its contract: the tests are the definition's.
-- Assumes nothing.
use borrow.Author.Rules.{rules}
use Rattle.chip_pages.specs.Pages.{verify_status}
use Rattle.words.specs.Words.{◌and◌, if◌then◌otherwise◌}
use Rattle.chip_pages.proofs.verify_status.Goals as goal

pub returns-then-w : goal.returns-then-w
unfolding verify_status ◌and◌ if◌then◌otherwise◌
returns-then-w c = search rules

pub returns : goal.returns
unfolding verify_status ◌and◌ if◌then◌otherwise◌
returns c = search rules
