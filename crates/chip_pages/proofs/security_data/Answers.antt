-- `chip_pages::security_data` meets its contract: 05h, then 10h, then stored.
-- Assumes nothing.
use borrow.Author.Rules.{rules}
use Rattle.chip_pages.specs.Pages.{security_data}
use Rattle.words.specs.Words.{if◌then◌otherwise◌}
use Rattle.chip_pages.proofs.security_data.Goals as goal

pub returns-then-not-is_good_data : goal.returns-then-not-is_good_data
unfolding security_data if◌then◌otherwise◌
returns-then-not-is_good_data c = search rules

pub returns-then-raises : goal.returns-then-raises
unfolding security_data if◌then◌otherwise◌
returns-then-raises c = search rules

pub returns : goal.returns
unfolding security_data if◌then◌otherwise◌
returns c = search rules
