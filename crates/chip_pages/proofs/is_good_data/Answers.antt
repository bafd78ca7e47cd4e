-- `chip_pages::is_good_data` meets its contract: each test is the definition's, in its order.
-- Assumes nothing.
use borrow.Author.Rules.{rules}
use Rattle.words.specs.Words.{◌and◌}
use Rattle.chip_pages.proofs.is_good_data.Goals as goal

pub returns-then-byte_at-eq255 : goal.returns-then-byte_at-eq255
unfolding ◌and◌
returns-then-byte_at-eq255 c = search rules

pub returns-else-byte_at-eq255 : goal.returns-else-byte_at-eq255
unfolding ◌and◌
returns-else-byte_at-eq255 c = search rules
