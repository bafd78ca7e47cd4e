-- `chip_work::is_all_blank` meets its contract: code flash, then data flash.
-- Assumes nothing.
use borrow.Author.Rules.{rules}
use Rattle.words.specs.Words.{◌and◌}
use Rattle.chip_work.proofs.is_all_blank.Goals as goal

pub returns-then-is_blank : goal.returns-then-is_blank
unfolding ◌and◌
returns-then-is_blank c = search rules

pub returns-else-is_blank : goal.returns-else-is_blank
unfolding ◌and◌
returns-else-is_blank c = search rules
