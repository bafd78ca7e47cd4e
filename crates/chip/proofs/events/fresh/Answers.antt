-- `chip::events::fresh` meets its contract: each field is the definition's.
-- Assumes nothing.
use borrow.Author.Rules.{rules}
use Rattle.chip.specs.Step.{fresh_chip, fresh_of}
use Rattle.words.specs.Words.{if◌then◌otherwise◌}
use Rattle.chip.proofs.events.fresh.Goals as goal

pub returns-then-is_described : goal.returns-then-is_described
unfolding fresh_chip fresh_of if◌then◌otherwise◌
returns-then-is_described c = search rules

pub returns-else-is_described : goal.returns-else-is_described
unfolding fresh_chip fresh_of if◌then◌otherwise◌
returns-else-is_described c = search rules
