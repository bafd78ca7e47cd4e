-- `part::rate::mode` meets its contract: one boundary.
-- Assumes nothing.
use borrow.Author.Rules.{rules}
use Rattle.part.specs.Rate.{mode_of}
use Rattle.words.specs.Words.{if◌then◌otherwise◌}
use Rattle.part.proofs.rate.mode.Goals as goal

pub returns-then-supply-ge27 : goal.returns-then-supply-ge27
unfolding mode_of if◌then◌otherwise◌
returns-then-supply-ge27 c = search rules

pub returns-else-supply-ge27 : goal.returns-else-supply-ge27
unfolding mode_of if◌then◌otherwise◌
returns-else-supply-ge27 c = search rules
