-- `chip_layout::phase_in` meets its contract: the tests are the definition's.
-- Assumes nothing.
use borrow.Author.Rules.{rules}
use Rattle.chip_layout.specs.Layout.{phase_in}
use Rattle.words.specs.Words.{if◌then◌otherwise◌}
use Rattle.chip_layout.proofs.phase_in.Goals as goal

pub returns-in-1 : goal.returns-in-1
unfolding phase_in if◌then◌otherwise◌
returns-in-1 c = search rules

pub returns-in-2 : goal.returns-in-2
unfolding phase_in if◌then◌otherwise◌
returns-in-2 c = search rules

pub returns-in-3 : goal.returns-in-3
unfolding phase_in if◌then◌otherwise◌
returns-in-3 c = search rules

pub returns-in_default : goal.returns-in_default
unfolding phase_in if◌then◌otherwise◌
returns-in_default c = search rules
