-- `chip_layout::is_state` meets its contract: of each phase, what the definition's tests leave.
-- Assumes nothing.
use borrow.Author.Rules.{rules}
use Rattle.chip_layout.specs.Layout.{is_state}
use Rattle.words.specs.Words.{◌and◌, ◌or◌, ◌from◌to◌}
use Rattle.chip_layout.proofs.is_state.Goals as goal

pub returns-in-4 : goal.returns-in-4
unfolding is_state ◌and◌ ◌or◌ ◌from◌to◌
returns-in-4 c = search rules

pub returns-then-differed-eq0 : goal.returns-then-differed-eq0
unfolding is_state ◌and◌ ◌or◌ ◌from◌to◌
returns-then-differed-eq0 c = search rules

pub returns-else-differed-eq0 : goal.returns-else-differed-eq0
unfolding is_state ◌and◌ ◌or◌ ◌from◌to◌
returns-else-differed-eq0 c = search rules

pub returns-in_default : goal.returns-in_default
unfolding is_state ◌and◌ ◌or◌ ◌from◌to◌
returns-in_default c = search rules

pub returns-in_default-2 : goal.returns-in_default-2
unfolding is_state ◌and◌ ◌or◌ ◌from◌to◌
returns-in_default-2 c = search rules
