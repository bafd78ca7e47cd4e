-- `dock_layout::cause_in` meets its contract: each number has its own.
-- Assumes nothing.
use borrow.Author.Rules.{rules}
use Rattle.dock_layout.specs.Layout.{cause_in}
use Rattle.words.specs.Words.{if◌then◌otherwise◌}
use Rattle.dock_layout.proofs.cause_in.Goals as goal

pub returns-in-1 : goal.returns-in-1
unfolding cause_in if◌then◌otherwise◌
returns-in-1 c = search rules

pub returns-in-2 : goal.returns-in-2
unfolding cause_in if◌then◌otherwise◌
returns-in-2 c = search rules

pub returns-in-3 : goal.returns-in-3
unfolding cause_in if◌then◌otherwise◌
returns-in-3 c = search rules

pub returns-in_default : goal.returns-in_default
unfolding cause_in if◌then◌otherwise◌
returns-in_default c = search rules
