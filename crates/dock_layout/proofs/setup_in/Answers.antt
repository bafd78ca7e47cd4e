-- `dock_layout::setup_in` meets its contract: each number has its own.
-- Assumes nothing.
use borrow.Author.Rules.{rules}
use Rattle.dock_layout.specs.Layout.{setup_in}
use Rattle.words.specs.Words.{if◌then◌otherwise◌}
use Rattle.dock_layout.proofs.setup_in.Goals as goal

pub returns-in-1 : goal.returns-in-1
unfolding setup_in if◌then◌otherwise◌
returns-in-1 c = search rules

pub returns-in-2 : goal.returns-in-2
unfolding setup_in if◌then◌otherwise◌
returns-in-2 c = search rules

pub returns-in_default : goal.returns-in_default
unfolding setup_in if◌then◌otherwise◌
returns-in_default c = search rules
