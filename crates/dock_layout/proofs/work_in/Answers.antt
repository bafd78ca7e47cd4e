-- `dock_layout::work_in` meets its contract: each number has its own.
-- Assumes nothing.
use borrow.Author.Rules.{rules}
use Rattle.dock_layout.specs.Layout.{work_in}
use Rattle.words.specs.Words.{if◌then◌otherwise◌}
use Rattle.dock_layout.proofs.work_in.Goals as goal

pub returns-in-4 : goal.returns-in-4
unfolding work_in if◌then◌otherwise◌
returns-in-4 c = search rules

pub returns-in-5 : goal.returns-in-5
unfolding work_in if◌then◌otherwise◌
returns-in-5 c = search rules

pub returns-in-6 : goal.returns-in-6
unfolding work_in if◌then◌otherwise◌
returns-in-6 c = search rules

pub returns-in-7 : goal.returns-in-7
unfolding work_in if◌then◌otherwise◌
returns-in-7 c = search rules

pub returns-in-8 : goal.returns-in-8
unfolding work_in if◌then◌otherwise◌
returns-in-8 c = search rules

pub returns-in_default : goal.returns-in_default
unfolding work_in if◌then◌otherwise◌
returns-in_default c = search rules
