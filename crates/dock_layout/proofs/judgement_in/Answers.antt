-- `dock_layout::judgement_in` meets its contract: each number has its own.
-- Assumes nothing.
use borrow.Author.Rules.{rules}
use Rattle.dock_layout.specs.Layout.{judgement_in}
use Rattle.words.specs.Words.{if◌then◌otherwise◌}
use Rattle.dock_layout.proofs.judgement_in.Goals as goal

pub returns-in-1 : goal.returns-in-1
unfolding judgement_in if◌then◌otherwise◌
returns-in-1 c = search rules

pub returns-in-2 : goal.returns-in-2
unfolding judgement_in if◌then◌otherwise◌
returns-in-2 c = search rules

pub returns-in-3 : goal.returns-in-3
unfolding judgement_in if◌then◌otherwise◌
returns-in-3 c = search rules

pub returns-in-4 : goal.returns-in-4
unfolding judgement_in if◌then◌otherwise◌
returns-in-4 c = search rules

pub returns-in_default : goal.returns-in_default
unfolding judgement_in if◌then◌otherwise◌
returns-in_default c = search rules
