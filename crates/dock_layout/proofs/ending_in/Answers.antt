-- `dock_layout::ending_in` meets its contract: 10 is the good ending.
-- Assumes nothing.
use borrow.Author.Rules.{rules}
use Rattle.dock_layout.specs.Layout.{ending_in}
use Rattle.words.specs.Words.{if◌then◌otherwise◌}
use Rattle.dock_layout.proofs.ending_in.Goals as goal

pub returns-then-flat-eq10 : goal.returns-then-flat-eq10
unfolding ending_in if◌then◌otherwise◌
returns-then-flat-eq10 c = search rules

pub returns : goal.returns
unfolding ending_in if◌then◌otherwise◌
returns c = search rules
