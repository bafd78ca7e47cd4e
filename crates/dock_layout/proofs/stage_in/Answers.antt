-- `dock_layout::stage_in` meets its contract: setup, then blocks, then the end.
-- Assumes nothing.
use borrow.Author.Rules.{rules}
use Rattle.dock_layout.specs.Layout.{stage_in}
use Rattle.words.specs.Words.{if◌then◌otherwise◌}
use Rattle.dock_layout.proofs.stage_in.Goals as goal

pub returns-then-flat-lt4 : goal.returns-then-flat-lt4
unfolding stage_in if◌then◌otherwise◌
returns-then-flat-lt4 c = search rules

pub returns-then-flat-lt10 : goal.returns-then-flat-lt10
unfolding stage_in if◌then◌otherwise◌
returns-then-flat-lt10 c = search rules

pub returns : goal.returns
unfolding stage_in if◌then◌otherwise◌
returns c = search rules
