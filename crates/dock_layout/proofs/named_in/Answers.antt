-- `dock_layout::named_in` meets its contract: the mark says whether one is named.
-- Assumes nothing.
use borrow.Author.Rules.{rules}
use Rattle.dock_layout.specs.Layout.{named_in}
use Rattle.words.specs.Words.{if◌then◌otherwise◌}
use Rattle.dock_layout.proofs.named_in.Goals as goal

pub returns : goal.returns
unfolding named_in if◌then◌otherwise◌
returns c = search rules
