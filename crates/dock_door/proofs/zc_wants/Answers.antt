-- `dock_door::zc_wants` meets its contract: bytes that are no state are refused first.
-- Assumes nothing.
use borrow.Author.Rules.{rules}
use Rattle.dock_door.specs.Calls.{wants_through}
use Rattle.words.specs.Words.{if◌then◌otherwise◌}
use Rattle.dock_door.proofs.zc_wants.Goals as goal

pub returns-then-not-is_dock : goal.returns-then-not-is_dock
unfolding wants_through if◌then◌otherwise◌
returns-then-not-is_dock c = search rules

pub returns : goal.returns
unfolding wants_through if◌then◌otherwise◌
returns c = search rules
