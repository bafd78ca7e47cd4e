-- `dock_door::hear` meets its contract: bytes that are no state are refused first.
-- Assumes nothing.
use borrow.Author.Rules.{rules}
use Rattle.dock_door.specs.Calls.{hear_through, told_heard}
use Rattle.dock_door.specs.Inner.{call_number}
use Rattle.words.specs.Words.{if◌then◌otherwise◌}
use Rattle.dock_door.proofs.hear.Goals as goal

pub returns-then-not-is_dock : goal.returns-then-not-is_dock
unfolding hear_through call_number if◌then◌otherwise◌
returns-then-not-is_dock c = search rules

pub returns-in_err-report : goal.returns-in_err-report
unfolding hear_through told_heard call_number if◌then◌otherwise◌
returns-in_err-report c = search rules

pub returns : goal.returns
unfolding hear_through told_heard call_number if◌then◌otherwise◌
returns c = search rules
