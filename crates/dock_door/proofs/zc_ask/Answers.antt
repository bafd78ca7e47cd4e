-- `dock_door::zc_ask` meets its contract: bytes that are no state are refused first.
-- Assumes nothing.
use borrow.Author.Rules.{rules}
use Rattle.dock_door.specs.Calls.{ask_through, told_asked}
use Rattle.dock_door.specs.Inner.{call_number}
use Rattle.words.specs.Words.{if◌then◌otherwise◌}
use Rattle.dock_door.proofs.zc_ask.Goals as goal

pub returns-then-not-is_dock : goal.returns-then-not-is_dock
unfolding ask_through told_asked call_number if◌then◌otherwise◌
returns-then-not-is_dock c = search rules

pub returns-in-Err : goal.returns-in-Err
unfolding ask_through told_asked call_number if◌then◌otherwise◌
returns-in-Err c = search rules

pub returns-in-Ok : goal.returns-in-Ok
unfolding ask_through told_asked if◌then◌otherwise◌
returns-in-Ok c = search rules
