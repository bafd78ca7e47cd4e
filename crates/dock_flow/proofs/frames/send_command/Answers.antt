-- `dock_flow::frames::send_command` meets its contract: a command's frame fits, and lies at the room's start.
-- Assumes nothing.
use borrow.Author.Rules.{rules}
use Rattle.dock_flow.proofs.LawsFrames.{command-placed}
use Rattle.dock_flow.proofs.frames.send_command.Goals as goal

pub returns : goal.returns
returns c = command-placed _ _ _ _ _ c.write.ensures (search rules) c.unwrap_or.ensures
