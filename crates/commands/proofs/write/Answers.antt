-- `commands::write` meets its contract: COM and the information are the payload.
-- Assumes nothing.
use Rattle.commands.proofs.Laws.{command-written}
use Rattle.commands.proofs.write.Goals as goal

pub returns : goal.returns
returns c = command-written _ _ _ _ _ _ c.write_command.ensures c.«com».ensures c.information_length.ensures.0 c.information-bytes.ensures
