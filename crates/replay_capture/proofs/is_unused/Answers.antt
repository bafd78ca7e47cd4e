-- `replay_capture::is_unused` meets its contract: the part that is lent is the end of the data bytes.
-- Assumes nothing.
use mathlib.Core.Path.{sym}
use Rattle.replay_capture.proofs.Laws.{unused-tail}
use Rattle.replay_capture.proofs.is_unused.Goals as goal

pub returns : goal.returns
returns c = unused-tail _ _ _ (rw (sym c.head_size.ensures) c.are_all.ensures)
