-- `replay_capture::carried` meets its contract: so many bytes behind the head.
-- Assumes nothing.
use Rattle.replay_capture.proofs.carried.Goals as goal

pub returns : goal.returns
returns c = simp (← c.head_size.ensures, ← c.span.ensures)
