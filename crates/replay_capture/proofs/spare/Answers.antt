-- `replay_capture::spare` meets its contract: the fourth byte, in the new form.
-- Assumes nothing.
use Rattle.replay_capture.specs.Capture.{spare_of}
use Rattle.replay_capture.proofs.spare.Goals as goal

pub returns-in-Old : goal.returns-in-Old
unfolding spare_of
returns-in-Old c = simp c.in-Old.is

pub returns-in-New : goal.returns-in-New
unfolding spare_of
returns-in-New c = simp (c.in-New.is, ← c.byte_at.ensures)
