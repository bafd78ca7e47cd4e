-- `replay_capture::seat` meets its contract: the third byte, in the new form.
-- Assumes nothing.
use Rattle.replay_capture.specs.Capture.{seat_of}
use Rattle.replay_capture.proofs.seat.Goals as goal

pub returns-in-Old : goal.returns-in-Old
unfolding seat_of
returns-in-Old c = simp c.in-Old.is

pub returns-in-New : goal.returns-in-New
unfolding seat_of
returns-in-New c = simp (c.in-New.is, ← c.byte_at.ensures)
