-- `replay_capture::tick` meets its contract: the four bytes from the fifth on, in the new form.
-- Assumes nothing.
use mir.Syntax.{w32}
use Rattle.numbers.proofs.Laws.{le-read}
use Rattle.replay_capture.specs.Capture.{tick_of}
use Rattle.replay_capture.proofs.tick.Goals as goal

pub returns-in-Old : goal.returns-in-Old
unfolding tick_of
returns-in-Old c = simp c.in-Old.is

pub returns-in-New : goal.returns-in-New
unfolding tick_of
returns-in-New c = let tick = le-read w32 4 _ c.from_le_bytes.ensures c.bytes_at.ensures in simp (c.in-New.is, ← tick)
