-- `chip_pace::zp_steps` meets its contract: a fresh chip of the part, through all the bytes.
-- Assumes nothing.
use Rattle.chip_pace.specs.Pace.{paced_of}
use Rattle.chip_pace.proofs.zp_steps.Goals as goal

pub returns : goal.returns
unfolding paced_of
returns c = simp (← c.part_in-p.ensures, ← c.fresh-first.ensures, ← c.steps-last.ensures)
