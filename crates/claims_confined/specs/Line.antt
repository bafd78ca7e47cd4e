-- One exchange on a line, in the form of demand 3: the dock has sent the frame of a stage, and of good frames at most that one is completed.
use Rattle.std.specs.Prelude.{false, true, List, map, ◌≡◌, ℕ}
use Rattle.chip.specs.Run.{run}
use Rattle.chip.specs.Step.{Outcome}
use Rattle.claims_confined.specs.Confined.{Confined, Within}
use Rattle.claims_fed.specs.Awaits.{AwaitsFrame, event_of}
use Rattle.claims_noise.specs.Claims.{Noise}
use Rattle.claims_noise.specs.Noise.{only}
use Rattle.dock_flow.specs.Frames.{frame_at}
use Rattle.dock_job.specs.Job.{is_over}
use Rattle.dock_job.specs.Refusals.{good_stage}
use Rattle.dock_job.specs.declared.Job.{Job}
use Rattle.dock_job.specs.declared.Stage.{Stage}
use Rattle.frame.specs.Framing.{Sound}

-- Whatever the line makes of it, flash outside the job's range and the options stay, and the next exchange finds the chip within the job.
abbrev pub LineConfined : Type 0
LineConfined =
    (j : Job) (image : List ℕ) (st : Stage) (o : Outcome) (vs : List Sound) → good_stage j st ≡ true → is_over st ≡ false
    → AwaitsFrame o.chip.core.phase → Within j o.chip.core.phase → Noise (only (frame_at j image st)) j.part o vs
    → Confined j o (run j.part (map event_of vs) o)
