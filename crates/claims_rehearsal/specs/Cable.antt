-- The two ends of an undamaged cable: document 01, "The dock's flow". "a gap precedes every frame"; the frame's bytes come one by one, and the replies
-- to them, one after the other, are the whole answer.
use Rattle.std.specs.Prelude.{List, [], ◌++◌, ◌∷◌, map, suc, zero, ℕ, take, Err, Ok, Result}
use Rattle.chip.specs.Run.{bytes_said, onward}
use Rattle.chip.specs.Step.{Outcome}
use Rattle.chip.specs.declared.Event.{Event}
use Rattle.chip.specs.declared.Event.TheVariants.{Byte, Gap}
use Rattle.dock.specs.Calls.{ask_of, hear_of}
use Rattle.dock.specs.declared.Report.TheVariants.{Due, Ended, Put}
use Rattle.part.specs.declared.refusal.Refusal.{Refusal}
use Rattle.dock.specs.declared.Report.{Report}
use Rattle.dock_flow.specs.Flow.{answered}
use Rattle.dock_job.specs.Job.{is_over}
use Rattle.dock_job.specs.declared.Dock.{Dock}
use Rattle.dock_job.specs.declared.Job.{Job}
use Rattle.part.specs.declared.Part.{Part}
use Rattle.words.specs.Words.{if◌then◌otherwise◌}

pub record Ends : Type 0 where
  pub dock : Dock
  pub chip : Outcome

-- What the chip says to a list of events, and how it stands after them.
pub record Spoke : Type 0 where
  pub said : List ℕ
  pub chip : Outcome

unfoldable pub speaks : Part → List Event → Outcome → Spoke
speaks p [] o = record { said = []; chip = o }
speaks p (v ∷ vs) o =
    let n = onward p o v in
    let r = speaks p vs n in
    record { said = bytes_said n.answer n.room ++ r.said; chip = r.chip }

-- The frame that asking handed out.
abbrev pub frame_in : Result Report Refusal → List ℕ → List ℕ
frame_in (Ok Due) room = []
frame_in (Ok (Put n)) room = take n room
frame_in (Ok (Ended a)) room = []
frame_in (Err r) room = []

-- One frame and its answer, in the dock's room.
unfoldable pub exchange : Job → List ℕ → List ℕ → Ends → Ends
exchange j image room e =
    let a = ask_of j image e.dock room in
    let s = speaks j.part (Gap ∷ map Byte (frame_in a.report a.room)) e.chip in
    record { dock = (hear_of j image a.dock (answered s.said)).dock; chip = s.chip }

-- At most so many of them, as long as the job is not over.
unfoldable pub cable : ℕ → Job → List ℕ → List ℕ → Ends → Ends
cable zero j image room e = e
cable (suc n) j image room e = if is_over e.dock.stage then e otherwise cable n j image room (exchange j image room e)
