-- What each call on the dock does and tells through the door: the dock's own definitions on the state that crossed as bytes, refusals by document 01's numbers.
-- A refused call leaves the state and the numbers told as they are.
use Rattle.std.specs.Prelude.{List, [], ◌∷◌, ℕ, length, Err, None, Ok, Option, Result, Some}
use denote.Bor.{Bor}
use Rattle.dock.specs.Calls.{Asking, ask_of, begin_of, hear_of, wants_of}
use Rattle.dock_job.specs.declared.Failure.{Failure}
use Rattle.dock.specs.declared.Report.TheVariants.{Due, Ended, Put}
use Rattle.part.specs.declared.refusal.Refusal.{Refusal}
use Rattle.dock.specs.declared.Report.{Report}
use Rattle.dock.specs.declared.Stepped.{Stepped}
use Rattle.dock_layout.specs.Layout.{dock_bytes, dock_in, is_dock}
use Rattle.dock_door.specs.declared.Figures.{Figures}
use Rattle.dock_flow.specs.Flow.{Heard, answered, silence}
use Rattle.dock_job.specs.Refusals.{call_verdict}
use Rattle.dock_job.specs.declared.Dock.{Dock}
use Rattle.dock_job.specs.declared.Job.{Job}
use Rattle.dock_job.specs.declared.refusals.Call.TheVariants.{Begins}
use Rattle.part.specs.Refusal.{number}
use Rattle.part.specs.declared.refusal.Refusal.TheVariants.{BadState}
use Rattle.words.specs.Words.{if◌then◌otherwise◌}

-- "for the dock: 1, 5, 6, 7, 9, 4, 8": bytes that are no state are refused as a job's refusals come first, with 9 where there is none. On a state the dock
-- itself judges.
unfoldable pub no_state : Result Unit Refusal → ℕ
no_state (Err r) = number r
no_state (Ok _) = number BadState

unfoldable pub ending_number : Result Unit Failure → ℕ
ending_number (Ok _) = 1
ending_number (Err f) = 2

-- What a report is in numbers: the bytes of the frame that was put; how the job ended ("finished" 1, failed 2), and the frames and retries used where it has
-- ended. Each is 0 where there is none.
abbrev pub figures_with : ℕ → ℕ → ℕ → ℕ → Figures
figures_with bytes ended frames retries = record { bytes = bytes; ended = ended; frames = frames; retries = retries }

unfoldable pub figures_of : Report → Figures
figures_of Due = figures_with 0 0 0 0
figures_of (Put n) = figures_with n 0 0 0
figures_of (Ended a) = figures_with 0 (ending_number a.ending) a.frames a.retries

-- To start.
pub record StartTold : Type 0 where
  pub refusal : ℕ
  pub state : List ℕ

abbrev pub start_told : ℕ → List ℕ → StartTold
start_told n state = record { refusal = n; state = state }

unfoldable pub told_started : Result Report Refusal → Dock → List ℕ → StartTold
told_started (Ok report) d state = start_told 0 (dock_bytes d)
told_started (Err r) d state = start_told (number r) state

abbrev pub started_by : Stepped → List ℕ → StartTold
started_by s state = told_started s.report s.dock state

abbrev pub start_through : Job → List ℕ → List ℕ → StartTold
start_through j image state = started_by (begin_of j image) state

-- To ask for the next frame: told is its length.
pub record AskTold : Type 0 where
  pub refusal : ℕ
  pub told : List ℕ
  pub state : List ℕ
  pub room : List ℕ

abbrev pub ask_told : ℕ → List ℕ → List ℕ → List ℕ → AskTold
ask_told n told state room = record { refusal = n; told = told; state = state; room = room }

unfoldable pub told_asked : Result Report Refusal → Dock → List ℕ → List ℕ → List ℕ → AskTold
told_asked (Ok report) d told state room = ask_told 0 ((figures_of report).bytes ∷ []) (dock_bytes d) room
told_asked (Err r) d told state room = ask_told (number r) told state room

abbrev pub asked_by : Asking → List ℕ → List ℕ → AskTold
asked_by a told state = told_asked a.report a.dock told state a.room

unfoldable pub ask_through : Job → List ℕ → List ℕ → List ℕ → List ℕ → AskTold
ask_through j image told state room =
    if is_dock state then asked_by (ask_of j image (dock_in state) room) told state
    otherwise ask_told (no_state (call_verdict j (length image) Begins)) told state room

-- To hand in an answer, or to report a timeout: an answer came, or none did. Told are how the job ended, and the frames and the retries used.
unfoldable pub heard_as : Option (Bor (List ℕ)) → Heard
heard_as (Some answer) = answered answer.now
heard_as None = silence

pub record HearTold : Type 0 where
  pub refusal : ℕ
  pub told : List ℕ
  pub state : List ℕ

abbrev pub hear_told : ℕ → List ℕ → List ℕ → HearTold
hear_told n told state = record { refusal = n; told = told; state = state }

unfoldable pub told_heard : Result Report Refusal → Dock → List ℕ → List ℕ → HearTold
told_heard (Ok report) d told state = let f = figures_of report in hear_told 0 (f.ended ∷ f.frames ∷ f.retries ∷ []) (dock_bytes d)
told_heard (Err r) d told state = hear_told (number r) told state

abbrev pub heard_by : Stepped → List ℕ → List ℕ → HearTold
heard_by s told state = told_heard s.report s.dock told state

unfoldable pub hear_through : Job → List ℕ → List ℕ → List ℕ → Heard → HearTold
hear_through j image told state h =
    if is_dock state then heard_by (hear_of j image (dock_in state) h) told state
    otherwise hear_told (no_state (call_verdict j (length image) Begins)) told state

-- How many bytes are still wanted of the awaited answer; 0 where it is to be handed in.
unfoldable pub wants_through : Job → List ℕ → List ℕ → List ℕ → ℕ
wants_through j image state bs = if is_dock state then wants_of j image (dock_in state) bs otherwise 0
