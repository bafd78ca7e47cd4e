-- What each call of the door does and tells: refusals by document 01's numbers, then the chip's own definitions on the state that crossed as bytes. A refused call
-- changes nothing, the numbers told included.
use Rattle.std.specs.Prelude.{List, [], ◌∷◌, ℕ, length, Err, Ok, Result}
use Rattle.chip.specs.Run.{before}
use Rattle.chip_feed.specs.Feed.{feed_of}
use Rattle.chip.specs.Step.{Outcome, fresh_of, step_of}
use Rattle.part.specs.declared.refusal.Refusal.{Refusal}
use Rattle.chip_reply.specs.declared.Sent.{Sent}
use Rattle.chip_state.specs.declared.Chip.{Chip}
use Rattle.chip.specs.declared.Event.{Event}
use Rattle.chip_layout.specs.Layout.{chip_bytes, chip_in}
use Rattle.chip_layout.specs.Admission.{acceptance_number, chip_acceptance, chip_admission}
use Rattle.chip_core.specs.Effect.{Flash, Memory}
use Rattle.chip_sums.specs.Sums.{worked_out}
use Rattle.frame.specs.Judgement.{fault_of}
use Rattle.frame.specs.declared.judgement.Judgement.{Judgement}
use Rattle.part.specs.Refusal.{number}
use Rattle.part.specs.declared.Part.{Part}

-- What an answer is in numbers: the bytes and the frames of the reply.
unfoldable pub bytes_told : Result Sent Refusal → ℕ
bytes_told (Ok sent) = sent.bytes
bytes_told (Err r) = 0

unfoldable pub frames_told : Result Sent Refusal → ℕ
frames_told (Ok sent) = sent.frames
frames_told (Err r) = 0

-- And what the frame was judged, where that was bad (document 02, §4): the fault's number and its place; both 0 where there is none.
abbrev pub fault_told : Judgement → List ℕ
fault_told j = (fault_of j).number ∷ (fault_of j).place ∷ []

-- A fresh chip: 1 for a part that is not described.
pub record Made : Type 0 where
  pub refusal : ℕ
  pub state : List ℕ

abbrev pub made : ℕ → List ℕ → Made
made n state = record { refusal = n; state = state }

unfoldable pub made_by : Result Sent Refusal → Chip → List ℕ → Made
made_by (Err r) c state = made (number r) state
made_by (Ok sent) c state = made 0 (chip_bytes c)

unfoldable pub fresh_through : Part → List ℕ → Made
fresh_through p state =
    let f = fresh_of p in
    made_by f.answer f.chip state

-- All sums worked out: 1, 2, 3, and then they are as they were; 0.
pub record SumsTold : Type 0 where
  pub refusal : ℕ
  pub sums : List ℕ

abbrev pub sums_told : ℕ → List ℕ → SumsTold
sums_told n s = record { refusal = n; sums = s }

unfoldable pub summed_through : Part → Flash → List ℕ → SumsTold
summed_through p m s =
    let w = worked_out p m s in
    sums_told (acceptance_number w.verdict) w.sums

-- One event, or a stretch of them: told are numbers of the answer.
pub record StepTold : Type 0 where
  pub refusal : ℕ
  pub told : List ℕ
  pub state : List ℕ
  pub memory : Memory
  pub room : List ℕ

abbrev pub step_told : ℕ → List ℕ → List ℕ → Memory → List ℕ → StepTold
step_told n told state m room = record { refusal = n; told = told; state = state; memory = m; room = room }

-- One event: the bytes and the frames of its reply, and the fault of the frame that it answers. The chip itself judges a state, and refuses with its number.
unfoldable pub answered_by : Result Sent Refusal → Outcome → List ℕ → List ℕ → StepTold
answered_by (Err r) o told state = step_told (number r) told state o.memory o.room
answered_by (Ok sent) o told state = step_told 0 (sent.bytes ∷ sent.frames ∷ fault_told o.fault) (chip_bytes o.chip) o.memory o.room

unfoldable pub stepped_by : Result Unit Refusal → Part → Event → List ℕ → List ℕ → Memory → List ℕ → StepTold
stepped_by (Err r) p v told state m room = step_told (number r) told state m room
stepped_by (Ok _) p v told state m room =
    let o = step_of p (chip_in state) v m room in
    answered_by o.answer o told state

unfoldable pub stepped_through : Part → Event → List ℕ → List ℕ → Memory → List ℕ → StepTold
stepped_through p v told state m room =
    stepped_by (chip_admission p state (length m.flash.code_flash) (length m.flash.data_flash)) p v told state m room

-- A stretch of bytes, up to the first that is answered: how many were taken, and the same of the last.
unfoldable pub fed_by : Result Unit Refusal → Part → List ℕ → List ℕ → List ℕ → Memory → List ℕ → StepTold
fed_by (Err r) p bs told state m room = step_told (number r) told state m room
fed_by (Ok _) p bs told state m room =
    let f = feed_of p bs (before (chip_in state) m room) in
    let o = f.left in
    step_told 0 (f.taken ∷ bytes_told o.answer ∷ frames_told o.answer ∷ fault_told o.fault) (chip_bytes o.chip) o.memory o.room

unfoldable pub fed_through : Part → List ℕ → List ℕ → List ℕ → Memory → List ℕ → StepTold
fed_through p bs told state m room =
    fed_by (chip_acceptance p state (length m.flash.code_flash) (length m.flash.data_flash) (length room)) p bs told state m room
