-- The calls on the dock: to start, to ask for the next frame, to hand in an answer, to report a timeout. Document 01, "The dock's flow" and "Refusal
-- numbers". A refused call changes nothing.
use Rattle.std.specs.Prelude.{false, true, List, ◌+◌, ℕ, length, Err, Ok, Result}
use Rattle.dock.specs.declared.Report.TheVariants.{Due, Ended, Put}
use Rattle.part.specs.declared.refusal.Refusal.{Refusal}
use Rattle.dock.specs.declared.Report.{Report}
use Rattle.dock.specs.declared.Stepped.{Stepped}
use Rattle.dock_flow.specs.Flow.{Heard, after_heard, first_stage, wanted_at}
use Rattle.dock_flow.specs.Frames.{Handing, hand_of}
use Rattle.dock_flow.specs.declared.Turned.{Turned}
use Rattle.dock_job.specs.Refusals.{call_verdict}
use Rattle.dock_job.specs.declared.Dock.{Dock}
use Rattle.dock_job.specs.declared.Job.{Job}
use Rattle.dock_job.specs.declared.Stage.{Stage}
use Rattle.dock_job.specs.declared.Stage.TheVariants.{InBlock, Over, SetUp}
use Rattle.dock_job.specs.declared.refusals.Call.TheVariants.{Begins, Tells}

-- How a dock stands: a frame is due, or the job ended, with the frames and retries used. "Frames and retries used are numbers in the result"
unfoldable pub standing : Stage → Dock → Result Report Refusal
standing (SetUp s) d = Ok Due
standing (InBlock k w) d = Ok Due
standing (Over e) d = Ok (Ended (record { ending = e; frames = d.frames; retries = d.retries }))

abbrev pub stepped : Result Report Refusal → Dock → Stepped
stepped r d = record { report = r; dock = d }

-- A dock before its first frame.
unfoldable pub fresh_dock : Job → Dock
fresh_dock j = record { stage = first_stage j; awaited = false; retries = 0; frames = 0 }

unfoldable pub starting : Result Unit Refusal → Dock → Stepped
starting (Err r) d = stepped (Err r) d
starting (Ok _) d = stepped (Ok Due) d

unfoldable pub begin_of : Job → List ℕ → Stepped
begin_of j image = starting (call_verdict j (length image) Begins) (fresh_dock j)

-- All that asking leaves: the report, the dock, and the whole room.
pub record Asking : Type 0 where
  pub report : Result Report Refusal
  pub dock : Dock
  pub room : List ℕ

abbrev pub asking : Stepped → List ℕ → Asking
asking s room = record { report = s.report; dock = s.dock; room = room }

-- A frame handed out is counted, and its answer awaited.
abbrev pub sending : Dock → Dock
sending d = record { stage = d.stage; awaited = true; retries = d.retries; frames = d.frames + 1 }

-- The stage's frame is put into the room, or the call refused.
unfoldable pub asked : Handing → Result ℕ Refusal → Dock → Asking
asked h (Err r) d = asking (stepped (Err r) d) h.room
asked h (Ok n) d = asking (stepped (Ok (Put n)) (sending d)) h.room

unfoldable pub ask_of : Job → List ℕ → Dock → List ℕ → Asking
ask_of j image d room = let h = hand_of j image d room in asked h h.answer d

-- A dock after what was heard.
abbrev pub moved : Dock → Turned → Dock
moved d t = record { stage = t.stage; awaited = false; retries = d.retries + t.spent; frames = d.frames }

unfoldable pub turning : Result Unit Refusal → Dock → Turned → Stepped
turning (Err r) d t = stepped (Err r) d
turning (Ok _) d t = stepped (standing t.stage (moved d t)) (moved d t)

unfoldable pub hear_of : Job → List ℕ → Dock → Heard → Stepped
hear_of j image d h = turning (call_verdict j (length image) (Tells d)) d (after_heard j d.retries d.stage h)

-- How many bytes are still wanted of the awaited answer, before it can be readable; 0 where it is to be handed in, and where an answer would be refused whatever
-- it is.
unfoldable pub wants_by : Result Unit Refusal → ℕ → ℕ
wants_by (Err r) n = 0
wants_by (Ok _) n = n

unfoldable pub wants_of : Job → List ℕ → Dock → List ℕ → ℕ
wants_of j image d bs = wants_by (call_verdict j (length image) (Tells d)) (wanted_at j d.stage bs)
