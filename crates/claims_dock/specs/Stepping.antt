-- The dock stepped over a history: for each answer or timeout a frame is asked for and then what was heard is told, over the definitions of the calls.
use Rattle.std.specs.Prelude.{false, List, [], ◌++◌, ◌∷◌, ◌≡◌, ◌*◌, ◌+◌, ℕ, length, take, Err, Ok, Result}
use Rattle.dock.specs.Calls.{ask_of, hear_of}
use Rattle.dock.specs.declared.Account.{Account}
use Rattle.dock.specs.declared.Report.TheVariants.{Due, Ended, Put}
use Rattle.part.specs.declared.refusal.Refusal.{Refusal}
use Rattle.dock.specs.declared.Report.{Report}
use Rattle.dock_flow.specs.Flow.{Flow, Heard}
use Rattle.dock_job.specs.Job.{blocks_of}
use Rattle.dock_job.specs.declared.Dock.{Dock}
use Rattle.dock_job.specs.declared.Job.{Job}
use Rattle.dock_job.specs.declared.Stage.{Stage}
use Rattle.dock_job.specs.declared.Stage.TheVariants.{InBlock, Over, SetUp}

-- The frames handed out, in order; what was reported to each thing told; and the dock after the last call.
pub record Course : Type 0 where
  pub sent : List (List ℕ)
  pub reports : List (Result Report Refusal)
  pub dock : Dock

-- The frame that asking put at the start of the room, if it did.
unfoldable pub handed_out : Result Report Refusal → List ℕ → List (List ℕ)
handed_out (Ok Due) room = []
handed_out (Ok (Put n)) room = take n room ∷ []
handed_out (Ok (Ended a)) room = []
handed_out (Err r) room = []

-- One frame asked for, and one thing told.
unfoldable pub stepping : Job → List ℕ → List ℕ → Dock → List Heard → Course
stepping j image room d [] = record { sent = []; reports = []; dock = d }
stepping j image room d (h ∷ hs) =
    let a = ask_of j image d room in
    let t = hear_of j image a.dock h in
    let c = stepping j image a.room t.dock hs in
    record { sent = handed_out a.report a.room ++ c.sent; reports = t.report ∷ c.reports; dock = c.dock }

-- The dock as the flow has it: at its place, with as many retries used as it spent and as many frames as it sent.
abbrev pub as_flow : Flow → Dock
as_flow f = record { stage = f.place; awaited = false; retries = f.spent; frames = length f.sent }

-- What is noted of the reports, of each in turn; and the results among them: "Frames and retries used are numbers in the result".
unfoldable pub noted : {A : Type 0} → ((Result Report Refusal) → List A) → List (Result Report Refusal) → List A
noted note [] = []
noted note (r ∷ rs) = note r ++ noted note rs

unfoldable pub result_of : Result Report Refusal → List Account
result_of (Ok Due) = []
result_of (Ok (Put n)) = []
result_of (Ok (Ended a)) = a ∷ []
result_of (Err r) = []

abbrev pub results_in : List (Result Report Refusal) → List Account
results_in rs = noted result_of rs

-- The result that the flow has: none while the job goes on, and one where it is over, with as many frames as it sent and as many retries as it spent.
unfoldable pub result_at : Stage → ℕ → ℕ → List Account
result_at (SetUp s) frames retries = []
result_at (InBlock k w) frames retries = []
result_at (Over e) frames retries = record { ending = e; frames = frames; retries = retries } ∷ []

abbrev pub results_of : Flow → List Account
results_of f = result_at f.place (length f.sent) f.spent

-- What the stepped dock and the flow have in common: the frames, the place with both counts, and what is reported of the end.
pub record SameCourse (c : Course) (f : Flow) : Type 0 where
  pub same_frames : c.sent ≡ f.sent
  pub same_dock : c.dock ≡ as_flow f
  pub same_results : results_in c.reports ≡ results_of f

-- "for B blocks and R retries allowed, at most 3 + 12(B + R) frames"
abbrev pub most_frames : Job → ℕ
most_frames j = 3 + 12 * (blocks_of j + j.retries)
