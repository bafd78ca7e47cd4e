-- What the door tells of a job's end, in numbers: document 01, "Frames and retries used are numbers in the result, equal to those in the flow's definition".
use Rattle.std.specs.Prelude.{List, [], ◌∷◌, ℕ, eqb, Err, Ok, Result}
use Rattle.dock_job.specs.declared.Failure.{Failure}
use Rattle.part.specs.declared.refusal.Refusal.{Refusal}
use Rattle.dock.specs.declared.Report.{Report}
use Rattle.dock_door.specs.Calls.{figures_of, figures_with}
use Rattle.dock_door.specs.declared.Figures.{Figures}
use Rattle.dock_job.specs.declared.Stage.{Stage}
use Rattle.dock_job.specs.declared.Stage.TheVariants.{InBlock, Over, SetUp}
use Rattle.words.specs.Words.{if◌then◌otherwise◌}

-- The numbers of a call that tells an end: it is not refused, and its `ended` is not 0.
unfoldable pub end_told : Result Report Refusal → List Figures
end_told (Ok report) = if eqb (figures_of report).ended 0 then [] otherwise figures_of report ∷ []
end_told (Err r) = []

-- Finished 1, failed 2; why, the state says.
unfoldable pub ended_as : Result Unit Failure → ℕ
ended_as (Ok _) = 1
ended_as (Err f) = 2

-- What a job has to tell that stands at a place: nothing while it goes on; where it is over the ending, the frames and the retries, and no bytes.
unfoldable pub end_at : Stage → ℕ → ℕ → List Figures
end_at (SetUp s) frames retries = []
end_at (InBlock k w) frames retries = []
end_at (Over e) frames retries = figures_with 0 (ended_as e) frames retries ∷ []
