-- What the door tells of the end of a job, over any history: exactly one call tells it, with the flow's ending, the number of frames sent and the number of
-- restarts; before the flow is over none does, and after it none.
-- Assumes nothing.
use mathlib.Core.List.{List}
use mathlib.Core.Path.{◌∙◌, ◌≡◌, ap, refl}
use Prim.Native.Nat.{◌≤◌, ℕ}
use lib.ListN.{length}
use Rattle.claims_dock.proofs.Counted.{retries-counted}
use Rattle.claims_dock.proofs.Stepped.{Quiet, notes-told}
use Rattle.claims_dock.specs.Counted.{restarts_over}
use Rattle.claims_dock.specs.Stepping.{as_flow, noted, stepping}
use Rattle.claims_door.specs.Ended.{end_at, end_told, ended_as}
use Rattle.dock.specs.Calls.{begin_of, standing}
use Rattle.dock_job.specs.declared.Failure.{Failure}
use Rattle.dock.specs.declared.Report.TheVariants.{Ended}
use Rattle.std.specs.Prelude.{Err, Ok, Result}
use Rattle.dock_door.specs.Calls.{ending_number, figures_of}
use Rattle.dock_door.specs.declared.Figures.{Figures}
use Rattle.dock_flow.specs.Flow.{Heard, flow}
use Rattle.dock_job.specs.Refusals.{call_verdict}
use Rattle.dock_job.specs.declared.Dock.{Dock}
use Rattle.dock_job.specs.declared.Job.{Job}
use Rattle.dock_job.specs.declared.Stage.{Stage}
use Rattle.dock_job.specs.declared.Stage.TheVariants.{InBlock, Over, SetUp}
use Rattle.dock_job.specs.declared.refusals.Call.TheVariants.{Begins}
use Rattle.words.specs.Words.{if◌then◌otherwise◌}

ends-quiet : Quiet Figures end_told
unfolding end_told figures_of if◌then◌otherwise◌
ends-quiet = record { going = refl; refused = λ r. refl }

-- An ending has a number, which is not 0, and it is the one told.
told-as : (e : Result Unit Failure) (frames retries : ℕ) → end_told (Ok (Ended (record { ending = e; frames = frames; retries = retries }))) ≡ end_at (Over e) frames retries
unfolding end_told figures_of end_at ending_number ended_as if◌then◌otherwise◌
told-as (Ok _) frames retries = refl
told-as (Err f) frames retries = refl

end_is : (st : Stage) (d : Dock) → end_told (standing st d) ≡ end_at st d.frames d.retries
unfolding end_told figures_of standing end_at if◌then◌otherwise◌
end_is (SetUp s) d = refl
end_is (InBlock k w) d = refl
end_is (Over e) d = told-as e d.frames d.retries

pub end-told : (j : Job) (image room : List ℕ) (hs : List Heard) → call_verdict j (length image) Begins ≡ Ok tt → 260 ≤ length room
    → noted end_told (stepping j image room (begin_of j image).dock hs).reports
    ≡ end_at (flow j image hs).place (length (flow j image hs).sent) (restarts_over j hs)
end-told j image room hs v r =
    let f = flow j image hs in
    notes-told Figures end_told ends-quiet j image room hs v r
    ∙ end_is f.place (as_flow f)
    ∙ ap (λ (n : ℕ). end_at f.place (length f.sent) n) (retries-counted j image hs)
