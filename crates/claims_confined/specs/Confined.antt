-- A job's frames and the chip: whatever else comes, flash outside the job's range and the options stay. Document 01, "The dock's flow" and "Commands";
-- what a claim about the whole cable needs of the chip.
use Rattle.std.specs.Prelude.{Bool, false, true, List, [], ◌∷◌, ◌≢◌, ◌≡◌, ◌+◌, ◌≤◌, ℕ, leb, get_or}
use Rattle.chip.specs.Run.{onward, run}
use Rattle.chip.specs.Step.{Outcome}
use Rattle.chip.specs.declared.Event.{Event}
use Rattle.chip_core.specs.Effect.{Flash, bytes_in}
use Rattle.chip_core.specs.declared.Awaited.{Awaited}
use Rattle.chip_core.specs.declared.Phase.{Phase}
use Rattle.chip_core.specs.declared.Phase.TheVariants.{Awaiting, ModeByte, Ready, Setup}
use Rattle.claims_fed.specs.Awaits.{AwaitsCommand, a_command, good_for}
use Rattle.claims_good.specs.Good.{AllProper, Stands}
use Rattle.claims_runs.specs.Taken.{taken_by}
use Rattle.dock_flow.specs.Frames.{frame_of, query_at}
use Rattle.dock_job.specs.Job.{is_over}
use Rattle.dock_job.specs.Refusals.{good_stage}
use Rattle.dock_job.specs.declared.Job.{Job}
use Rattle.dock_job.specs.declared.Stage.{Stage}
use Rattle.part.specs.Part.{first}
use Rattle.part.specs.declared.Area.{Area}
use Rattle.part.specs.declared.Part.{Part}
use Rattle.words.specs.Words.{◌and◌}

-- A command frame of the job: that of the command at one of its stages.
pub record JobCommand (j : Job) (f : List ℕ) : Type 0 where
  pub stage : Stage
  pub good : good_stage j stage ≡ true
  pub going : is_over stage ≡ false
  pub is : f ≡ frame_of (query_at j stage).command

-- Every good command frame that a run completes is one of these, in any order and number. Nothing is asked of a frame that is not good, of bytes that form
-- none, or of a page: where a page goes is settled by the command before it.
pub data CommandsOnly (ok : List ℕ → Type 0) (p : Part) : Outcome → List Event → Type 0 where
  no_more : {o : Outcome} → CommandsOnly ok p o []
  and_one : {o : Outcome} {v : Event} {vs : List Event}
      → ((f : List ℕ) → taken_by o v ≡ f ∷ [] → AwaitsCommand o.chip.core.phase → good_for a_command f ≡ true → ok f)
      → CommandsOnly ok p (onward p o v) vs → CommandsOnly ok p o (v ∷ vs)

-- A phase in which no data is awaited, or pages that lie in the job's range.
pub data Within (j : Job) : Phase → Type 0 where
  at_mode : Within j ModeByte
  at_setup : Within j Setup
  at_ready : Within j Ready
  at_pages : (w : Awaited) → w.command ≢ 0xA0 → j.start ≤ w.next → w.last ≤ j.end → Within j (Awaiting w)

-- An address of the job's range; and flash that is the same at every other one.
unfoldable pub in_job : Job → ℕ → Bool
in_job j at = leb j.start at and leb at j.end

abbrev pub OutsideSame : Job → Flash → Flash → Type 0
OutsideSame j m n = (a : Area) (i : ℕ) → in_job j (first a + i) ≡ false → get_or (bytes_in a n) i 0 ≡ get_or (bytes_in a m) i 0

pub record Confined (j : Job) (o u : Outcome) : Type 0 where
  pub outside : OutsideSame j o.memory.flash u.memory.flash
  pub options : u.chip.core.options ≡ o.chip.core.options
  pub within : Within j u.chip.core.phase

abbrev pub JobConfined : Type 0
JobConfined =
    (j : Job) (o : Outcome) (vs : List Event) → Stands j.part o → AllProper vs → Within j o.chip.core.phase
    → CommandsOnly (JobCommand j) j.part o vs → Confined j o (run j.part vs o)
