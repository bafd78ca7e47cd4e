-- The dock writes only where the chip has just said that all is FFh: document 01, "The dock's flow", "32h with 00h; 22h if that said 1Bh; 40h and four pages", of every
-- history of answers, retries among them. So it never writes over bytes, where a page could come to be mixed (document 02, §6).
use Rattle.std.specs.Prelude.{Bool, List, ◌≢◌, ◌≡◌, ◌+◌, ℕ, Some}
use Rattle.dock_answer.specs.Answer.{read_answer, said_as}
use Rattle.dock_flow.specs.Flow.{Heard, after_heard, answered, first_stage}
use Rattle.dock_flow.specs.Frames.{query_at}
use Rattle.dock_job.specs.declared.Job.{Job}
use Rattle.dock_job.specs.declared.Stage.{Stage}
use Rattle.dock_job.specs.declared.Stage.TheVariants.{InBlock}
use Rattle.dock_job.specs.declared.Work.TheVariants.{Blank, Erase, Program, ProgramPage}

-- What came is a readable answer to the frame of this stage, and it says 06h.
pub record SaysYes (j : Job) (st : Stage) (h : Heard) : Type 0 where
  pub bytes : List ℕ
  pub matches : Bool
  pub came : h ≡ answered bytes
  pub says : (read_answer j.part j.supply (query_at j st).form bytes).decoded ≡ Some (said_as 0x06 matches)

-- 40h for block k comes directly after 32h for it that said 06h, which is that all of it is FFh, or after 22h for it that said 06h.
pub data BeforeWriting (j : Job) (k : ℕ) (st : Stage) (h : Heard) : Type 0 where
  was_blank : st ≡ InBlock k Blank → SaysYes j st h → BeforeWriting j k st h
  was_erased : st ≡ InBlock k Erase → SaysYes j st h → BeforeWriting j k st h

abbrev pub WritesWhereBlank : Type 0
WritesWhereBlank = (j : Job) (used k : ℕ) (st : Stage) (h : Heard) → (after_heard j used st h).stage ≡ InBlock k Program → BeforeWriting j k st h

-- A page comes directly after 40h that said 06h, or after the page before it, stored: so each of a block's pages once, and none again without 32h before it.
pub data BeforePage (j : Job) (k page : ℕ) (st : Stage) (h : Heard) : Type 0 where
  first_page : page ≡ 0 → st ≡ InBlock k Program → SaysYes j st h → BeforePage j k page st h
  later_page : (earlier : ℕ) → page ≡ earlier + 1 → st ≡ InBlock k (ProgramPage earlier) → SaysYes j st h → BeforePage j k page st h

abbrev pub PagesInOrder : Type 0
PagesInOrder = (j : Job) (used k page : ℕ) (st : Stage) (h : Heard) → (after_heard j used st h).stage ≡ InBlock k (ProgramPage page) → BeforePage j k page st h

-- And no job begins with either.
pub record BeginsElsewhere (j : Job) : Type 0 where
  pub command : (k : ℕ) → first_stage j ≢ InBlock k Program
  pub page : (k page : ℕ) → first_stage j ≢ InBlock k (ProgramPage page)

abbrev pub BeginsBefore : Type 0
BeginsBefore = (j : Job) → BeginsElsewhere j
