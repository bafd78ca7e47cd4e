-- Document 01, "Refusal numbers", for the dock: each exactly when the table says, in the order 1, 5, 6, 7, 9, 4, 8.
use Rattle.std.specs.Prelude.{Bool, false, not, true, [], ◌∷◌, ℕ, eqb, leb, ltb, Err, None, Ok, Option, Result, Some}
use Rattle.dock_job.specs.Job.{blocks_of, bound, is_over, job_range, range_length, pages_of}
use Rattle.dock_job.specs.declared.Dock.{Dock}
use Rattle.part.specs.declared.refusal.Refusal.{Refusal}
use Rattle.part.specs.declared.Range.{Range}
use Rattle.dock_job.specs.declared.Failure.{Failure}
use Rattle.dock_job.specs.declared.Job.{Job}
use Rattle.dock_job.specs.declared.Stage.{Stage}
use Rattle.dock_job.specs.declared.Stage.TheVariants.{InBlock, Over, SetUp}
use Rattle.dock_job.specs.declared.Work.{Work}
use Rattle.dock_job.specs.declared.Work.TheVariants.{Blank, Erase, Program, ProgramPage, VerifyBlock, VerifyPage}
use Rattle.dock_job.specs.declared.refusals.Call.{Call}
use Rattle.dock_job.specs.declared.refusals.Call.TheVariants.{Asks, Begins, Tells}
use Rattle.part.specs.Part.{described}
use Rattle.part.specs.Rate.{accepts_rate}
use Rattle.part.specs.Refusal.{◌when◌, first_of}
use Rattle.part.specs.declared.refusal.Refusal.TheVariants.{BadPart, BadRange, BadState, ImageLength, ManyRetries, OutOfTurn, ShortRoom}
use Rattle.words.specs.Words.{◌and◌, ◌or◌}

-- 1: "part description outside the numbers above, or rate or supply of a job outside 9Ah's"
unfoldable pub bad_job : Job → Bool
bad_job j = not (described j.part) or not (accepts_rate j.part j.rate j.supply)

-- 5: "job range bad"
unfoldable pub is_bad : Option Range → Bool
is_bad (Some range) = false
is_bad None = true

abbrev pub bad_range : Job → Bool
bad_range j = is_bad (job_range j)

-- 9: "block outside the job, page over 3, .."
unfoldable pub good_block : Job → ℕ → Bool
good_block j k = ltb k (blocks_of j)

unfoldable pub good_page : Job → ℕ → Bool
good_page j p = ltb p (pages_of j)

unfoldable pub good_named_block : Job → Option ℕ → Bool
good_named_block j (Some k) = good_block j k
good_named_block j None = true

unfoldable pub good_named_page : Job → Option ℕ → Bool
good_named_page j (Some p) = good_page j p
good_named_page j None = true

unfoldable pub good_failure : Job → Failure → Bool
good_failure j f = good_named_block j f.block and good_named_page j f.page

unfoldable pub good_ending : Job → Result Unit Failure → Bool
good_ending j (Ok _) = true
good_ending j (Err f) = good_failure j f

unfoldable pub good_work : Job → Work → Bool
good_work j Blank = true
good_work j Erase = true
good_work j Program = true
good_work j (ProgramPage p) = good_page j p
good_work j VerifyBlock = true
good_work j (VerifyPage p) = good_page j p

unfoldable pub good_stage : Job → Stage → Bool
good_stage j (SetUp s) = true
good_stage j (InBlock k w) = good_block j k and good_work j w
good_stage j (Over e) = good_ending j e

-- ".. retries used over those allowed, or frames over the bound"
unfoldable pub good_dock : Job → Dock → Bool
good_dock j d = good_stage j d.stage and leb d.retries j.retries and leb d.frames (bound j)

-- A frame is due: the job is not over, and no answer is awaited.
unfoldable pub due : Dock → Bool
due d = not (is_over d.stage) and not d.awaited

-- A frame more would be over the bound: then asking for it is refused with 9 too, beyond the table's letter, since "at most 3 + 12(B + R) frames" are sent.
unfoldable pub spent : Job → Dock → Bool
spent j d = due d and leb (bound j) d.frames

unfoldable pub bad_state : Job → Call → Bool
bad_state j Begins = false
bad_state j (Asks d room) = not (good_dock j d) or spent j d
bad_state j (Tells d) = not (good_dock j d)

-- 4: ".. frame room under .. 260 (dock)"
unfoldable pub short_room : Call → Bool
short_room Begins = false
short_room (Asks d room) = ltb room 260
short_room (Tells d) = false

-- 8: "reply or timeout given when none is awaited, frame asked when one is, or job over"
unfoldable pub out_of_turn : Call → Bool
out_of_turn Begins = false
out_of_turn (Asks d room) = is_over d.stage or d.awaited
out_of_turn (Tells d) = is_over d.stage or not d.awaited

-- "Order .. for the dock: 1, 5, 6, 7, 9, 4, 8", given the length of the image.
unfoldable pub call_verdict : Job → ℕ → Call → Result Unit Refusal
call_verdict j image c =
    first_of
    (BadPart when bad_job j
    ∷ BadRange when bad_range j
    ∷ ImageLength when not (eqb image (range_length j))
    ∷ ManyRetries when ltb 15 j.retries
    ∷ BadState when bad_state j c
    ∷ ShortRoom when short_room c
    ∷ OutOfTurn when out_of_turn c
    ∷ [])
