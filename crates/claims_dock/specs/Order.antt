-- Document 01, "Refusal numbers", "Order .. for the dock: 1, 5, 6, 7, 9, 4, 8": calls with two faults at once, and the number that each is refused with.
use Rattle.std.specs.Prelude.{Bool, false, not, List, [], ◌++◌, ◌∷◌, ℕ, eqb, replicate, Err, Ok, Result}
use Rattle.claims_dock.specs.Examples.{RefusalRow, job_with, say}
use Rattle.dock.specs.Calls.{ask_of, begin_of, hear_of}
use Rattle.dock.specs.declared.Report.TheVariants.{Due, Ended, Put}
use Rattle.part.specs.declared.refusal.Refusal.{Refusal}
use Rattle.dock.specs.declared.Report.{Report}
use Rattle.dock_flow.specs.Flow.{Heard, silence}
use Rattle.dock_job.specs.declared.Dock.{Dock}
use Rattle.dock_job.specs.declared.Job.{Job}
use Rattle.dock_job.specs.declared.Stage.TheVariants.{InBlock}
use Rattle.dock_job.specs.declared.Work.TheVariants.{Blank}
use Rattle.part.specs.Refusal.{number}
use Rattle.words.specs.Words.{◌or◌, if◌then◌otherwise◌}

-- Faults are named by the numbers of their refusals.
unfoldable pub has : ℕ → List ℕ → Bool
has n [] = false
has n (m ∷ ms) = eqb n m or has n ms

-- 1: rate 04h; 5: a start that is no block's; 6: a byte too few; 7: 16 retries; 9: a third block of two; 4: 259 bytes of room. Without them all is well.
abbrev pub job_of : List ℕ → Job
job_of faults =
    job_with (if has 5 faults then 0x0001 otherwise 0x0000) 0x07FF (if has 1 faults then 0x04 otherwise 0x00) 33 (if has 7 faults then 16 otherwise 1)

abbrev pub image_of : List ℕ → List ℕ
image_of faults = replicate (if has 6 faults then 2047 otherwise 2048) 0x5A

abbrev pub dock_of : Bool → List ℕ → Dock
dock_of awaited faults = record { stage = InBlock (if has 9 faults then 2 otherwise 1) Blank; awaited = awaited; retries = 0; frames = 15 }

abbrev pub room_of : List ℕ → List ℕ
room_of faults = replicate (if has 4 faults then 259 otherwise 260) 0x00

-- The number that a report refuses with; 0 where it does not.
unfoldable pub refused_by : Result Report Refusal → ℕ
refused_by (Ok Due) = 0
refused_by (Ok (Put n)) = 0
refused_by (Ok (Ended a)) = 0
refused_by (Err r) = number r

-- The four calls with such faults. 8: a frame asked while an answer is awaited, an answer or a timeout told while none is.
abbrev pub start_with : List ℕ → ℕ
start_with faults = refused_by (begin_of (job_of faults) (image_of faults)).report

abbrev pub ask_with : List ℕ → ℕ
ask_with faults = refused_by (ask_of (job_of faults) (image_of faults) (dock_of (has 8 faults) faults) (room_of faults)).report

abbrev pub tell_with : Heard → List ℕ → ℕ
tell_with h faults = refused_by (hear_of (job_of faults) (image_of faults) (dock_of (not (has 8 faults)) faults) h).report

-- Each number alone, and before each that comes after it.
abbrev pub given : (List ℕ → ℕ) → List ℕ → ℕ → RefusalRow
given call faults n = record { gives = call faults; expected = n }

unfoldable pub before_each : (List ℕ → ℕ) → ℕ → List ℕ → List RefusalRow
before_each call n [] = []
before_each call n (m ∷ ms) = given call (m ∷ n ∷ []) n ∷ before_each call n ms

unfoldable pub in_order : (List ℕ → ℕ) → List ℕ → List RefusalRow
in_order call [] = given call [] 0 ∷ []
in_order call (n ∷ ns) = given call (n ∷ []) n ∷ before_each call n ns ++ in_order call ns

-- A start has neither a state nor a room, an answer and a timeout have no room.
unfoldable pub dock_order : List RefusalRow
dock_order =
    in_order start_with (1 ∷ 5 ∷ 6 ∷ 7 ∷ [])
    ++ in_order ask_with (1 ∷ 5 ∷ 6 ∷ 7 ∷ 9 ∷ 4 ∷ 8 ∷ [])
    ++ in_order (tell_with (say 0x06)) (1 ∷ 5 ∷ 6 ∷ 7 ∷ 9 ∷ 8 ∷ [])
    ++ in_order (tell_with silence) (1 ∷ 5 ∷ 6 ∷ 7 ∷ 9 ∷ 8 ∷ [])
