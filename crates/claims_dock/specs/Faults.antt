-- Document 02, §4: "The dock's failure result also names the fault of an unreadable reply, from its first faulty frame". Which answers are readable has not changed:
-- what made one readable before stands here as it was.
use Rattle.std.specs.Prelude.{Bool, false, not, true, List, [], ◌∷◌, ◌≡◌, ◌+◌, ℕ, eqb, drop, get_or, length, take, Err, None, Ok, Option, Some}
use Rattle.claims_frame.specs.Faults.{BlamedReply, good_before, judge_before}
use Rattle.dock_answer.specs.Answer.{deciding, in_first, judge_answer, judge_frames, matching, none_left, read_answer, readable, shape, statuses, said_as}
use Rattle.dock_answer.specs.declared.Said.{Said}
use Rattle.dock_answer.specs.declared.Form.{Form}
use Rattle.dock_flow.specs.Flow.{Heard, after_heard, answered, fails, flow}
use Rattle.dock_flow.specs.Frames.{query_at}
use Rattle.dock_job.specs.Job.{is_over}
use Rattle.dock_job.specs.declared.Cause.{Cause}
use Rattle.dock_job.specs.declared.Cause.TheVariants.{Mismatch, TimedOut, UnexpectedStatus, Unreadable}
use Rattle.dock_job.specs.declared.Failure.{Failure}
use Rattle.dock_job.specs.declared.Job.{Job}
use Rattle.dock_job.specs.declared.Stage.{Stage}
use Rattle.dock_job.specs.declared.Stage.TheVariants.{Over}
use Rattle.frame.specs.Frame.{counted, header_byte, overhead}
use Rattle.frame.specs.Judgement.{is_good}
use Rattle.frame.specs.declared.Footer.TheVariants.{Last}
use Rattle.frame.specs.declared.Header.TheVariants.{Data}
use Rattle.frame.specs.declared.judgement.Judgement.{Judgement}
use Rattle.frame.specs.declared.judgement.Judgement.TheVariants.{Good}
use Rattle.part.specs.declared.Part.{Part}
use Rattle.words.specs.Words.{◌and◌, if◌then◌otherwise◌}

-- Before §4: how many bytes the frame at the front carries, "with 02h, fitting LEN, right SUM and 03h", 0 where there is none; and an answer that is exactly such
-- frames, with nothing after them.
unfoldable pub carried_before : List ℕ → ℕ
carried_before bs =
    let n = counted (get_or bs 1 0) in
    if eqb (get_or bs 0 0) (header_byte Data) and good_before (judge_before Last (take (n + overhead) bs)) then n otherwise 0

unfoldable pub exactly_before : List ℕ → List ℕ → Bool
exactly_before [] bs = eqb (length bs) 0
exactly_before (n ∷ ns) bs = eqb (carried_before bs) n and exactly_before ns (drop (n + overhead) bs)

unfoldable pub readable_before : Form → List ℕ → Bool
readable_before f bs = exactly_before (shape f (in_first 0 bs) (in_first 1 bs)) bs

unfoldable pub decoded_before : Part → ℕ → Form → List ℕ → Option Said
decoded_before p supply f bs = if readable_before f bs then Some (said_as (deciding (statuses f bs)) (matching p supply f bs)) otherwise None

abbrev pub ReadableAsBefore : Type 0
ReadableAsBefore = (f : Form) (bs : List ℕ) → readable f bs ≡ readable_before f bs

abbrev pub DecodedAsBefore : Type 0
DecodedAsBefore = (p : Part) (supply : ℕ) (f : Form) (bs : List ℕ) → (read_answer p supply f bs).decoded ≡ decoded_before p supply f bs

-- "from its first faulty frame": every frame before it is good, and stands whole in front of it; its fault is the one that claims_frame tells of a reply frame
-- (`BlamedReply`), with the places of that frame.
pub data FirstFaulty : List ℕ → List ℕ → Judgement → Type 0 where
  none : {bs : List ℕ} → FirstFaulty [] bs Good
  this : {n : ℕ} {ns bs : List ℕ} {j : Judgement} → is_good j ≡ false → BlamedReply n (none_left ns) bs j → FirstFaulty (n ∷ ns) bs j
  later : {n : ℕ} {ns bs : List ℕ} {j : Judgement} → BlamedReply n (none_left ns) bs Good → FirstFaulty ns (drop (n + overhead) bs) j → FirstFaulty (n ∷ ns) bs j

abbrev pub FirstFaultyFrame : Type 0
FirstFaultyFrame = (ns bs : List ℕ) → FirstFaulty ns bs (judge_frames ns bs)

-- An unreadable answer fails the job with the answer's fault.
abbrev pub UnreadableFails : Type 0
UnreadableFails =
    (j : Job) (used : ℕ) (st : Stage) (bs : List ℕ) → readable (query_at j st).form bs ≡ false
    → after_heard j used st (answered bs) ≡ fails j Unreadable 0x00 (judge_answer (query_at j st).form bs) st

-- A failure names a fault exactly where its cause is an unreadable reply: "status, mismatch and timeout" name none.
unfoldable pub is_unreadable : Cause → Bool
is_unreadable UnexpectedStatus = false
is_unreadable Mismatch = false
is_unreadable Unreadable = true
is_unreadable TimedOut = false

pub data FaultNamed : Stage → Type 0 where
  goes_on : {st : Stage} → is_over st ≡ false → FaultNamed st
  finished : FaultNamed (Over (Ok tt))
  failed : {f : Failure} → is_good f.fault ≡ not (is_unreadable f.cause) → FaultNamed (Over (Err f))

-- However a job goes.
abbrev pub FailureNamesFault : Type 0
FailureNamesFault = (j : Job) (image : List ℕ) (hs : List Heard) → FaultNamed (flow j image hs).place
