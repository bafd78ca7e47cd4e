-- Document 01, "The dock's flow": which answer follows which frame and what it leads to; and from a job, its image and the history of answers the frames
-- sent, the retries spent and the place. Which fault a failure names: document 02, §4.
use Rattle.std.specs.Prelude.{Bool, List, [], ◌∷◌, ◌+◌, ℕ, eqb, ltb, Err, None, Ok, Option, Some}
use Rattle.commands.specs.Commands.{com_of}
use Rattle.dock_answer.specs.Answer.{read_answer, wanted}
use Rattle.dock_answer.specs.declared.Said.{Said}
use Rattle.dock_flow.specs.Frames.{frame_at, last_page, query_at}
use Rattle.dock_flow.specs.declared.Turned.{Turned}
use Rattle.dock_flow.specs.declared.frames.Query.{Query}
use Rattle.dock_job.specs.Job.{blocks_of, is_over, setup}
use Rattle.dock_job.specs.declared.Cause.{Cause}
use Rattle.dock_job.specs.declared.Cause.TheVariants.{Mismatch, TimedOut, UnexpectedStatus, Unreadable}
use Rattle.dock_job.specs.declared.Failure.{Failure}
use Rattle.dock_job.specs.declared.Job.{Job}
use Rattle.dock_job.specs.declared.Setup.{Setup}
use Rattle.dock_job.specs.declared.Stage.{Stage}
use Rattle.dock_job.specs.declared.Stage.TheVariants.{InBlock, Over, SetUp}
use Rattle.dock_job.specs.declared.Work.{Work}
use Rattle.dock_job.specs.declared.Work.TheVariants.{Blank, Erase, Program, ProgramPage, VerifyBlock, VerifyPage}
use Rattle.frame.specs.declared.judgement.Judgement.{Judgement}
use Rattle.frame.specs.declared.judgement.Judgement.TheVariants.{Good}
use Rattle.words.specs.Words.{◌and◌, ◌or◌, if◌then◌otherwise◌}

-- "Then per block, ascending": the first block that is left from k on, or the end.
unfoldable pub block_from : Job → ℕ → Stage
block_from j k = if ltb k (blocks_of j) then InBlock k Blank otherwise Over (Ok tt)

-- The first of the setup's commands that are left; after the last of them the first block.
unfoldable pub setup_from : Job → List Setup → Stage
setup_from j [] = block_from j 0
setup_from j (s ∷ ss) = SetUp s

-- The stage at which a job begins.
abbrev pub first_stage : Job → Stage
first_stage j = setup_from j (setup j)

unfoldable pub after_setup : Job → Setup → List Setup → Stage
after_setup j s [] = block_from j 0
after_setup j s (x ∷ xs) = if eqb (com_of (query_at j (SetUp s)).command) (com_of (query_at j (SetUp x)).command) then setup_from j xs otherwise after_setup j s xs

-- What follows in a block: "32h with 00h; 22h if that said 1Bh; 40h and four pages; 13h and four pages."
unfoldable pub after_work : Job → ℕ → Work → Stage
after_work j k Blank = InBlock k Program
after_work j k Erase = InBlock k Program
after_work j k Program = InBlock k (ProgramPage 0)
after_work j k (ProgramPage p) = if last_page j p then InBlock k VerifyBlock otherwise InBlock k (ProgramPage (p + 1))
after_work j k VerifyBlock = InBlock k (VerifyPage 0)
after_work j k (VerifyPage p) = if last_page j p then block_from j (k + 1) otherwise InBlock k (VerifyPage (p + 1))

-- What follows where the answer was as expected.
unfoldable pub next : Job → Stage → Stage
next j (SetUp s) = after_setup j s (setup j)
next j (InBlock k w) = after_work j k w
next j (Over e) = Over e

-- "22h if that said 1Bh": of 32h this status is expected too.
unfoldable pub says_not_blank : Job → Stage → ℕ → Bool
says_not_blank j st s = eqb (com_of (query_at j st).command) 0x32 and eqb s 0x1B

-- Another frame of the stage's block; a setup command stays the one that it is.
unfoldable pub in_block : Work → Stage → Stage
in_block w (SetUp s) = SetUp s
in_block w (InBlock k v) = InBlock k w
in_block w (Over e) = Over e

-- What an answer leads to: the stage after it, and the retries that it spent.
abbrev pub leads : Stage → ℕ → Turned
leads st n = record { stage = st; spent = n }

-- "naming cause .., frame (command, and page if one), status and block, or none in setup"; and "the fault of an unreadable reply" (document 02, §4).
abbrev pub failing : Cause → ℕ → Judgement → Query → Failure
failing c s fault q = record { cause = c; command = com_of q.command; page = q.page; status = s; block = q.block; fault = fault }

abbrev pub fails : Job → Cause → ℕ → Judgement → Stage → Turned
fails j c s fault st = leads (Over (Err (failing c s fault (query_at j st)))) 0

-- "A status 07h or 15h spends one retry and restarts the block (or the setup command) ..; with none left the job fails."
unfoldable pub retried : Job → ℕ → Stage → ℕ → Turned
retried j used st s = if ltb used j.retries then leads (in_block Blank st) 1 otherwise fails j UnexpectedStatus s Good st

-- "Any other unexpected status .. fails it, as a mismatch does"; the status named is "06h for a mismatch".
unfoldable pub after_status : Job → ℕ → Stage → ℕ → Bool → Turned
after_status j used st s matches =
    if eqb s 0x06 then (if matches then leads (next j st) 0 otherwise fails j Mismatch 0x06 Good st)
    otherwise if says_not_blank j st s then leads (in_block Erase st) 0
    otherwise if eqb s 0x07 or eqb s 0x15 then retried j used st s
    otherwise fails j UnexpectedStatus s Good st

-- "an unreadable reply or a reported timeout fails it": "00h if unreadable or timed out". The fault of what was decoded stands beside it.
unfoldable pub after_answer : Job → ℕ → Stage → Option Said → Judgement → Turned
after_answer j used st (Some said) fault = after_status j used st said.status said.matches
after_answer j used st None fault = fails j Unreadable 0x00 fault st

abbrev pub after_timeout : Job → Stage → Turned
after_timeout j st = fails j TimedOut 0x00 Good st

-- How many bytes are still wanted of the answer to the frame of a stage, before it can be readable.
unfoldable pub wanted_at : Job → Stage → List ℕ → ℕ
wanted_at j st bs = wanted (query_at j st).form bs

-- What came after a frame: "The whole answer to one frame is handed in at once", or a timeout is reported.
pub data Heard : Type 0 where
  answered : List ℕ → Heard
  silence : Heard

unfoldable pub after_heard : Job → ℕ → Stage → Heard → Turned
after_heard j used st (answered bs) = let a = read_answer j.part j.supply (query_at j st).form bs in after_answer j used st a.decoded a.fault
after_heard j used st silence = after_timeout j st

-- One frame and what came after it: the frame, and the retries that were spent on it.
pub record Exchange : Type 0 where
  pub frame : List ℕ
  pub spends : ℕ

-- From a stage, with so many retries used, as long as the job is not over.
unfoldable pub exchanges : Job → List ℕ → ℕ → Stage → List Heard → List Exchange
exchanges j image used st [] = []
exchanges j image used st (h ∷ hs) =
    if is_over st then []
    otherwise let t = after_heard j used st h in record { frame = frame_at j image st; spends = t.spent } ∷ exchanges j image (used + t.spent) t.stage hs

unfoldable pub place_after : Job → ℕ → Stage → List Heard → Stage
place_after j used st [] = st
place_after j used st (h ∷ hs) = if is_over st then st otherwise let t = after_heard j used st h in place_after j (used + t.spent) t.stage hs

-- The frames of the exchanges, in order, and the retries spent in all of them.
unfoldable pub frames_in : List Exchange → List (List ℕ)
frames_in [] = []
frames_in (x ∷ xs) = x.frame ∷ frames_in xs

unfoldable pub spent_in : List Exchange → ℕ
spent_in [] = 0
spent_in (x ∷ xs) = x.spends + spent_in xs

-- The flow of a job over a history: the frames sent, the retries spent, and the place, or how the job ended.
pub record Flow : Type 0 where
  pub sent : List (List ℕ)
  pub spent : ℕ
  pub place : Stage

unfoldable pub flow : Job → List ℕ → List Heard → Flow
flow j image hs =
    let xs = exchanges j image 0 (first_stage j) hs in
    record { sent = frames_in xs; spent = spent_in xs; place = place_after j 0 (first_stage j) hs }
