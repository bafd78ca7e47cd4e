-- How a dock's state crosses the door as bytes: one layout of 26 bytes. Numbers cross as the crate `numbers` says.
use Rattle.std.specs.Prelude.{Bool, List, ◌++◌, ◌∷◌, ℕ, eqb, ltb, get_or, Err, None, Ok, Option, Result, Some}
use Rattle.dock_layout.specs.declared.Flat.{Flat}
use Rattle.dock_job.specs.declared.Cause.{Cause}
use Rattle.dock_job.specs.declared.Cause.TheVariants.{Mismatch, TimedOut, UnexpectedStatus, Unreadable}
use Rattle.dock_job.specs.declared.Dock.{Dock}
use Rattle.dock_job.specs.declared.Failure.{Failure}
use Rattle.dock_job.specs.declared.Setup.{Setup}
use Rattle.dock_job.specs.declared.Setup.TheVariants.{BaudRate, ResetChip, SiliconSignature}
use Rattle.dock_job.specs.declared.Stage.{Stage}
use Rattle.dock_job.specs.declared.Stage.TheVariants.{InBlock, Over, SetUp}
use Rattle.dock_job.specs.declared.Work.{Work}
use Rattle.dock_job.specs.declared.Work.TheVariants.{Blank, Erase, Program, ProgramPage, VerifyBlock, VerifyPage}
use Rattle.frame.specs.Judgement.{fault, fault_of}
use Rattle.frame.specs.declared.judgement.Fault.{Fault}
use Rattle.frame.specs.declared.judgement.Judgement.{Judgement}
use Rattle.frame.specs.declared.judgement.Judgement.TheVariants.{Good, UnfitLength, WrongFirst, WrongFooter, WrongSum}
use Rattle.numbers.specs.Numbers.{bit, low_first, number_at}
use Rattle.lent.specs.Lent.{same}
use Rattle.words.specs.Words.{if◌then◌otherwise◌}

-- "cause (status, mismatch, unreadable, timeout)": 1 to 4 in this order.
unfoldable pub cause_number : Cause → ℕ
cause_number UnexpectedStatus = 1
cause_number Mismatch = 2
cause_number Unreadable = 3
cause_number TimedOut = 4

unfoldable pub cause_in : ℕ → Cause
cause_in n = if eqb n 1 then UnexpectedStatus otherwise if eqb n 2 then Mismatch otherwise if eqb n 3 then Unreadable otherwise TimedOut

-- The judgement that a fault's number and its place are of; what is no fault is read as none.
unfoldable pub judgement_in : ℕ → ℕ → Judgement
judgement_in n at =
    if eqb n 1 then WrongFooter at
    otherwise if eqb n 2 then WrongSum at
    otherwise if eqb n 3 then UnfitLength
    otherwise if eqb n 4 then WrongFirst
    otherwise Good

-- A stage in numbers: which it is, 1 to 11 in the flow's order; the block and the page that it names; of a failure the cause, the command, the status and the
-- fault, else 0.
abbrev pub flat : ℕ → Option ℕ → Option ℕ → ℕ → ℕ → ℕ → Fault → Flat
flat n block page cause cmd status fault =
    record { stage = n; block = block; page = page; cause = cause; command = cmd; status = status; fault = fault }

abbrev pub plain : ℕ → Option ℕ → Option ℕ → Flat
plain n block page = flat n block page 0 0x00 0x00 (fault 0 0)

abbrev pub setup_number : Setup → ℕ
setup_number BaudRate = 1
setup_number ResetChip = 2
setup_number SiliconSignature = 3

unfoldable pub flat_work : ℕ → Work → Flat
flat_work k Blank = plain 4 (Some k) None
flat_work k Erase = plain 5 (Some k) None
flat_work k Program = plain 6 (Some k) None
flat_work k (ProgramPage p) = plain 7 (Some k) (Some p)
flat_work k VerifyBlock = plain 8 (Some k) None
flat_work k (VerifyPage p) = plain 9 (Some k) (Some p)

unfoldable pub flat_ending : Result Unit Failure → Flat
flat_ending (Ok _) = plain 10 None None
flat_ending (Err f) = flat 11 f.block f.page (cause_number f.cause) f.command f.status (fault_of f.fault)

unfoldable pub flat_of : Stage → Flat
flat_of (SetUp s) = plain (setup_number s) None None
flat_of (InBlock k w) = flat_work k w
flat_of (Over e) = flat_ending e

-- A block or a page: whether one is named, and which.
unfoldable pub is_named : Option ℕ → ℕ
is_named (Some n) = 1
is_named None = 0

unfoldable pub named : Option ℕ → ℕ
named (Some n) = n
named None = 0

-- Byte 0 the stage, 1 whether its answer is awaited; retries and frames used (from 2 and 6 on, four bytes each); the block (10, and four bytes from 11 on)
-- and the page (15, and four from 16 on); of a failure the cause (20), the command (21), the status (22) and the fault: its number (23), and its place (two
-- bytes from 24 on).
unfoldable pub bytes_with : Flat → ℕ → ℕ → ℕ → List ℕ
bytes_with f awaited retries frames =
    f.stage
    ∷ awaited
    ∷ low_first 4 retries
    ++ low_first 4 frames
    ++ is_named f.block
    ∷ low_first 4 (named f.block)
    ++ is_named f.page
    ∷ low_first 4 (named f.page)
    ++ f.cause
    ∷ f.command
    ∷ f.status
    ∷ f.fault.number
    ∷ low_first 2 f.fault.place

unfoldable pub dock_bytes : Dock → List ℕ
dock_bytes d = bytes_with (flat_of d.stage) (bit d.awaited) d.retries d.frames

-- And back.
unfoldable pub named_in : ℕ → ℕ → Option ℕ
named_in given n = if eqb given 1 then Some n otherwise None

unfoldable pub fault_at : List ℕ → Fault
fault_at bs = fault (get_or bs 23 0) (number_at 2 24 bs)

unfoldable pub flat_in : List ℕ → Flat
flat_in bs =
    flat (get_or bs 0 0) (named_in (get_or bs 10 0) (number_at 4 11 bs)) (named_in (get_or bs 15 0) (number_at 4 16 bs)) (get_or bs 20 0) (get_or bs 21 0)
    (get_or bs 22 0) (fault_at bs)

unfoldable pub setup_in : ℕ → Setup
setup_in n = if eqb n 1 then BaudRate otherwise if eqb n 2 then ResetChip otherwise SiliconSignature

unfoldable pub work_in : ℕ → ℕ → Work
work_in n page =
    if eqb n 4 then Blank
    otherwise if eqb n 5 then Erase
    otherwise if eqb n 6 then Program
    otherwise if eqb n 7 then ProgramPage page
    otherwise if eqb n 8 then VerifyBlock
    otherwise VerifyPage page

unfoldable pub ending_in : Flat → Result Unit Failure
ending_in f =
    if eqb f.stage 10 then Ok tt
    otherwise Err
    (record {
      cause = cause_in f.cause;
      command = f.command;
      page = f.page;
      status = f.status;
      block = f.block;
      fault = judgement_in f.fault.number f.fault.place;
    })

unfoldable pub stage_in : Flat → Stage
stage_in f =
    if ltb f.stage 4 then SetUp (setup_in f.stage)
    otherwise if ltb f.stage 10 then InBlock (named f.block) (work_in f.stage (named f.page))
    otherwise Over (ending_in f)

unfoldable pub dock_in : List ℕ → Dock
dock_in bs = record { stage = stage_in (flat_in bs); awaited = eqb (get_or bs 1 0) 1; retries = number_at 4 2 bs; frames = number_at 4 6 bs }

-- Bytes are a state where they are the layout of the state that they are read as. Whether the dock accepts it, the dock says.
unfoldable pub is_dock : List ℕ → Bool
is_dock bs = same (dock_bytes (dock_in bs)) bs
