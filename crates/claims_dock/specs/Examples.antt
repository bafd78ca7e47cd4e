-- Worked examples of the dock: frames that the documents print, and how a job of two blocks with one retry goes over short histories.
use Rattle.std.specs.Prelude.{Bool, false, true, List, [], ◌++◌, ◌∷◌, ℕ, replicate, set, take, Err, None, Ok, Option, Result, Some}
use Rattle.dock_flow.specs.Flow.{Heard, answered, flow, silence}
use Rattle.dock_flow.specs.Frames.{frame_at}
use Rattle.frame.specs.Frame.{data_frame}
use Rattle.frame.specs.declared.Footer.TheVariants.{Last, More}
use Rattle.dock_job.specs.Refusals.{call_verdict}
use Rattle.dock_job.specs.declared.Cause.{Cause}
use Rattle.dock_job.specs.declared.Cause.TheVariants.{Mismatch, TimedOut, UnexpectedStatus, Unreadable}
use Rattle.dock_job.specs.declared.Dock.{Dock}
use Rattle.part.specs.declared.refusal.Refusal.{Refusal}
use Rattle.dock_job.specs.declared.Job.{Job}
use Rattle.dock_job.specs.declared.Setup.TheVariants.{BaudRate, ResetChip, SiliconSignature}
use Rattle.dock_job.specs.declared.Stage.{Stage}
use Rattle.dock_job.specs.declared.Stage.TheVariants.{InBlock, Over, SetUp}
use Rattle.dock_job.specs.declared.Work.TheVariants.{Blank, Erase, Program, ProgramPage, VerifyBlock, VerifyPage}
use Rattle.dock_job.specs.declared.refusals.Call.{Call}
use Rattle.dock_job.specs.declared.refusals.Call.TheVariants.{Asks, Begins, Tells}
use Rattle.frame.specs.declared.judgement.Judgement.{Judgement}
use Rattle.frame.specs.declared.judgement.Judgement.TheVariants.{Good, UnfitLength, WrongFirst, WrongFooter, WrongSum}
use Rattle.part.specs.Refusal.{number}
use Rattle.part.specs.Signature.{signature}
use Rattle.part.specs.declared.Part.{Part}

-- The part of document 01, "Replay"; device code, name and version as in 000, table 3-2.
abbrev pub two_block_part : Part
two_block_part =
    record {
      code_blocks = 16;
      data_blocks = 4;
      clock = 32;
      device = 0x10 ∷ 0x00 ∷ 0x06 ∷ [];
      name = 0x52 ∷ 0x35 ∷ 0x46 ∷ 0x31 ∷ 0x30 ∷ 0x30 ∷ 0x4C ∷ 0x45 ∷ 0x20 ∷ 0x20 ∷ [];
      version = 0x01 ∷ 0x02 ∷ 0x03 ∷ [];
    }

-- Blocks 0 and 1, rate 00h, 3.3 V, one retry.
abbrev pub two_block_job : Job
two_block_job = record { part = two_block_part; start = 0x0000; end = 0x07FF; rate = 0x00; supply = 33; retries = 1 }

-- Its image: eight pages that begin with 00h to 07h and have 255 bytes 5Ah after that.
abbrev pub image_page : ℕ → List ℕ
image_page b = b ∷ replicate 255 0x5A

abbrev pub two_block_image : List ℕ
two_block_image = image_page 0x00 ++ image_page 0x01 ++ image_page 0x02 ++ image_page 0x03 ++ image_page 0x04 ++ image_page 0x05 ++ image_page 0x06 ++ image_page 0x07

-- The frames that 01, 000 and 003 print, or that their SUM rule completes.
pub record Frame : Type 0 where
  pub gives : List ℕ
  pub printed : List ℕ

abbrev pub at : Stage → List ℕ → Frame
at st f = record { gives = frame_at two_block_job two_block_image st; printed = f }

-- A page's frame by its first byte, SUM and footer: "then 03h on the last frame, else 17h"; its LEN is 00h, for 256.
abbrev pub page_printed : ℕ → ℕ → ℕ → List ℕ
page_printed b sum footer = 0x02 ∷ 0x00 ∷ b ∷ replicate 255 0x5A ++ sum ∷ footer ∷ []

unfoldable pub frames_printed : List Frame
frames_printed =
    at (SetUp BaudRate) (0x01 ∷ 0x03 ∷ 0x9A ∷ 0x00 ∷ 0x21 ∷ 0x42 ∷ 0x03 ∷ [])
    ∷ at (SetUp ResetChip) (0x01 ∷ 0x01 ∷ 0x00 ∷ 0xFF ∷ 0x03 ∷ [])
    ∷ at (SetUp SiliconSignature) (0x01 ∷ 0x01 ∷ 0xC0 ∷ 0x3F ∷ 0x03 ∷ [])
    ∷ at (InBlock 0 Blank) (0x01 ∷ 0x08 ∷ 0x32 ∷ 0x00 ∷ 0x00 ∷ 0x00 ∷ 0xFF ∷ 0x03 ∷ 0x00 ∷ 0x00 ∷ 0xC4 ∷ 0x03 ∷ [])
    ∷ at (InBlock 1 Erase) (0x01 ∷ 0x04 ∷ 0x22 ∷ 0x00 ∷ 0x04 ∷ 0x00 ∷ 0xD6 ∷ 0x03 ∷ [])
    ∷ at (InBlock 0 Program) (0x01 ∷ 0x07 ∷ 0x40 ∷ 0x00 ∷ 0x00 ∷ 0x00 ∷ 0xFF ∷ 0x03 ∷ 0x00 ∷ 0xB7 ∷ 0x03 ∷ [])
    ∷ at (InBlock 0 VerifyBlock) (0x01 ∷ 0x07 ∷ 0x13 ∷ 0x00 ∷ 0x00 ∷ 0x00 ∷ 0xFF ∷ 0x03 ∷ 0x00 ∷ 0xE4 ∷ 0x03 ∷ [])
    -- block 1: its addresses, low byte first
    ∷ at (InBlock 1 Blank) (0x01 ∷ 0x08 ∷ 0x32 ∷ 0x00 ∷ 0x04 ∷ 0x00 ∷ 0xFF ∷ 0x07 ∷ 0x00 ∷ 0x00 ∷ 0xBC ∷ 0x03 ∷ [])
    ∷ at (InBlock 1 Program) (0x01 ∷ 0x07 ∷ 0x40 ∷ 0x00 ∷ 0x04 ∷ 0x00 ∷ 0xFF ∷ 0x07 ∷ 0x00 ∷ 0xAF ∷ 0x03 ∷ [])
    ∷ at (InBlock 1 VerifyBlock) (0x01 ∷ 0x07 ∷ 0x13 ∷ 0x00 ∷ 0x04 ∷ 0x00 ∷ 0xFF ∷ 0x07 ∷ 0x00 ∷ 0xDC ∷ 0x03 ∷ [])
    -- the four pages of 40h in block 0, those of 13h in block 1: 17h, and 03h on the last
    ∷ at (InBlock 0 (ProgramPage 0)) (page_printed 0x00 0x5A 0x17)
    ∷ at (InBlock 0 (ProgramPage 1)) (page_printed 0x01 0x59 0x17)
    ∷ at (InBlock 0 (ProgramPage 2)) (page_printed 0x02 0x58 0x17)
    ∷ at (InBlock 0 (ProgramPage 3)) (page_printed 0x03 0x57 0x03)
    ∷ at (InBlock 1 (VerifyPage 0)) (page_printed 0x04 0x56 0x17)
    ∷ at (InBlock 1 (VerifyPage 1)) (page_printed 0x05 0x55 0x17)
    ∷ at (InBlock 1 (VerifyPage 2)) (page_printed 0x06 0x54 0x17)
    ∷ at (InBlock 1 (VerifyPage 3)) (page_printed 0x07 0x53 0x03)
    ∷ []

-- Answers: one status, two, the three of 40h's last page; those to 9Ah and C0h.
abbrev pub say : ℕ → Heard
say s = answered (data_frame (s ∷ []) Last)

abbrev pub both : ℕ → ℕ → Heard
both s t = answered (data_frame (s ∷ t ∷ []) Last)

abbrev pub third : ℕ → Heard
third s = answered (data_frame (0x06 ∷ 0x06 ∷ []) Last ++ data_frame (s ∷ []) Last)

abbrev pub rate_said : ℕ → ℕ → Heard
rate_said clock mode = answered (data_frame (0x06 ∷ clock ∷ mode ∷ []) Last)

abbrev pub signed_as : List ℕ → Heard
signed_as bs = answered (data_frame (0x06 ∷ []) Last ++ data_frame bs Last)

abbrev pub setup_well : List Heard
setup_well = rate_said 32 0x00 ∷ say 0x06 ∷ signed_as (signature two_block_part) ∷ []

-- A block that was not blank, up to its last page of 13h.
abbrev pub block_well : List Heard
block_well =
    say 0x1B
    ∷ say 0x06
    ∷ say 0x06
    ∷ both 0x06 0x06
    ∷ both 0x06 0x06
    ∷ both 0x06 0x06
    ∷ third 0x06
    ∷ say 0x06
    ∷ both 0x06 0x06
    ∷ both 0x06 0x06
    ∷ both 0x06 0x06
    ∷ []

-- A blank block, up to 13h.
abbrev pub to_verify : List Heard
to_verify = say 0x06 ∷ say 0x06 ∷ both 0x06 0x06 ∷ both 0x06 0x06 ∷ both 0x06 0x06 ∷ third 0x06 ∷ say 0x06 ∷ []

-- The most that two blocks and one retry can take: the last page of block 1 comes damaged the first time.
unfoldable pub worst : List Heard
worst = setup_well ++ block_well ++ both 0x06 0x06 ∷ block_well ++ both 0x06 0x07 ∷ block_well ++ both 0x06 0x06 ∷ []

-- Where a job stands after a history, beside where it should.
pub record PlaceRow : Type 0 where
  pub stands : Stage
  pub expected : Stage

abbrev pub after : List Heard → Stage → PlaceRow
after hs st = record { stands = (flow two_block_job two_block_image hs).place; expected = st }

abbrev pub failed_at : Cause → ℕ → Option ℕ → ℕ → Option ℕ → Stage
failed_at c cmd p s k = Over (Err (record { cause = c; command = cmd; page = p; status = s; block = k; fault = Good }))

-- An unreadable answer, with its fault (document 02, §4).
abbrev pub unreadable_at : ℕ → Option ℕ → Option ℕ → Judgement → Stage
unreadable_at cmd p k fault = Over (Err (record { cause = Unreadable; command = cmd; page = p; status = 0x00; block = k; fault = fault }))

unfoldable pub places : List PlaceRow
places =
    -- setup: a timeout; 06h alone, nothing, or a byte too many to 9Ah; another clock, another mode; another status
    after (silence ∷ []) (failed_at TimedOut 0x9A None 0x00 None)
    ∷ after (say 0x06 ∷ []) (unreadable_at 0x9A None None UnfitLength)
    ∷ after (answered [] ∷ []) (unreadable_at 0x9A None None WrongFirst)
    ∷ after (answered (data_frame (0x06 ∷ 0x20 ∷ 0x00 ∷ []) Last ++ 0x00 ∷ []) ∷ []) (unreadable_at 0x9A None None UnfitLength)
    ∷ after (answered (data_frame (0x06 ∷ 0x20 ∷ 0x00 ∷ []) More) ∷ []) (unreadable_at 0x9A None None (WrongFooter 6))
    ∷ after (rate_said 31 0x00 ∷ []) (failed_at Mismatch 0x9A None 0x06 None)
    ∷ after (rate_said 32 0x01 ∷ []) (failed_at Mismatch 0x9A None 0x06 None)
    ∷ after (say 0x05 ∷ []) (failed_at UnexpectedStatus 0x9A None 0x05 None)
    -- a setup command is restarted alone, and only as often as is allowed
    ∷ after (rate_said 32 0x00 ∷ say 0x07 ∷ []) (SetUp ResetChip)
    ∷ after (say 0x15 ∷ say 0x07 ∷ []) (failed_at UnexpectedStatus 0x9A None 0x07 None)
    -- C0h: another signature; 06h alone
    ∷ after (rate_said 32 0x00 ∷ say 0x06 ∷ signed_as (replicate 22 0x00) ∷ []) (failed_at Mismatch 0xC0 None 0x06 None)
    ∷ after (rate_said 32 0x00 ∷ say 0x06 ∷ say 0x06 ∷ []) (unreadable_at 0xC0 None None WrongFirst)
    -- 32h: blank goes to 40h, not blank to 22h
    ∷ after (setup_well ++ say 0x06 ∷ []) (InBlock 0 Program)
    ∷ after (setup_well ++ say 0x1B ∷ []) (InBlock 0 Erase)
    ∷ after (setup_well ++ say 0x05 ∷ []) (failed_at UnexpectedStatus 0x32 None 0x05 (Some 0))
    -- 1Bh is expected of 32h alone
    ∷ after (setup_well ++ say 0x06 ∷ say 0x1B ∷ []) (failed_at UnexpectedStatus 0x40 None 0x1B (Some 0))
    -- pages: the first unexpected status decides
    ∷ after (setup_well ++ say 0x06 ∷ say 0x06 ∷ both 0x06 0x07 ∷ []) (InBlock 0 Blank)
    ∷ after (setup_well ++ say 0x06 ∷ say 0x06 ∷ both 0x07 0x1C ∷ []) (InBlock 0 Blank)
    ∷ after (setup_well ++ say 0x06 ∷ say 0x06 ∷ both 0x1C 0x07 ∷ []) (failed_at UnexpectedStatus 0x40 (Some 0) 0x1C (Some 0))
    ∷ after (setup_well ++ say 0x06 ∷ say 0x06 ∷ both 0x06 0x06 ∷ both 0x06 0x1C ∷ []) (failed_at UnexpectedStatus 0x40 (Some 1) 0x1C (Some 0))
    -- the last page of 40h: the third status, and none
    ∷ after (setup_well ++ say 0x06 ∷ say 0x06 ∷ both 0x06 0x06 ∷ both 0x06 0x06 ∷ both 0x06 0x06 ∷ third 0x1B ∷ [])
    (failed_at UnexpectedStatus 0x40 (Some 3) 0x1B (Some 0))
    ∷ after (setup_well ++ say 0x06 ∷ say 0x06 ∷ both 0x06 0x06 ∷ both 0x06 0x06 ∷ both 0x06 0x06 ∷ third 0x15 ∷ []) (InBlock 0 Blank)
    ∷ after (setup_well ++ say 0x06 ∷ say 0x06 ∷ both 0x06 0x06 ∷ both 0x06 0x06 ∷ both 0x06 0x06 ∷ both 0x06 0x06 ∷ []) (unreadable_at 0x40 (Some 3) (Some 0) WrongFirst)
    -- a middle page with a third status is none of its frames
    ∷ after (setup_well ++ say 0x06 ∷ say 0x06 ∷ third 0x06 ∷ []) (unreadable_at 0x40 (Some 0) (Some 0) UnfitLength)
    -- 13h: 0Fh on a middle page fails the job too, though a chip that follows document 02, §2 says it on the last alone
    ∷ after (setup_well ++ to_verify ++ both 0x06 0x06 ∷ both 0x06 0x0F ∷ []) (failed_at UnexpectedStatus 0x13 (Some 1) 0x0F (Some 0))
    -- the last page, in block 1
    ∷ after (setup_well ++ block_well ++ both 0x06 0x06 ∷ block_well ++ both 0x06 0x0F ∷ []) (failed_at UnexpectedStatus 0x13 (Some 3) 0x0F (Some 1))
    ∷ after (setup_well ++ block_well ++ both 0x06 0x06 ∷ block_well ++ both 0x06 0x06 ∷ []) (Over (Ok tt))
    -- what comes after the end changes nothing
    ∷ after (silence ∷ setup_well) (failed_at TimedOut 0x9A None 0x00 None)
    ∷ []

-- The fault of an unreadable answer, from its first faulty frame: first byte, LEN, footer, SUM, each place counted from that frame's header.
abbrev pub at_reset : List ℕ → Judgement → PlaceRow
at_reset bs fault = after (rate_said 32 0x00 ∷ answered bs ∷ []) (unreadable_at 0x00 None None fault)

abbrev pub at_signature : List ℕ → Judgement → PlaceRow
at_signature bs fault = after (rate_said 32 0x00 ∷ say 0x06 ∷ answered bs ∷ []) (unreadable_at 0xC0 None None fault)

abbrev pub signed : List ℕ
signed = data_frame (signature two_block_part) Last

unfoldable pub faults_found : List PlaceRow
faults_found =
    at_reset (0x01 ∷ 0x01 ∷ 0x06 ∷ 0xF9 ∷ 0x03 ∷ []) WrongFirst
    ∷ at_reset (0x02 ∷ []) UnfitLength
    ∷ at_reset (0x02 ∷ 0x01 ∷ 0x06 ∷ 0xF9 ∷ []) UnfitLength
    -- overlong, whatever else is wrong; with another first byte that is judged first
    ∷ at_reset (0x02 ∷ 0x01 ∷ 0x06 ∷ 0xF8 ∷ 0x17 ∷ 0x00 ∷ []) UnfitLength
    ∷ at_reset (0x00 ∷ 0x01 ∷ 0x06 ∷ 0xF8 ∷ 0x17 ∷ 0x00 ∷ []) WrongFirst
    ∷ at_reset (0x02 ∷ 0x01 ∷ 0x06 ∷ 0xF8 ∷ 0x03 ∷ []) (WrongSum 3)
    ∷ at_reset (0x02 ∷ 0x01 ∷ 0x06 ∷ 0xF8 ∷ 0x17 ∷ []) (WrongFooter 4)
    -- C0h: the first frame is judged first; the second's places count from its own header, byte 5 of the answer
    ∷ at_signature (0x02 ∷ 0x01 ∷ 0x06 ∷ 0xF8 ∷ 0x03 ∷ set signed 24 0x00) (WrongSum 3)
    ∷ at_signature (data_frame (0x06 ∷ []) Last ++ set signed 24 0x00) (WrongSum 24)
    ∷ at_signature (data_frame (0x06 ∷ []) Last ++ set signed 25 0x17) (WrongFooter 25)
    ∷ at_signature (data_frame (0x06 ∷ []) Last ++ set signed 0 0x01) WrongFirst
    ∷ at_signature (data_frame (0x06 ∷ []) Last ++ take 25 signed) UnfitLength
    ∷ at_signature (data_frame (0x06 ∷ []) Last ++ set signed 24 0x00 ++ 0x00 ∷ []) UnfitLength
    -- its 06h become 07h asks for one frame, and what follows is too much
    ∷ at_signature (0x02 ∷ 0x01 ∷ 0x07 ∷ 0xF9 ∷ 0x03 ∷ signed) UnfitLength
    ∷ []

-- The number of a verdict, 0 where the call is accepted; beside the number that it should be.
abbrev pub number_of : Result Unit Refusal → ℕ
number_of (Ok _) = 0
number_of (Err r) = number r

pub record RefusalRow : Type 0 where
  pub gives : ℕ
  pub expected : ℕ

abbrev pub call : Job → ℕ → Call → ℕ → RefusalRow
call j image c n = record { gives = number_of (call_verdict j image c); expected = n }

abbrev pub dock_at : Stage → Bool → ℕ → ℕ → Dock
dock_at st awaited retries frames = record { stage = st; awaited = awaited; retries = retries; frames = frames }

abbrev pub job_with : ℕ → ℕ → ℕ → ℕ → ℕ → Job
job_with start end rate supply retries = record { part = two_block_part; start = start; end = end; rate = rate; supply = supply; retries = retries }

unfoldable pub refusals : List RefusalRow
refusals =
    -- 1: rate and supply; before 5
    call two_block_job 2048 Begins 0
    ∷ call (job_with 0x0000 0x07FF 0x04 33 1) 2048 Begins 1
    ∷ call (job_with 0x0000 0x07FF 0x03 17 1) 2048 Begins 1
    ∷ call (job_with 0x0000 0x07FF 0x03 56 1) 2048 Begins 1
    ∷ call (job_with 0x0001 0x07FF 0x04 33 1) 2048 Begins 1
    -- 5: not whole blocks, outside flash, from code to data, past 24 bits; before 6
    ∷ call (job_with 0x0001 0x07FF 0x00 33 1) 2048 Begins 5
    ∷ call (job_with 0x3C00 0x43FF 0x00 33 1) 2048 Begins 5
    ∷ call (job_with 0x3C00 0xF13FF 0x00 33 1) 2048 Begins 5
    ∷ call (job_with 0x1000000 0x10007FF 0x00 33 1) 2048 Begins 5
    ∷ call (job_with 0xF1000 0xF1FFF 0x00 33 1) 4096 Begins 0
    -- 6, and 7 after it
    ∷ call two_block_job 2047 Begins 6
    ∷ call (job_with 0x0000 0x07FF 0x00 33 16) 2047 Begins 6
    ∷ call (job_with 0x0000 0x07FF 0x00 33 16) 2048 Begins 7
    ∷ call (job_with 0x0000 0x07FF 0x00 33 15) 2048 Begins 0
    -- 9: block, page, retries, frames; also of a job that is over; before 4 and 8
    ∷ call two_block_job 2048 (Asks (dock_at (InBlock 2 Blank) false 0 0) 259) 9
    ∷ call two_block_job 2048 (Asks (dock_at (InBlock 1 (ProgramPage 4)) false 0 0) 260) 9
    ∷ call two_block_job 2048 (Asks (dock_at (InBlock 1 (VerifyPage 3)) false 0 0) 260) 0
    ∷ call two_block_job 2048 (Tells (dock_at (SetUp BaudRate) true 2 1)) 9
    ∷ call two_block_job 2048 (Tells (dock_at (Over (Ok tt)) false 0 40)) 9
    ∷ call two_block_job 2048 (Tells (dock_at (failed_at TimedOut 0x40 (Some 4) 0x00 (Some 0)) false 0 5)) 9
    -- a frame that is due at the bound; at the bound with an answer awaited
    ∷ call two_block_job 2048 (Asks (dock_at (SetUp BaudRate) false 0 39) 260) 9
    ∷ call two_block_job 2048 (Asks (dock_at (SetUp BaudRate) false 0 38) 260) 0
    ∷ call two_block_job 2048 (Asks (dock_at (SetUp BaudRate) true 0 39) 260) 8
    ∷ call two_block_job 2048 (Tells (dock_at (SetUp BaudRate) true 0 39)) 0
    -- 4 before 8
    ∷ call two_block_job 2048 (Asks (dock_at (SetUp BaudRate) true 0 1) 259) 4
    ∷ call two_block_job 2048 (Asks (dock_at (Over (Ok tt)) false 0 1) 259) 4
    -- 8: a frame asked while an answer is awaited, an answer told while none is, and a job that is over
    ∷ call two_block_job 2048 (Asks (dock_at (SetUp BaudRate) true 0 1) 260) 8
    ∷ call two_block_job 2048 (Tells (dock_at (SetUp BaudRate) false 0 1)) 8
    ∷ call two_block_job 2048 (Asks (dock_at (Over (Ok tt)) false 0 1) 260) 8
    ∷ call two_block_job 2048 (Tells (dock_at (Over (Ok tt)) true 0 1)) 8
    -- states that are no refusal: no frame counted while an answer is awaited
    ∷ call two_block_job 2048 (Tells (dock_at (InBlock 0 Program) true 0 0)) 0
    ∷ []
