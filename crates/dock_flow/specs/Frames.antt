-- Document 01, "The dock's flow", "Frames": which frame is sent at a stage, what its answer looks like, and how it is handed out.
use Rattle.std.specs.Prelude.{Bool, List, [], ◌++◌, ◌*◌, ◌+◌, ◌-◌, ℕ, leb, drop, length, take, Err, None, Ok, Option, Result, Some}
use Rattle.commands.specs.Commands.{payload_of}
use Rattle.commands.specs.declared.Command.{Command}
use Rattle.commands.specs.declared.Command.TheVariants.{BlankCheck, BlockErase, Programming, RateSet, Reset, SignatureGet, Verify}
use Rattle.dock_answer.specs.declared.Form.{Form}
use Rattle.dock_answer.specs.declared.Form.TheVariants.{OfLastPage, OfPage, OneStatus, WithRate, WithSignature}
use Rattle.part.specs.declared.refusal.Refusal.{Refusal}
use Rattle.dock_flow.specs.declared.frames.Query.{Query}
use Rattle.dock_job.specs.Job.{pages_of, size_of}
use Rattle.dock_job.specs.Refusals.{call_verdict}
use Rattle.dock_job.specs.declared.Dock.{Dock}
use Rattle.dock_job.specs.declared.Job.{Job}
use Rattle.dock_job.specs.declared.Setup.TheVariants.{BaudRate, ResetChip, SiliconSignature}
use Rattle.dock_job.specs.declared.Stage.{Stage}
use Rattle.dock_job.specs.declared.Stage.TheVariants.{InBlock, Over, SetUp}
use Rattle.dock_job.specs.declared.Work.TheVariants.{Blank, Erase, Program, ProgramPage, VerifyBlock, VerifyPage}
use Rattle.dock_job.specs.declared.refusals.Call.TheVariants.{Asks}
use Rattle.frame.specs.Frame.{data_frame, framed}
use Rattle.frame.specs.declared.Footer.{Footer}
use Rattle.frame.specs.declared.Footer.TheVariants.{Last, More}
use Rattle.frame.specs.declared.Header.TheVariants as Header
use Rattle.part.specs.Part.{page_size}
use Rattle.words.specs.Words.{if◌then◌otherwise◌}

-- The block's last page is the one after which none is left.
unfoldable pub last_page : Job → ℕ → Bool
last_page j p = leb (pages_of j) (p + 1)

-- What the answer to a page of 40h looks like: the last has a status more.
unfoldable pub stored_form : Job → ℕ → Form
stored_form j p = if last_page j p then OfLastPage otherwise OfPage

-- A block of the job, counted from 0: its first address and its last.
unfoldable pub first_of_block : Job → ℕ → ℕ
first_of_block j k = j.start + k * size_of j

unfoldable pub last_of_block : Job → ℕ → ℕ
last_of_block j k = first_of_block j k + (size_of j - 1)

-- "Frames: 9Ah .., 00h, C0h .. Then per block ..: 32h with 00h; 22h ..; 40h and four pages; 13h and four pages.": the command at a stage (a page's is the one
-- that it belongs to), the page and the block that a failure names, and what the answer looks like. The first command has rate and supply.
abbrev pub query_of : Command → Option ℕ → Option ℕ → Form → Query
query_of c page block form = record { command = c; page = page; block = block; form = form }

unfoldable pub query_with : ℕ → ℕ → Job → Stage → Query
query_with rate supply j (SetUp BaudRate) = query_of (RateSet rate supply) None None WithRate
query_with rate supply j (SetUp ResetChip) = query_of Reset None None OneStatus
query_with rate supply j (SetUp SiliconSignature) = query_of SignatureGet None None WithSignature
query_with rate supply j (InBlock k Blank) = query_of (BlankCheck (first_of_block j k) (last_of_block j k) 0x00) None (Some k) OneStatus
query_with rate supply j (InBlock k Erase) = query_of (BlockErase (first_of_block j k)) None (Some k) OneStatus
query_with rate supply j (InBlock k Program) = query_of (Programming (first_of_block j k) (last_of_block j k)) None (Some k) OneStatus
query_with rate supply j (InBlock k (ProgramPage p)) = query_of (Programming (first_of_block j k) (last_of_block j k)) (Some p) (Some k) (stored_form j p)
query_with rate supply j (InBlock k VerifyBlock) = query_of (Verify (first_of_block j k) (last_of_block j k)) None (Some k) OneStatus
query_with rate supply j (InBlock k (VerifyPage p)) = query_of (Verify (first_of_block j k) (last_of_block j k)) (Some p) (Some k) OfPage
query_with rate supply j (Over e) = query_of Reset None None OneStatus

abbrev pub query_at : Job → Stage → Query
query_at j st = query_with j.rate j.supply j st

-- The bytes of the image that go into a page. "then 03h on the last frame, else 17h"
abbrev pub page_bytes : Job → List ℕ → ℕ → ℕ → List ℕ
page_bytes j image k p = take page_size (drop (k * size_of j + p * page_size) image)

unfoldable pub page_footer : Job → ℕ → Footer
page_footer j p = if last_page j p then Last otherwise More

-- The frame that is sent at a stage: the command's, or the page's in a block.
abbrev pub frame_of : Command → List ℕ
frame_of c = framed Header.Command (payload_of c) Last

unfoldable pub work_frame : Job → List ℕ → ℕ → Option ℕ → Command → List ℕ
work_frame j image k None c = frame_of c
work_frame j image k (Some p) c = data_frame (page_bytes j image k p) (page_footer j p)

unfoldable pub frame_at : Job → List ℕ → Stage → List ℕ
frame_at j image (SetUp s) = frame_of (query_at j (SetUp s)).command
frame_at j image (InBlock k w) = work_frame j image k (query_at j (InBlock k w)).page (query_at j (InBlock k w)).command
frame_at j image (Over e) = []

-- The frame lies at the start of the room, and the room past it stays.
pub record Placed : Type 0 where
  pub long : ℕ
  pub room : List ℕ

abbrev pub placed : ℕ → List ℕ → Placed
placed n r = record { long = n; room = r }

abbrev pub placing : List ℕ → List ℕ → Placed
placing f room = placed (length f) (f ++ drop (length f) room)

-- A frame that is asked for: refused, and the room stays; or the stage's frame.
pub record Handing : Type 0 where
  pub answer : Result ℕ Refusal
  pub room : List ℕ

abbrev pub handing : Result ℕ Refusal → List ℕ → Handing
handing a r = record { answer = a; room = r }

unfoldable pub handed : Result Unit Refusal → Placed → List ℕ → Handing
handed (Err r) f room = handing (Err r) room
handed (Ok _) f room = handing (Ok f.long) f.room

unfoldable pub hand_of : Job → List ℕ → Dock → List ℕ → Handing
hand_of j image d room = handed (call_verdict j (length image) (Asks d (length room))) (placing (frame_at j image d.stage) room) room
