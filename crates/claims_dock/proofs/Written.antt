-- What the dock writes is what the chip reads: of the frame of every command that an accepted call hands out, the payload is read as that very command.
-- Assumes nothing.
use mathlib.Core.Bool.{false, true, true≢false}
use mathlib.Core.List.{List}
use mathlib.Core.Path.{◌∙◌, ◌≡◌, ap, refl}
use Prim.Native.Nat.{◌<◌, ◌^◌, ℕ}
use native.Mathlib.Omega.{arith}
use lib.ListN.{length}
use Rattle.commands.proofs.Laws.{read_back}
use Rattle.commands.specs.Commands.{end_of, payload_of, read_command, start_of}
use Rattle.commands.specs.declared.Command.{Command}
use Rattle.part.specs.declared.Range.{Range}
use Rattle.std.specs.Prelude.{None, Ok, Option, Some}
use Rattle.dock_flow.specs.Frames.{first_of_block, frame_at, frame_of, last_of_block, query_at, query_with, work_frame}
use Rattle.dock_job.proofs.Laws.{accepts, asked_is, block-is, place_is}
use Rattle.dock_job.specs.Job.{blocks_in, blocks_of, is_over, job_range}
use Rattle.dock_job.specs.Refusals.{call_verdict, good_stage}
use Rattle.dock_job.specs.declared.Dock.{Dock}
use Rattle.dock_job.specs.declared.Job.{Job}
use Rattle.dock_job.specs.declared.Setup.TheVariants.{BaudRate, ResetChip, SiliconSignature}
use Rattle.dock_job.specs.declared.Stage.{Stage}
use Rattle.dock_job.specs.declared.Stage.TheVariants.{InBlock, Over, SetUp}
use Rattle.dock_job.specs.declared.Work.TheVariants.{Blank, Erase, Program, ProgramPage, VerifyBlock, VerifyPage}
use Rattle.dock_job.specs.declared.refusals.Call.TheVariants.{Asks}
use Rattle.frame.proofs.Laws.Frame.{payload-framed}
use Rattle.frame.specs.Frame.{payload}
use Rattle.frame.specs.declared.Footer.TheVariants.{Last}
use Rattle.frame.specs.declared.Header.TheVariants as Header
use Rattle.part.proofs.Laws.{blocks-most, first_small, range-good}
use Rattle.part.specs.Part.{block_size, described}

-- The addresses of a block of a described job are three bytes.
pub record Short (j : Job) (k : ℕ) : Type 0 where
  pub starts : first_of_block j k < 256 ^ 3
  pub ends : last_of_block j k < 256 ^ 3

pub short : (j : Job) (k : ℕ) → described j.part ≡ true → k < blocks_of j → Short j k
unfolding first_of_block last_of_block block_size blocks_in
short j k d h = go (job_range j) refl h
  where
    go : (r : Option Range) → job_range j ≡ r → k < blocks_in r → Short j k
    go (Some range) e h =
        let s = range-good j.part j.start j.end range.area range.block range.count e in
        let m = blocks-most j.part range.area d in
        let f = first_small range.area in
        record { starts = omega (arith, s.begins, s.inside); ends = omega (arith, s.begins, s.inside) }
    go None e h = absurd (omega arith)

-- A command in its frame is read as it is.
pub framed-read : (c : Command) → start_of c < 256 ^ 3 → end_of c < 256 ^ 3 → read_command (payload (frame_of c)) ≡ Ok c
framed-read c s e = ap read_command (payload-framed Header.Command (payload_of c) Last) ∙ read_back c s e

module _ (j : Job) (image : List ℕ) (d : described j.part ≡ true) where
  stage-read : (st : Stage) → good_stage j st ≡ true → is_over st ≡ false → (query_at j st).page ≡ None
      → read_command (payload (frame_at j image st)) ≡ Ok (query_at j st).command
  unfolding frame_at work_frame query_with is_over
  stage-read (SetUp BaudRate) g o n = framed-read _ (omega arith) (omega arith)
  stage-read (SetUp ResetChip) g o n = framed-read _ (omega arith) (omega arith)
  stage-read (SetUp SiliconSignature) g o n = framed-read _ (omega arith) (omega arith)
  stage-read (InBlock k Blank) g o n = let s = short j k d (block-is j k (place_is j k Blank g).in-job) in framed-read _ s.starts s.ends
  stage-read (InBlock k Erase) g o n = let s = short j k d (block-is j k (place_is j k Erase g).in-job) in framed-read _ s.starts (omega arith)
  stage-read (InBlock k Program) g o n = let s = short j k d (block-is j k (place_is j k Program g).in-job) in framed-read _ s.starts s.ends
  stage-read (InBlock k (ProgramPage p)) g o n = absurd (let z : ◌≡◌ {A = ℕ} 0 1 = cc in omega arith)
  stage-read (InBlock k VerifyBlock) g o n = let s = short j k d (block-is j k (place_is j k VerifyBlock g).in-job) in framed-read _ s.starts s.ends
  stage-read (InBlock k (VerifyPage p)) g o n = absurd (let z : ◌≡◌ {A = ℕ} 0 1 = cc in omega arith)
  stage-read (Over e) g o n = absurd (true≢false o)

pub command-read : (j : Job) (image : List ℕ) (d : Dock) (room : ℕ) → call_verdict j (length image) (Asks d room) ≡ Ok tt
    → (query_at j d.stage).page ≡ None → read_command (payload (frame_at j image d.stage)) ≡ Ok (query_at j d.stage).command
command-read j image d room v n =
    let a = accepts j (length image) (Asks d room) v in
    let b = asked_is j d (length image) room a in
    stage-read j image a.described-part d.stage b.good.at_stage b.going n
