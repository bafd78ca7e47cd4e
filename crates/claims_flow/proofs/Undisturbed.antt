-- The undisturbed flow is the one written out, for every job: by induction over its blocks.
-- Assumes nothing.
use mathlib.Core.Bool.{Bool, false, true}
use mathlib.Core.List.{List, [], ◌++◌, ◌∷◌, append-nil}
use mathlib.Core.Path.{◌∙◌, ◌≡◌, ap, refl, sym}
use Prim.Native.Nat.{◌+◌, ℕ}
use native.Mathlib.Omega.{arith}
use lib.Dec.{leb}
use lib.ListN.{drop, get_or, length, length-append, take}
use borrow.Author.Tests.{eq-eqb, le-ltb, lt-ltb}
use Rattle.claims_dock.proofs.Stepped.{dock-is-flow}
use Rattle.claims_dock.specs.Examples.{both, say, third}
use Rattle.claims_dock.specs.Stepping.{result_at, results_of}
use Rattle.claims_flow.specs.Undisturbed.{Undisturbed, UndisturbedDock, all_answers, all_frames, answers_of, blank_answers, block_answers, block_count}
use Rattle.claims_flow.specs.Undisturbed.{block_frames, command_frame, erase_count, erase_frames, four_pages, from_to, frames_from, page_answers}
use Rattle.claims_frame.proofs.RoundTrip.{ReadBack, read_back}
use Rattle.commands.specs.Commands.{com_of, information_of, payload_of}
use Rattle.dock_answer.specs.Answer.{deciding, judge_answer, judge_frames, matching, rate_matches, read_answer, shape, signature_matches, statuses, said_as}
use Rattle.std.specs.Prelude.{Ok, Some}
use Rattle.dock_answer.specs.declared.Form.{Form}
use Rattle.dock_answer.specs.declared.Form.TheVariants.{OfLastPage, OfPage, OneStatus, WithRate, WithSignature}
use Rattle.dock_flow.specs.Flow.{Flow, Heard, after_answer, after_heard, after_setup, after_status, after_work, answered, block_from, exchanges, flow, frames_in, in_block, leads, next, place_after, says_not_blank, setup_from, spent_in}
use Rattle.dock_flow.specs.Frames.{first_of_block, frame_at, last_of_block, last_page, page_footer, query_at, query_with, stored_form, work_frame}
use Rattle.dock_job.specs.Job.{blocks_of, is_over, setup}
use Rattle.dock_job.specs.declared.Job.{Job}
use Rattle.dock_job.specs.declared.Setup.TheVariants.{BaudRate, ResetChip, SiliconSignature}
use Rattle.dock_job.specs.declared.Stage.{Stage}
use Rattle.dock_job.specs.declared.Stage.TheVariants.{InBlock, Over, SetUp}
use Rattle.dock_job.specs.declared.Work.{Work}
use Rattle.dock_job.specs.declared.Work.TheVariants.{Blank, Erase, Program, ProgramPage, VerifyBlock, VerifyPage}
use Rattle.frame.specs.Frame.{counted, data_frame, framed, is_frame}
use Rattle.frame.specs.Judgement.{judge_of, summed}
use Rattle.frame.specs.Sum.{less, less_all, sum_of}
use Rattle.frame.specs.Wire.{judge_reply, unfit_reply}
use Rattle.frame.specs.declared.Footer.TheVariants.{Last}
use Rattle.frame.specs.declared.judgement.Judgement.TheVariants.{Good}
use Rattle.lent.proofs.Laws.{same_self}
use Rattle.numbers.specs.Numbers.{low_first}
use Rattle.part.proofs.LawsSignature.{signature-long}
use Rattle.part.specs.Part.{Arrays, block_size}
use Rattle.part.specs.Rate.{mode_of}
use Rattle.part.specs.Signature.{signature}
use Rattle.part.specs.declared.Part.{Part}
use Rattle.words.specs.Words.{◌and◌, ◌or◌, if◌then◌otherwise◌}

-- The frames of a history from a stage on, with no retry spent, and the job finished.
record Runs (j : Job) (image : List ℕ) (st : Stage) (hs : List Heard) (fs : List (List ℕ)) : Type 0 where
  sent : frames_in (exchanges j image 0 st hs) ≡ fs
  spent : spent_in (exchanges j image 0 st hs) ≡ 0
  place : place_after j 0 st hs ≡ Over (Ok tt)

-- One exchange before it.
step : (j : Job) (image : List ℕ) (st after : Stage) (h : Heard) (hs : List Heard) (fs : List (List ℕ)) → is_over st ≡ false → after_heard j 0 st h ≡ leads after 0
    → Runs j image after hs fs → Runs j image st (h ∷ hs) (frame_at j image st ∷ fs)
unfolding exchanges place_after frames_in spent_in if◌then◌otherwise◌
step j image st after h hs fs o e r =
    record {
      sent = rw (o, e) (ap (λ (xs : List (List ℕ)). frame_at j image st ∷ xs) r.sent);
      spent = rw (o, e) (omega (arith, r.spent));
      place = rw (o, e) r.place;
    }

-- An answer that is read as 06h and matches leads to what follows.
well : (j : Job) (st : Stage) (bs : List ℕ) → (read_answer j.part j.supply (query_at j st).form bs).decoded ≡ Some (said_as 0x06 true)
    → after_heard j 0 st (answered bs) ≡ leads (next j st) 0
unfolding after_heard after_answer after_status if◌then◌otherwise◌
well j st bs e = rw e

-- The good answers are read so.
rate-read : (p : Part) (supply : ℕ)
    → (read_answer p supply WithRate (data_frame (0x06 ∷ p.clock ∷ (if leb 27 supply then 0x00 otherwise 0x01) ∷ []) Last)).decoded ≡ Some (said_as 0x06 true)
unfolding read_answer judge_answer judge_frames shape statuses deciding matching rate_matches mode_of framed ◌and◌ if◌then◌otherwise◌
rate-read p supply =
    let m : ℕ = if leb 27 supply then 0x00 otherwise 0x01 in
    rw ((read_back (0x06 ∷ p.clock ∷ m ∷ []) [] (omega arith) (omega arith)).read true refl, eq-eqb p.clock p.clock refl, eq-eqb m m refl)

-- The two frames that answer C0h.
module _ (sig : List ℕ) (l : length sig ≡ 22) where
  abbrev both-frames : List ℕ
  both-frames = data_frame (0x06 ∷ []) Last ++ data_frame sig Last

  second : ReadBack sig [] (data_frame sig Last)
  second = rw (append-nil (data_frame sig Last)) at (read_back sig [] (omega arith) (omega arith))

  says-06 : get_or both-frames 2 0 ≡ 0x06
  unfolding framed
  says-06 = refl

  second-carries : drop 7 both-frames ≡ drop 2 (data_frame sig Last)
  unfolding framed
  second-carries = refl

  carried-signature : take 22 (drop 7 both-frames) ≡ sig
  carried-signature =
      ap (λ (xs : List ℕ). take 22 xs) second-carries ∙ ap (λ (n : ℕ). take n (drop 2 (data_frame sig Last))) (sym l) ∙ second.payload

  two-frames : judge_frames (1 ∷ 22 ∷ []) both-frames ≡ Good
  unfolding judge_frames if◌then◌otherwise◌ ◌and◌
  two-frames =
      let first = read_back (0x06 ∷ []) (data_frame sig Last) (omega arith) (omega arith) in
      rw (first.read false refl, first.follows, ap (λ (n : ℕ). judge_reply n true (data_frame sig Last)) (sym l) ∙ second.read true refl)

signature-read : (p : Part) (supply : ℕ) → Arrays p → (read_answer p supply WithSignature (data_frame (0x06 ∷ []) Last ++ data_frame (signature p) Last)).decoded ≡ Some (said_as 0x06 true)
unfolding read_answer judge_answer shape statuses deciding matching signature_matches if◌then◌otherwise◌
signature-read p supply a =
    let l = signature-long p a.device_long a.name_long a.version_long in
    let sig = signature p in
    rw (says-06 sig l, two-frames sig l, carried-signature sig l, same_self sig)

-- The other answers are the same in every job, and are read by computation.
one-read : (p : Part) (supply : ℕ) → (read_answer p supply OneStatus (data_frame (0x06 ∷ []) Last)).decoded ≡ Some (said_as 0x06 true)
unfolding read_answer judge_answer judge_frames shape statuses deciding matching framed judge_reply unfit_reply counted is_frame judge_of summed less less_all sum_of ◌and◌
    ◌or◌ if◌then◌otherwise◌
one-read p supply = refl

not-blank-read : (p : Part) (supply : ℕ) → (read_answer p supply OneStatus (data_frame (0x1B ∷ []) Last)).decoded ≡ Some (said_as 0x1B true)
unfolding read_answer judge_answer judge_frames shape statuses deciding matching framed judge_reply unfit_reply counted is_frame judge_of summed less less_all sum_of ◌and◌
    ◌or◌ if◌then◌otherwise◌
not-blank-read p supply = refl

page-read : (p : Part) (supply : ℕ) → (read_answer p supply OfPage (data_frame (0x06 ∷ 0x06 ∷ []) Last)).decoded ≡ Some (said_as 0x06 true)
unfolding read_answer judge_answer judge_frames shape statuses deciding matching framed judge_reply unfit_reply counted is_frame judge_of summed less less_all sum_of ◌and◌
    ◌or◌ if◌then◌otherwise◌
page-read p supply = refl

last-page-read : (p : Part) (supply : ℕ)
    → (read_answer p supply OfLastPage (data_frame (0x06 ∷ 0x06 ∷ []) Last ++ data_frame (0x06 ∷ []) Last)).decoded ≡ Some (said_as 0x06 true)
unfolding read_answer judge_answer judge_frames shape statuses deciding matching framed judge_reply unfit_reply counted is_frame judge_of summed less less_all sum_of ◌and◌
    ◌or◌ if◌then◌otherwise◌
last-page-read p supply = refl

module _ (j : Job) (image : List ℕ) where
  -- The frame of a stage, answered well.
  said : (st after : Stage) (f : Form) (bs : List ℕ) (hs : List Heard) (fs : List (List ℕ)) → is_over st ≡ false → (query_at j st).form ≡ f
      → (read_answer j.part j.supply f bs).decoded ≡ Some (said_as 0x06 true) → next j st ≡ after → Runs j image after hs fs
      → Runs j image st (answered bs ∷ hs) (frame_at j image st ∷ fs)
  said st after f bs hs fs o q e n r = step j image st after (answered bs) hs fs o (well j st bs (rw q e) ∙ ap (λ (x : Stage). leads x 0) n) r

  module _ (k : ℕ) where
    -- A command that has one status for its answer, and the four pages after it; the last of them has an answer of its own.
    one : (w v : Work) (hs : List Heard) (fs : List (List ℕ)) → (query_at j (InBlock k w)).form ≡ OneStatus → after_work j k w ≡ InBlock k v
        → Runs j image (InBlock k v) hs fs → Runs j image (InBlock k w) (say 0x06 ∷ hs) (frame_at j image (InBlock k w) ∷ fs)
    unfolding is_over next
    one w v hs fs q n r = said (InBlock k w) (InBlock k v) OneStatus _ hs fs refl q (one-read j.part j.supply) n r

    verified : (after : Stage) (hs : List Heard) (fs : List (List ℕ)) → block_from j (k + 1) ≡ after → Runs j image after hs fs
        → Runs j image (InBlock k (VerifyPage 0)) (page_answers (both 0x06 0x06) ++ hs) (four_pages image k ++ fs)
    unfolding is_over next after_work last_page block_size query_with stored_form frame_at work_frame page_footer if◌then◌otherwise◌
    verified after hs fs n r =
        let e = page-read j.part j.supply in
        said (InBlock k (VerifyPage 0)) (InBlock k (VerifyPage 1)) OfPage _ _ _ refl refl e refl
        (said (InBlock k (VerifyPage 1)) (InBlock k (VerifyPage 2)) OfPage _ _ _ refl refl e refl
        (said (InBlock k (VerifyPage 2)) (InBlock k (VerifyPage 3)) OfPage _ _ _ refl refl e refl
        (said (InBlock k (VerifyPage 3)) after OfPage _ hs fs refl refl e n r)))

    stored : (hs : List Heard) (fs : List (List ℕ)) → Runs j image (InBlock k VerifyBlock) hs fs
        → Runs j image (InBlock k (ProgramPage 0)) (page_answers (third 0x06) ++ hs) (four_pages image k ++ fs)
    unfolding is_over next after_work last_page block_size query_with stored_form frame_at work_frame page_footer if◌then◌otherwise◌
    stored hs fs r =
        let e = page-read j.part j.supply in
        said (InBlock k (ProgramPage 0)) (InBlock k (ProgramPage 1)) OfPage _ _ _ refl refl e refl
        (said (InBlock k (ProgramPage 1)) (InBlock k (ProgramPage 2)) OfPage _ _ _ refl refl e refl
        (said (InBlock k (ProgramPage 2)) (InBlock k (ProgramPage 3)) OfPage _ _ _ refl refl e refl
        (said (InBlock k (ProgramPage 3)) (InBlock k VerifyBlock) OfLastPage _ hs fs refl refl (last-page-read j.part j.supply) refl r)))

    -- From 40h to the end of the block.
    programmed : (after : Stage) (hs : List Heard) (fs : List (List ℕ)) → block_from j (k + 1) ≡ after → Runs j image after hs fs
        → Runs j image (InBlock k Program) (say 0x06 ∷ page_answers (third 0x06) ++ say 0x06 ∷ page_answers (both 0x06 0x06) ++ hs)
        (command_frame (0x40 ∷ from_to j k) ∷ four_pages image k ++ command_frame (0x13 ∷ from_to j k) ∷ four_pages image k ++ fs)
    unfolding after_work query_with frame_at work_frame payload_of com_of information_of first_of_block last_of_block block_size
    programmed after hs fs n r = one Program (ProgramPage 0) _ _ refl refl (stored _ _ (one VerifyBlock (VerifyPage 0) _ _ refl refl (verified after hs fs n r)))

    not-blank : after_heard j 0 (InBlock k Blank) (say 0x1B) ≡ leads (InBlock k Erase) 0
    unfolding after_heard after_answer after_status says_not_blank in_block query_with com_of ◌and◌ if◌then◌otherwise◌
    not-blank = rw (not-blank-read j.part j.supply)

    -- A whole block: to 32h it says 06h, or 1Bh, and then 22h comes.
    block_runs : (b : Bool) (after : Stage) (hs : List Heard) (fs : List (List ℕ)) → block_from j (k + 1) ≡ after → Runs j image after hs fs
        → Runs j image (InBlock k Blank) (block_answers b ++ hs) (block_frames j image k b ++ fs)
    unfolding is_over blank_answers erase_frames after_work query_with frame_at work_frame payload_of com_of information_of first_of_block last_of_block block_size low_first
    block_runs true after hs fs n r = one Blank Program _ _ refl refl (programmed after hs fs n r)
    block_runs false after hs fs n r =
        step j image (InBlock k Blank) (InBlock k Erase) (say 0x1B) _ _ refl not-blank (one Erase Program _ _ refl refl (programmed after hs fs n r))

  -- The blocks that are left, and the end.
  blocks-run : (k : ℕ) (bs : List Bool) → k + length bs ≡ blocks_of j → Runs j image (block_from j k) (answers_of bs) (frames_from j image k bs)
  unfolding answers_of frames_from block_from exchanges frames_in spent_in place_after if◌then◌otherwise◌
  blocks-run k [] e = rw (le-ltb k (blocks_of j) (omega arith)) (record { sent = refl; spent = refl; place = refl })
  blocks-run k (b ∷ bs) e =
      rw (lt-ltb k (blocks_of j) (omega arith)) (block_runs k b (block_from j (k + 1)) (answers_of bs) (frames_from j image (k + 1) bs) refl (blocks-run (k + 1) bs (omega arith)))

  setup-runs : (bs : List Bool) → Arrays j.part → length bs ≡ blocks_of j → Runs j image (SetUp BaudRate) (all_answers j bs) (all_frames j image bs)
  unfolding is_over next after_setup setup_from setup query_with frame_at payload_of com_of information_of if◌then◌otherwise◌
  setup-runs bs a e =
      said (SetUp BaudRate) (SetUp ResetChip) WithRate _ _ _ refl refl (rate-read j.part j.supply) refl
      (said (SetUp ResetChip) (SetUp SiliconSignature) OneStatus _ _ _ refl refl (one-read j.part j.supply) refl
      (said (SetUp SiliconSignature) (block_from j 0) WithSignature _ _ _ refl refl (signature-read j.part j.supply a) refl (blocks-run 0 bs (omega arith))))

pub undisturbed : Undisturbed
unfolding flow setup_from setup
undisturbed j image bs a e =
    let r = setup-runs j image bs a e in
    rw (r.sent, r.spent, r.place)

block-long : (j : Job) (image : List ℕ) (k : ℕ) (b : Bool) → length (block_frames j image k b) ≡ 11 + erase_count b
unfolding erase_frames erase_count
block-long j image k true = refl
block-long j image k false = refl

frames-long : (j : Job) (image : List ℕ) (k : ℕ) (bs : List Bool) → length (frames_from j image k bs) ≡ block_count bs
unfolding frames_from block_count
frames-long j image k [] = refl
frames-long j image k (b ∷ bs) =
    length-append (block_frames j image k b) (frames_from j image (k + 1) bs) ∙ rw (block-long j image k b, frames-long j image (k + 1) bs)

all-long : (j : Job) (image : List ℕ) (bs : List Bool) → length (all_frames j image bs) ≡ 3 + block_count bs
all-long j image bs = omega (arith, frames-long j image 0 bs)

pub flow-long : (j : Job) (image : List ℕ) (bs : List Bool) → Arrays j.part → length bs ≡ blocks_of j → length (flow j image (all_answers j bs)).sent ≡ 3 + block_count bs
flow-long j image bs a e = ap (λ (x : Flow). length x.sent) (undisturbed j image bs a e) ∙ all-long j image bs

pub undisturbed-dock : UndisturbedDock
unfolding result_at
undisturbed-dock j image room bs v r a e =
    let f = undisturbed j image bs a e in
    let c = dock-is-flow j image room (all_answers j bs) v r in
    record {
      frames = c.same_frames ∙ ap (λ (x : Flow). x.sent) f;
      result = c.same_results ∙ ap (λ (x : Flow). results_of x) f ∙ ap (λ (n : ℕ). result_at (Over (Ok tt)) n 0) (all-long j image bs);
    }
