-- The proof of `JobConfined`.
-- Assumes nothing.
use mathlib.Core.Bool.{false, true, true≢false}
use mathlib.Core.List.{List, [], ◌∷◌}
use mathlib.Core.Logic.{◌≢◌}
use mathlib.Core.Path.{◌∙◌, ◌≡◌, ap, refl}
use Prim.Native.Nat.{◌%◌, ◌+◌, ◌-◌, ◌≤◌, ◌<◌, ℕ}
use native.Mathlib.Omega.{arith}
use lib.ListN.{get_or, length, length-replicate, replicate}
use borrow.Author.Tests.{eqb-true, ne_eqb, not-false}
use Rattle.chip.specs.Run.{onward, run}
use Rattle.chip.specs.Step.{Outcome, Reaction}
use Rattle.chip_frame.specs.Does.{frame_does, mode_byte, silent}
use Rattle.chip.specs.declared.Event.{Event}
use Rattle.chip.specs.declared.Event.TheVariants.{Byte, Gap, PowerOn}
use Rattle.chip_commands.specs.Commands.{command_does, reading_does, work}
use Rattle.chip_core.specs.Effect.{Effect, Memory, bytes_in, effect, told}
use Rattle.chip_core.specs.Hearing.{hearing}
use Rattle.chip_core.specs.declared.Awaited.{Awaited}
use Rattle.chip_core.specs.declared.Core.{Core}
use Rattle.chip_core.specs.declared.Done.{Done}
use Rattle.chip_core.specs.declared.Hearing.{Hearing}
use Rattle.chip_core.specs.declared.Hearing.TheVariants.{HearsCommands, HearsData, HearsNothing}
use Rattle.chip_core.specs.declared.Phase.{Phase}
use Rattle.chip_core.specs.declared.Phase.TheVariants.{Awaiting, ModeByte, Ready, Setup}
use Rattle.chip_flash.specs.Flash.{erase_of, erased, programmed}
use Rattle.chip_pages.proofs.Laws.{page-short, told-either}
use Rattle.chip_pages.specs.Pages.{bad_data, compared, data_does, good_data, next_page, page_in, page_stored, page_written, program_page, verify_page}
use Rattle.chip_reply.specs.declared.Reply.{Reply}
use Rattle.chip_state.specs.Refusals.{good_awaited, good_phase, good_state}
use Rattle.chip_state.proofs.Laws.{accepts}
use Rattle.chip_work.specs.Work.{blank_check, block_erase, erased_in, programming, rate_set, verify}
use Rattle.claims_confined.proofs.Outside.{block_inside, put-outside}
use Rattle.claims_confined.specs.Confined.{Confined, JobCommand, JobConfined, OutsideSame, Within, and_one, at_mode, at_pages, at_ready, at_setup}
use Rattle.claims_dock.proofs.Written.{framed-read, short}
use Rattle.claims_fed.specs.Awaits.{AwaitsCommand, a_command, good_for, in_ready, in_setup}
use Rattle.claims_fed.specs.Fed.{does, does_in}
use Rattle.claims_good.proofs.Awaited.{good-walk}
use Rattle.claims_good.proofs.Core.{core_is}
use Rattle.chip_sums.proofs.Laws.{resummed-flash}
use Rattle.claims_good.proofs.Rooms.{leaves, reaction_of}
use Rattle.claims_good.proofs.Stays.{stays}
use Rattle.claims_good.specs.Good.{Stands, and_event}
use Rattle.claims_runs.proofs.Taken.{Went, frame_done, only_heard, quiet_core, quiet_in, went}
use Rattle.claims_runs.specs.Taken.{taken_by}
use Rattle.commands.specs.Commands.{read_command}
use Rattle.part.specs.declared.Range.{Range}
use Rattle.part.specs.declared.Place.{Place}
use Rattle.std.specs.Prelude.{None, Ok, Option, Some}
use Rattle.dock_flow.specs.Frames.{first_of_block, frame_of, last_of_block, query_at, query_with}
use Rattle.dock_job.proofs.Laws.{block-is, place_is}
use Rattle.dock_job.specs.Job.{area_of, blocks_of, is_over, size_of}
use Rattle.dock_job.specs.Refusals.{good_stage}
use Rattle.dock_job.specs.declared.Job.{Job}
use Rattle.dock_job.specs.declared.Setup.TheVariants.{BaudRate, ResetChip, SiliconSignature}
use Rattle.dock_job.specs.declared.Stage.{Stage}
use Rattle.dock_job.specs.declared.Stage.TheVariants.{InBlock, Over, SetUp}
use Rattle.dock_job.specs.declared.Work.TheVariants.{Blank, Erase, Program, ProgramPage, VerifyBlock, VerifyPage}
use Rattle.frame.specs.Frame.{payload}
use Rattle.part.proofs.Laws.{block-page, lies-place, place-lies}
use Rattle.part.specs.Part.{described, first, page_size, place_in, place_of}
use Rattle.part.specs.declared.Part.{Part}
use Rattle.words.proofs.Laws.{and_right, if-all}

-- What a frame did, from the record k and the memory m, stays with the job.
record Keeps (j : Job) (k : Core) (m : Memory) (x : Effect) : Type 0 where
  outside : OutsideSame j m.flash x.memory.flash
  options : x.core.options ≡ k.options
  within : Within j x.core.phase

module _ (j : Job) (k : Core) (m : Memory) (d : described j.part ≡ true) (now : Within j k.phase) where
  p : Part
  p = j.part

  -- Flash stays, and the record but for the phase.
  moved : (l : Core) (r : Reply) → l.options ≡ k.options → Within j l.phase → Keeps j k m (effect (told r l) m)
  moved l r e w = record { outside = λ a i o. refl; options = e; within = w }

  as-was : (r : Reply) → Keeps j k m (effect (told r k) m)
  as-was r = moved k r refl now

  rate-set : (rate supply : ℕ) → Keeps j k m (effect (rate_set p k rate supply) m)
  unfolding rate_set
  rate-set rate supply = if-all (λ x. Keeps j k m (effect x m)) _ (λ t. as-was _) (λ t. moved _ _ refl at_ready)

  checks : (r : Option Range) (d01 : ℕ) → Keeps j k m (effect (blank_check p k r d01 m.flash) m)
  unfolding blank_check
  checks None d01 = as-was _
  checks (Some range) d01 =
      if-all (λ x. Keeps j k m (effect x m)) _ (λ t. as-was _)
      (λ t. if-all (λ x. Keeps j k m (effect x m)) _ (λ u. as-was _) (λ u. if-all (λ x. Keeps j k m (effect x m)) _ (λ v. as-was _) (λ v. as-was _)))

  -- A block of the job.
  module _ (b : ℕ) (h : b < blocks_of j) where
    erases : Keeps j k m (block_erase p k (place_of p (first_of_block j b)) m)
    unfolding block_erase erased_in erase_of place_in p
    erases =
        let i = block_inside j b h in
        let n : length (replicate (size_of j) erased) ≡ size_of j = length-replicate {A = ℕ} (size_of j) erased in
        rw (lies-place p (area_of j) (first_of_block j b) d i.lies)
        (if-all (Keeps j k m) _ (λ t. as-was _)
        (λ t. if-all (Keeps j k m) _ (λ u. as-was _)
        (λ u. record {
          outside = rw (resummed-flash p) (put-outside j (area_of j) (first_of_block j b) (first_of_block j b - first (area_of j)) (replicate (size_of j) erased) m.flash
              (omega (arith, i.lies.low)) i.begins (omega (arith, n, i.ends, i.long)));
          options = refl;
          within = now;
        })))

    programs : (r : Option Range) → Keeps j k m (effect (programming p k r (first_of_block j b) (last_of_block j b)) m)
    unfolding programming
    programs None = as-was _
    programs (Some range) =
        let i = block_inside j b h in
        if-all (λ x. Keeps j k m (effect x m)) _ (λ t. as-was _) (λ t. moved _ _ refl (at_pages _ (λ e. omega arith) i.begins i.ends))

    verifies : (r : Option Range) → Keeps j k m (effect (verify k r (first_of_block j b) (last_of_block j b)) m)
    unfolding verify
    verifies None = as-was _
    verifies (Some range) = let i = block_inside j b h in moved _ _ refl (at_pages _ (λ e. omega arith) i.begins i.ends)

  works : (st : Stage) → good_stage j st ≡ true → is_over st ≡ false → Keeps j k m (work (query_at j st).command p k m)
  unfolding work query_with is_over
  works (SetUp BaudRate) g o = rate-set _ _
  works (SetUp ResetChip) g o = as-was _
  works (SetUp SiliconSignature) g o = as-was _
  works (InBlock b Blank) g o = checks _ _
  works (InBlock b Erase) g o = erases b (block-is j b (place_is j b Erase g).in-job)
  works (InBlock b Program) g o = programs b (block-is j b (place_is j b Program g).in-job) _
  works (InBlock b (ProgramPage i)) g o = programs b (block-is j b (place_is j b (ProgramPage i) g).in-job) _
  works (InBlock b VerifyBlock) g o = verifies b (block-is j b (place_is j b VerifyBlock g).in-job) _
  works (InBlock b (VerifyPage i)) g o = verifies b (block-is j b (place_is j b (VerifyPage i) g).in-job) _
  works (Over e) g o = absurd (true≢false o)

  -- The frame of a command of the job is read as that command.
  job_read : (st : Stage) → good_stage j st ≡ true → is_over st ≡ false → read_command (payload (frame_of (query_at j st).command)) ≡ Ok (query_at j st).command
  unfolding query_with is_over
  job_read (SetUp BaudRate) g o = framed-read _ (omega arith) (omega arith)
  job_read (SetUp ResetChip) g o = framed-read _ (omega arith) (omega arith)
  job_read (SetUp SiliconSignature) g o = framed-read _ (omega arith) (omega arith)
  job_read (InBlock b Blank) g o = let s = short j b d (block-is j b (place_is j b Blank g).in-job) in framed-read _ s.starts s.ends
  job_read (InBlock b Erase) g o = let s = short j b d (block-is j b (place_is j b Erase g).in-job) in framed-read _ s.starts (omega arith)
  job_read (InBlock b Program) g o = let s = short j b d (block-is j b (place_is j b Program g).in-job) in framed-read _ s.starts s.ends
  job_read (InBlock b (ProgramPage i)) g o = let s = short j b d (block-is j b (place_is j b (ProgramPage i) g).in-job) in framed-read _ s.starts s.ends
  job_read (InBlock b VerifyBlock) g o = let s = short j b d (block-is j b (place_is j b VerifyBlock g).in-job) in framed-read _ s.starts s.ends
  job_read (InBlock b (VerifyPage i)) g o = let s = short j b d (block-is j b (place_is j b (VerifyPage i) g).in-job) in framed-read _ s.starts s.ends
  job_read (Over e) g o = absurd (true≢false o)

  reading-does : (f : List ℕ) → JobCommand j f → Keeps j k m (reading_does (read_command (payload f)) p k m)
  unfolding reading_does
  reading-does f c =
      let e : read_command (payload f) ≡ Ok (query_at j c.stage).command = ap (λ (g : List ℕ). read_command (payload g)) c.is ∙ job_read c.stage c.good c.going in
      rw e (works c.stage c.good c.going)

  command-does : (f : List ℕ) → (good_for a_command f ≡ true → JobCommand j f) → Keeps j k m (command_does p k f m)
  unfolding command_does good_for
  command-does f ok = if-all (Keeps j k m) _ (λ t. as-was _) (λ t. if-all (Keeps j k m) _ (λ u. as-was _) (λ u. reading-does f (ok (not-false _ t))))

  -- A data frame, while pages of the job are awaited.
  goes_on : (w : Awaited) → w.command ≢ 0xA0 → j.start ≤ w.next → w.last ≤ j.end → Within j (next_page w k).phase
  unfolding next_page
  goes_on w other low high = if-all (λ (c : Core). Within j c.phase) _ (λ t. at_ready) (λ t. at_pages _ other (omega arith) high)

  same-options : (w : Awaited) → (next_page w k).options ≡ k.options
  unfolding next_page
  same-options w = if-all (λ (c : Core). c.options ≡ k.options) _ (λ t. refl) (λ t. refl)

  module _ (w : Awaited) (awaited : good_awaited p w ≡ true) (other : w.command ≢ 0xA0) (low : j.start ≤ w.next) (high : w.last ≤ j.end) where
    page-ends : w.next + 256 ≤ w.last + 1
    page-ends =
        let t = good-walk p w awaited (ne_eqb w.command 0xA0 other) in
        let g = t.walk in
        let e : (w.last - first t.area + 1) % page_size ≡ 0 = block-page p t.area (w.last - first t.area + 1) g.end in
        omega (arith, e, g.page, g.order, g.here.low, g.there.low)

    stored : (x : Option Place) → place_of p w.next ≡ x → (ds : List ℕ) → length ds ≤ 256 → OutsideSame j m.flash (page_stored x ds m.flash)
    unfolding page_stored
    stored None e ds l = λ a i o. refl
    stored (Some place) e ds l = put-outside j place.area w.next place.offset ds m.flash (place-lies p w.next place.area place.offset place.block place.page e).is low (omega (arith, page-ends))

    written : (x : Option Place) → place_of p w.next ≡ x → (ds : List ℕ) → Keeps j k m (program_page p k w x ds m)
    unfolding program_page page_written
    written x e ds =
        told-either (λ (d : Awaited → Core → Done). Keeps j k m (effect (d w k) (page_written p x ds m))) (page_in x m.flash) ds
        (λ t. record { outside = kept; options = same-options w; within = goes_on w other low high }) (λ t. record { outside = kept; options = refl; within = at_ready })
      where
        kept : OutsideSame j m.flash (page_written p x ds m).flash
        kept = rw (resummed-flash p) (stored x e (programmed (page_in x m.flash) ds) (page-short x ds m.flash))

    data-does : (f : List ℕ) → Keeps j k m (data_does p k w f m)
    unfolding data_does good_data bad_data verify_page compared
    data-does f =
        if-all (Keeps j k m) _ (λ t. if-all (λ x. Keeps j k m (effect x m)) _ (λ u. moved _ _ refl at_ready) (λ u. moved _ _ refl at_ready))
        (λ t. if-all (Keeps j k m) _ (λ u. absurd (other (eqb-true _ _ u)))
        (λ u. if-all (Keeps j k m) _
        (λ v. written _ refl (payload f))
        (λ v. moved _ _ (same-options _) (goes_on _ other low high))))

  -- A frame in its phase.
  frame-does : (f : Phase) → k.phase ≡ f → good_phase p f ≡ true → (g : List ℕ) → (AwaitsCommand f → good_for a_command g ≡ true → JobCommand j g)
      → Keeps j k m (frame_does (hearing f) p k g m)
  unfolding frame_does hearing good_phase
  frame-does ModeByte e h g ok = as-was _
  frame-does Setup e h g ok = command-does g (ok in_setup)
  frame-does Ready e h g ok = command-does g (ok in_ready)
  frame-does (Awaiting w) e h g ok = go (rw e at now)
    where
      go : Within j (Awaiting w) → Keeps j k m (data_does p k w g m)
      go (at_pages x n l u) = data-does w h n l u g

-- An event that completes no frame.
record Quiet (j : Job) (k l : Core) : Type 0 where
  options : l.options ≡ k.options
  within : Within j l.phase

quiet : (j : Job) (v : Event) (k : Core) → Within j k.phase → Quiet j k (quiet_core v k)
unfolding quiet_core quiet_in mode_byte
quiet j (Byte b) k w = go (hearing k.phase)
  where
    go : (h : Hearing) → Quiet j k (quiet_in h b k)
    go HearsNothing = if-all (Quiet j k) _ (λ t. record { options = refl; within = at_setup }) (λ t. record { options = refl; within = w })
    go HearsCommands = record { options = refl; within = w }
    go (HearsData x) = record { options = refl; within = w }
quiet j Gap k w = record { options = refl; within = w }
quiet j PowerOn k w = record { options = refl; within = at_mode }

module _ (j : Job) (o : Outcome) (v : Event) (s : Stands j.part o) (w : Within j o.chip.core.phase)
    (ok : (f : List ℕ) → taken_by o v ≡ f ∷ [] → AwaitsCommand o.chip.core.phase → good_for a_command f ≡ true → JobCommand j f) where
  kept : (x : Effect) → (reaction_of j.part o v).does ≡ x → Keeps j o.chip.core o.memory x → Confined j o (onward j.part o v)
  kept x e h =
      let l = leaves j.part o v s in
      record {
        outside = λ a i out. ap (λ (n : Memory). get_or (bytes_in a n.flash) i 0) (l.memory ∙ ap (λ (y : Effect). y.memory) e) ∙ h.outside a i out;
        options = ap (λ (c : Core). c.options) (l.core ∙ ap (λ (y : Effect). y.core) e) ∙ h.options;
        within = rw (l.core ∙ ap (λ (y : Effect). y.core) e) h.within;
      }

  pub one-event : Confined j o (onward j.part o v)
  unfolding does_in does good_state p
  one-event = go (went j.part o v)
    where
      k : Core
      k = o.chip.core

      go : Went (taken_by o v) (λ f. does_in j.part f k o.memory) (silent (quiet_core v k) o.memory) (reaction_of j.part o v) → Confined j o (onward j.part o v)
      go (only_heard t q) = let c = quiet j v k w in kept _ q (record { outside = λ a i out. refl; options = c.options; within = c.within })
      go (frame_done f t q) =
          let a = accepts s.accepted in
          kept _ (ap (λ (r : Reaction). r.does) q)
          (frame-does j k o.memory a.part w k.phase refl (core_is j.part k (and_right _ _ a.state)).phase f (ok f t))

pub job-confined : JobConfined
unfolding run
job-confined j o [] s q w c = record { outside = λ a i out. refl; options = refl; within = w }
job-confined j o (v ∷ vs) s (and_event h q) w (and_one ok c) =
    let e = one-event j o v s w ok in
    let r = job-confined j (onward j.part o v) vs (stays j.part o v s h) q e.within c in
    record { outside = λ a i out. r.outside a i out ∙ e.outside a i out; options = r.options ∙ e.options; within = r.within }
