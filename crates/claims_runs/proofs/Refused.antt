-- The proofs of `RefusedWork` and `RefusedChangesNothing`.
-- Assumes nothing.
use mathlib.Core.Bool.{Bool, false, false≢true, true}
use mathlib.Core.List.{List, [], ◌∷◌}
use mathlib.Core.Path.{◌∙◌, ◌≡◌, ap, refl, sym}
use Prim.Native.Nat.{ℕ}
use lib.ListN.{length}
use Rattle.chip.specs.Run.{onward}
use Rattle.chip.specs.Step.{Reaction, reaction}
use Rattle.chip_frame.specs.Does.{frame_does, silent}
use Rattle.chip_commands.specs.Commands.{command_does, reading_does, work}
use Rattle.chip_core.specs.Effect.{Effect, acknowledge, Memory, effect, told}
use Rattle.chip_core.specs.Hearing.{hearing}
use Rattle.chip_core.specs.declared.Awaited.{Awaited}
use Rattle.chip_core.specs.declared.Core.{Core}
use Rattle.chip_core.specs.declared.Done.{Done}
use Rattle.chip_core.specs.declared.Phase.{Phase}
use Rattle.chip_core.specs.declared.Phase.TheVariants.{Awaiting, ModeByte, Ready, Setup}
use Rattle.chip_options.specs.declared.Options.{Options}
use Rattle.chip_pages.proofs.Laws.{told-either}
use Rattle.chip_pages.specs.Pages.{bad_data, data_does, good_data, is_last_page, next_page, page_in, page_written, pair, program_page, ready, security_data, stored_reply, verify_page, verify_status}
use Rattle.chip_reply.specs.Reply.{frames_of, payloads}
use Rattle.chip_reply.specs.declared.Reply.{Reply}
use Rattle.chip_reply.specs.declared.Reply.TheVariants.{BadFrame, BadPage, LastStored, Pair, Rate, Security, Signature, Silence, Status, Sum}
use Rattle.chip_work.specs.Work.{blank_check, block_erase, checksum, programming, rate_set, security_release, verify}
use Rattle.claims_fed.specs.Fed.{does, does_in}
use Rattle.claims_good.proofs.Rooms.{Leaves, leaves, reaction_of, says-reaction, utterance_of}
use Rattle.claims_runs.proofs.Taken.{Went, frame_done, only_heard, quiet_core, went}
use Rattle.claims_runs.specs.Refused.{NothingChanged, RefusedChangesNothing, RefusedWork, SameRecord, phase_over, refuses, refusing, statuses_said}
use Rattle.claims_runs.specs.Taken.{taken_by}
use Rattle.commands.specs.declared.Command.{Command}
use Rattle.commands.specs.declared.Command.TheVariants.{BlankCheck, BlockErase, Checksum, Programming, RateSet, Reset, SecurityGet, SecurityRelease, SecuritySet, SignatureGet, Verify}
use Rattle.part.specs.declared.Range.{Range}
use Rattle.part.specs.declared.Place.{Place}
use Rattle.commands.specs.declared.Misread.TheVariants.{UnfitLen, Unknown}
use Rattle.commands.specs.declared.Misread.{Misread}
use Rattle.std.specs.Prelude.{Err, None, Ok, Option, Result, Some}
use Rattle.frame.specs.Frame.{framed, payload}
use Rattle.frame.specs.Judgement.{status_of}
use Rattle.lent.specs.Lent.{all_are, same}
use Rattle.part.specs.Part.{place_of}
use Rattle.part.specs.declared.Part.{Part}
use Rattle.words.proofs.Laws.{if-all}
use Rattle.words.specs.Words.{◌and◌, if◌then◌otherwise◌}

-- The statuses of a reply: those of a data frame's two, else the first.
statuses_of : Reply → List ℕ
statuses_of Silence = []
statuses_of (Status s) = s ∷ []
statuses_of (BadFrame j) = status_of j ∷ []
statuses_of (Rate mode) = 0x06 ∷ []
statuses_of (Pair s t) = s ∷ t ∷ []
statuses_of (BadPage j) = status_of j ∷ status_of j ∷ []
statuses_of LastStored = 0x06 ∷ 0x06 ∷ []
statuses_of (Sum n) = 0x06 ∷ []
statuses_of Signature = 0x06 ∷ []
statuses_of Security = 0x06 ∷ []

said-statuses : (p : Part) (o : Options) (r : Reply) → statuses_said (frames_of (payloads p o r)) ≡ statuses_of r
unfolding statuses_said payloads frames_of framed statuses_of if◌then◌otherwise◌
said-statuses p o Silence = refl
said-statuses p o (Status s) = refl
said-statuses p o (BadFrame j) = refl
said-statuses p o (Rate mode) = refl
said-statuses p o (Pair s t) = refl
said-statuses p o (BadPage j) = refl
said-statuses p o LastStored = refl
said-statuses p o (Sum n) = refl
said-statuses p o Signature = refl
said-statuses p o Security = refl

denies : Reply → Bool
denies r = refusing (statuses_of r)

refuses-denies : (p : Part) (x : Reaction) → refuses (utterance_of p x) ≡ denies x.does.reply
unfolding denies utterance_of
refuses-denies p x = ap refusing (said-statuses p x.does.core.options x.does.reply)

-- What a frame did is no refusal, or it left the record k and the memory m.
record Same (k : Core) (m : Memory) (x : Effect) : Type 0 where
  so : denies x.reply ≡ true → SameRecord k x.core m x.memory

stays : (k : Core) (m : Memory) (r : Reply) → Same k m (effect (told r k) m)
stays k m r = record { so = λ e. record { core = refl; memory = refl } }

-- What is answered 06h alone, or 06h 1Ch, is no refusal.
allows : {k : Core} {m : Memory} {x : Effect} → denies x.reply ≡ false → Same k m x
allows e = record { so = λ d. absurd (false≢true (sym e ∙ d)) }

module _ (p : Part) (k : Core) (m : Memory) where
  -- What is left of k and m after a refusal in a phase.
  record Over (f : Phase) (x : Effect) : Type 0 where
    memory : x.memory ≡ m
    options : x.core.options ≡ k.options
    rate : x.core.rate ≡ k.rate
    phase : x.core.phase ≡ phase_over f

  rate-set : (rate supply : ℕ) → Same k m (effect (rate_set p k rate supply) m)
  unfolding rate_set denies statuses_of refusing all_are same ◌and◌
  rate-set rate supply = if-all (λ d. Same k m (effect d m)) _ (λ t. stays k m _) (λ t. allows refl)

  erases : (x : Option Place) → Same k m (block_erase p k x m)
  unfolding block_erase denies statuses_of refusing all_are same ◌and◌
  erases None = stays k m _
  erases (Some place) = if-all (Same k m) _ (λ t. stays k m _) (λ t. if-all (Same k m) _ (λ u. stays k m _) (λ u. allows refl))

  checks : (r : Option Range) (d01 : ℕ) → Same k m (effect (blank_check p k r d01 m.flash) m)
  unfolding blank_check
  checks None d01 = stays k m _
  checks (Some range) d01 =
      if-all (λ d. Same k m (effect d m)) _ (λ t. stays k m _)
      (λ t. if-all (λ d. Same k m (effect d m)) _ (λ u. stays k m _) (λ u. if-all (λ d. Same k m (effect d m)) _ (λ v. stays k m _) (λ v. stays k m _)))

  programs : (r : Option Range) (start end : ℕ) → Same k m (effect (programming p k r start end) m)
  unfolding programming denies statuses_of refusing all_are same ◌and◌
  programs None start end = stays k m _
  programs (Some range) start end = if-all (λ d. Same k m (effect d m)) _ (λ t. stays k m _) (λ t. allows refl)

  verifies : (r : Option Range) (start end : ℕ) → Same k m (effect (verify k r start end) m)
  unfolding verify denies statuses_of refusing all_are same ◌and◌
  verifies None start end = stays k m _
  verifies (Some range) start end = allows refl

  sums : (r : Option Range) → Same k m (effect (checksum p k r m) m)
  unfolding checksum
  sums None = stays k m _
  sums (Some range) = if-all (λ d. Same k m (effect d m)) _ (λ t. stays k m _) (λ t. stays k m _)

  releases : Same k m (effect (security_release p k m.flash) m)
  unfolding security_release denies statuses_of refusing all_are same ◌and◌
  releases = if-all (λ d. Same k m (effect d m)) _ (λ t. stays k m _) (λ t. if-all (λ d. Same k m (effect d m)) _ (λ u. stays k m _) (λ u. allows refl))

  works : (c : Command) → Same k m (work c p k m)
  unfolding work denies statuses_of refusing all_are same ◌and◌
  works (RateSet rate supply) = rate-set rate supply
  works Reset = stays k m _
  works (BlockErase start) = erases _
  works (BlankCheck start end d01) = checks _ d01
  works (Programming start end) = programs _ start end
  works (Verify start end) = verifies _ start end
  works (Checksum start end) = sums _
  works SignatureGet = stays k m _
  works SecurityGet = stays k m _
  works SecuritySet = allows refl
  works SecurityRelease = releases

  reading-does : (r : Result Command Misread) → Same k m (reading_does r p k m)
  unfolding reading_does
  reading-does (Err Unknown) = stays k m _
  reading-does (Err UnfitLen) = stays k m _
  reading-does (Ok c) = works c

  command-does : (f : List ℕ) → Same k m (command_does p k f m)
  unfolding command_does
  command-does f = if-all (Same k m) _ (λ t. stays k m _) (λ t. if-all (Same k m) _ (λ u. stays k m _) (λ u. reading-does _))

  -- A data frame: its command is over.
  stored-allowed : (w : Awaited) → denies (stored_reply w) ≡ false
  unfolding stored_reply denies statuses_of refusing all_are same ◌and◌
  stored-allowed w = if-all (λ r. denies r ≡ false) _ (λ t. refl) (λ t. refl)

  compares : (w : Awaited) → Same (ready k) m (effect (pair acknowledge (verify_status w) (next_page w k)) m)
  unfolding verify_status next_page denies statuses_of refusing all_are same ◌and◌ if◌then◌otherwise◌
  compares w = go (is_last_page w) refl
    where
      go : (l : Bool) → is_last_page w ≡ l → Same (ready k) m (effect (pair acknowledge (verify_status w) (next_page w k)) m)
      go true e = rw e (stays (ready k) m _)
      go false e = rw e (allows refl)

  written : (w : Awaited) (at : Option Place) (ds : List ℕ) → Same (ready k) m (program_page p k w at ds m)
  unfolding program_page denies statuses_of refusing all_are same ◌and◌
  written w at ds =
      told-either (λ (d : Awaited → Core → Done). Same (ready k) m (effect (d w k) (page_written p at ds m))) (page_in at m.flash) ds (λ t. allows (stored-allowed w)) (λ t. allows refl)

  data-does : (w : Awaited) (f : List ℕ) → Same (ready k) m (data_does p k w f m)
  unfolding data_does good_data bad_data security_data verify_page denies statuses_of refusing all_are same ◌and◌
  data-does w f =
      if-all (Same (ready k) m) _ (λ t. if-all (λ d. Same (ready k) m (effect d m)) _ (λ u. stays (ready k) m _) (λ u. stays (ready k) m _))
      (λ t. if-all (Same (ready k) m) _
      (λ u. if-all (λ d. Same (ready k) m (effect d m)) _ (λ v. stays (ready k) m _)
      (λ v. if-all (λ d. Same (ready k) m (effect d m)) _ (λ w. stays (ready k) m _) (λ w. allows refl)))
      (λ u. if-all (Same (ready k) m) _
      (λ v. written w (place_of p w.next) (payload f))
      (λ v. compares _)))

  -- A frame in its phase.
  over : (f : Phase) (l : Core) (x : Effect) → l.options ≡ k.options → l.rate ≡ k.rate → l.phase ≡ phase_over f → SameRecord l x.core m x.memory
      → Over f x
  over f l x o r e s =
      record {
        memory = s.memory;
        options = ap (λ (c : Core). c.options) s.core ∙ o;
        rate = ap (λ (c : Core). c.rate) s.core ∙ r;
        phase = ap (λ (c : Core). c.phase) s.core ∙ e;
      }

  frame-does : (f : Phase) (g : List ℕ) → k.phase ≡ f → denies (frame_does (hearing f) p k g m).reply ≡ true → Over f (frame_does (hearing f) p k g m)
  unfolding frame_does hearing denies statuses_of refusing all_are ◌and◌
  frame-does ModeByte g e d = absurd (false≢true d)
  frame-does Setup g e d = over Setup k _ refl refl e ((command-does g).so d)
  frame-does Ready g e d = over Ready k _ refl refl e ((command-does g).so d)
  frame-does (Awaiting w) g e d = over (Awaiting w) (ready k) _ refl refl refl ((data-does w g).so d)

pub refused-work : RefusedWork
refused-work c p k m e = (works p k m c).so (sym (refuses-denies p (reaction [] (work c p k m))) ∙ e)

pub refused-changes-nothing : RefusedChangesNothing
unfolding denies statuses_of refusing all_are ◌and◌ does_in does
refused-changes-nothing p o v s e =
    let d : denies (reaction_of p o v).does.reply ≡ true = sym (ap refuses (says-reaction p o v s) ∙ refuses-denies p (reaction_of p o v)) ∙ e in
    go d (went p o v)
  where
    l : Leaves p o v
    l = leaves p o v s

    go : denies (reaction_of p o v).does.reply ≡ true
        → Went (taken_by o v) (λ f. does_in p f o.chip.core o.memory) (silent (quiet_core v o.chip.core) o.memory) (reaction_of p o v)
        → NothingChanged o (onward p o v)
    go d (only_heard t q) = absurd (false≢true (ap (λ (x : Effect). denies x.reply) (sym q) ∙ d))
    go d (frame_done f t q) =
        let x = frame-does p o.chip.core o.memory o.chip.core.phase f refl (ap (λ (r : Reaction). denies r.does.reply) (sym q) ∙ d) in
        record {
          memory = l.memory ∙ ap (λ (r : Reaction). r.does.memory) q ∙ x.memory;
          options = ap (λ (c : Core). c.options) l.core ∙ ap (λ (r : Reaction). r.does.core.options) q ∙ x.options;
          rate = ap (λ (c : Core). c.rate) l.core ∙ ap (λ (r : Reaction). r.does.core.rate) q ∙ x.rate;
          phase = ap (λ (c : Core). c.phase) l.core ∙ ap (λ (r : Reaction). r.does.core.phase) q ∙ x.phase;
          count = l.count ∙ ap (λ (r : Reaction). length r.hears) q;
        }
