-- The proofs of `OptionsChange`, `OptionsStay` and `FlagsStay`.
-- Assumes nothing.
use mathlib.Core.Bool.{Bool, false, false≢true, true, true≢false}
use mathlib.Core.List.{List, [], ◌∷◌, append-nil}
use mathlib.Core.Path.{◌∙◌, ◌≡◌, ap, refl, sym}
use Prim.Native.Nat.{ℕ}
use lib.Dec.{eqb}
use lib.ListN.{get_or}
use borrow.Author.Tests.{eqb-true, not-false}
use Rattle.chip.specs.Run.{onward, run}
use Rattle.chip.specs.Step.{Reaction, reaction}
use Rattle.chip_frame.specs.Does.{frame_does, mode_byte, silent}
use Rattle.chip.specs.declared.Event.{Event}
use Rattle.chip.specs.declared.Event.TheVariants.{Byte, Gap, PowerOn}
use Rattle.chip_commands.specs.Commands.{allowed_in, command_does, reading_does, work}
use Rattle.chip_core.specs.Effect.{Effect, Memory, effect, says, told}
use Rattle.chip_core.specs.Hearing.{hearing}
use Rattle.chip_core.specs.declared.Awaited.{Awaited}
use Rattle.chip_core.specs.declared.Core.{Core}
use Rattle.chip_core.specs.declared.Done.{Done}
use Rattle.chip_core.specs.declared.Hearing.{Hearing}
use Rattle.chip_core.specs.declared.Hearing.TheVariants.{HearsCommands, HearsData, HearsNothing}
use Rattle.chip_core.specs.declared.Phase.{Phase}
use Rattle.chip_core.specs.declared.Phase.TheVariants.{Awaiting, ModeByte, Ready, Setup}
use Rattle.chip_options.specs.Options.{options_in, raises, released, rises}
use Rattle.chip_options.specs.declared.Options.{Options}
use Rattle.chip_pages.proofs.Laws.{told-either}
use Rattle.chip_pages.specs.Pages.{bad_data, data_does, good_data, next_page, page_in, page_written, program_page, security_data, verify_page}
use Rattle.chip_reply.specs.Reply.{fault_in, frames_of, payloads}
use Rattle.chip_reply.specs.declared.Reply.{Reply}
use Rattle.chip_reply.specs.declared.Reply.TheVariants.{Status}
use Rattle.chip_work.specs.Work.{blank_check, block_erase, checksum, programming, rate_set, security_release, verify}
use Rattle.claims_fed.specs.Fed.{does, does_in, says_frame}
use Rattle.claims_good.proofs.Rooms.{Leaves, leaves, reaction_of, says-reaction, utterance_of}
use Rattle.claims_good.proofs.Stays.{stays}
use Rattle.claims_good.specs.Good.{Utterance, and_event}
use Rattle.claims_runs.proofs.Taken.{Went, frame_done, only_heard, quiet_core, quiet_in, went}
use Rattle.claims_runs.specs.Options.{Acknowledged, FlagsStay, OptionsAfter, OptionsChange, OptionsStay, not_here, by_data, by_release, kept, options_of, set}
use Rattle.claims_runs.specs.Taken.{taken_by}
use Rattle.commands.proofs.Laws.{com-read}
use Rattle.commands.specs.Commands.{com_of, read_command}
use Rattle.commands.specs.declared.Command.{Command}
use Rattle.commands.specs.declared.Command.TheVariants.{BlankCheck, BlockErase, Checksum, Programming, RateSet, Reset, SecurityGet, SecurityRelease, SecuritySet, SignatureGet, Verify}
use Rattle.part.specs.declared.Range.{Range}
use Rattle.part.specs.declared.Place.{Place}
use Rattle.commands.specs.declared.Misread.TheVariants.{UnfitLen, Unknown}
use Rattle.commands.specs.declared.Misread.{Misread}
use Rattle.std.specs.Prelude.{Err, None, Ok, Option, Result, Some}
use Rattle.frame.specs.Frame.{payload}
use Rattle.part.specs.Part.{place_of}
use Rattle.part.specs.declared.Part.{Part}
use Rattle.words.proofs.Laws.{if-all}
use Rattle.words.specs.Words.{◌and◌, ◌or◌}

-- The frame f did x in a phase, from the record k: the options stay, or it is one of the two.
data Sets (p : Part) (k : Core) (ph : Phase) (f : List ℕ) (x : Effect) : Type 0 where
  leaves-them : x.core.options ≡ k.options → Sets p k ph f x
  stores : (w : Awaited) → ph ≡ Awaiting w → w.command ≡ 0xA0 → x.reply ≡ Status 0x06 → x.core.options ≡ options_in (payload f)
      → raises p k.options.flags x.core.options.flags ≡ false → Sets p k ph f x
  releases-them : ph ≡ Ready → read_command (payload f) ≡ Ok SecurityRelease → x.reply ≡ Status 0x06 → x.core.options ≡ released p k.options → Sets p k ph f x

module _ (p : Part) (k : Core) (m : Memory) (f : List ℕ) where
  -- Of a command: ph is the phase that allows it.
  rate-set : (ph : Phase) (rate supply : ℕ) → Sets p k ph f (effect (rate_set p k rate supply) m)
  unfolding rate_set
  rate-set ph rate supply = if-all (λ d. Sets p k ph f (effect d m)) _ (λ t. leaves-them refl) (λ t. leaves-them refl)

  erases : (ph : Phase) (x : Option Place) → Sets p k ph f (block_erase p k x m)
  unfolding block_erase
  erases ph None = leaves-them refl
  erases ph (Some place) =
      if-all (Sets p k ph f) _ (λ t. leaves-them refl) (λ t. if-all (Sets p k ph f) _ (λ u. leaves-them refl) (λ u. leaves-them refl))

  checks : (ph : Phase) (r : Option Range) (d01 : ℕ) → Sets p k ph f (effect (blank_check p k r d01 m.flash) m)
  unfolding blank_check
  checks ph None d01 = leaves-them refl
  checks ph (Some range) d01 =
      if-all (λ d. Sets p k ph f (effect d m)) _ (λ t. leaves-them refl)
      (λ t. if-all (λ d. Sets p k ph f (effect d m)) _ (λ u. leaves-them refl)
      (λ u. if-all (λ d. Sets p k ph f (effect d m)) _ (λ v. leaves-them refl) (λ v. leaves-them refl)))

  programs : (ph : Phase) (r : Option Range) (start end : ℕ) → Sets p k ph f (effect (programming p k r start end) m)
  unfolding programming
  programs ph None start end = leaves-them refl
  programs ph (Some range) start end = if-all (λ d. Sets p k ph f (effect d m)) _ (λ t. leaves-them refl) (λ t. leaves-them refl)

  verifies : (ph : Phase) (r : Option Range) (start end : ℕ) → Sets p k ph f (effect (verify k r start end) m)
  unfolding verify
  verifies ph None start end = leaves-them refl
  verifies ph (Some range) start end = leaves-them refl

  sums : (ph : Phase) (r : Option Range) → Sets p k ph f (effect (checksum p k r m) m)
  unfolding checksum
  sums ph None = leaves-them refl
  sums ph (Some range) = if-all (λ d. Sets p k ph f (effect d m)) _ (λ t. leaves-them refl) (λ t. leaves-them refl)

  frees : (ph : Phase) → ph ≡ Ready → read_command (payload f) ≡ Ok SecurityRelease → Sets p k ph f (effect (security_release p k m.flash) m)
  unfolding security_release
  frees ph e r =
      if-all (λ d. Sets p k ph f (effect d m)) _ (λ t. leaves-them refl)
      (λ t. if-all (λ d. Sets p k ph f (effect d m)) _ (λ u. leaves-them refl) (λ u. releases-them e r refl refl))

  works : (ph : Phase) (c : Command) → read_command (payload f) ≡ Ok c → (c ≡ SecurityRelease → ph ≡ Ready) → Sets p k ph f (work c p k m)
  unfolding work
  works ph (RateSet rate supply) r e = rate-set ph rate supply
  works ph Reset r e = leaves-them refl
  works ph (BlockErase start) r e = erases ph _
  works ph (BlankCheck start end d01) r e = checks ph _ d01
  works ph (Programming start end) r e = programs ph _ start end
  works ph (Verify start end) r e = verifies ph _ start end
  works ph (Checksum start end) r e = sums ph _
  works ph SignatureGet r e = leaves-them refl
  works ph SecurityGet r e = leaves-them refl
  works ph SecuritySet r e = leaves-them refl
  works ph SecurityRelease r e = frees ph (e refl) r

  reading-does : (ph : Phase) (r : Result Command Misread) → read_command (payload f) ≡ r → (r ≡ Ok SecurityRelease → ph ≡ Ready) → Sets p k ph f (reading_does r p k m)
  unfolding reading_does
  reading-does ph (Err Unknown) r e = leaves-them refl
  reading-does ph (Err UnfitLen) r e = leaves-them refl
  reading-does ph (Ok c) r e = works ph c r (λ q. e (ap (λ (c : Command). Ok c) q))

  -- A2h is allowed in phase 3 alone.
  allowed : (ph : Phase) → allowed_in ph (get_or (payload f) 0 0) ≡ true → read_command (payload f) ≡ Ok SecurityRelease → ph ≡ Ready
  unfolding allowed_in com_of
  allowed ModeByte t r = absurd (false≢true t)
  allowed Setup t r = absurd (false≢true (ap (λ (c : ℕ). eqb c 0x9A) (sym (com-read (payload f) SecurityRelease r)) ∙ t))
  allowed Ready t r = refl
  allowed (Awaiting w) t r = absurd (false≢true t)

  command-does : (ph : Phase) → k.phase ≡ ph → Sets p k ph f (command_does p k f m)
  unfolding command_does
  command-does ph e =
      if-all (Sets p k ph f) _ (λ t. leaves-them refl)
      (λ t. if-all (Sets p k ph f) _ (λ u. leaves-them refl)
      (λ u. reading-does ph (read_command (payload f)) refl (λ r. allowed ph (ap (λ (g : Phase). allowed_in g (get_or (payload f) 0 0)) (sym e) ∙ not-false _ u) r)))

  -- Of a data frame.
  goes_on : (w : Awaited) → (next_page w k).options ≡ k.options
  unfolding next_page
  goes_on w = if-all (λ (c : Core). c.options ≡ k.options) _ (λ t. refl) (λ t. refl)

  secures : (w : Awaited) → w.command ≡ 0xA0 → Sets p k (Awaiting w) f (effect (security_data p k (payload f)) m)
  unfolding security_data
  secures w e =
      if-all (λ d. Sets p k (Awaiting w) f (effect d m)) _ (λ t. leaves-them refl)
      (λ t. if-all (λ d. Sets p k (Awaiting w) f (effect d m)) _ (λ u. leaves-them refl) (λ u. stores w refl e refl refl u))

  data-does : (w : Awaited) → Sets p k (Awaiting w) f (data_does p k w f m)
  unfolding data_does good_data bad_data program_page verify_page
  data-does w =
      if-all (Sets p k (Awaiting w) f) _ (λ t. if-all (λ d. Sets p k (Awaiting w) f (effect d m)) _ (λ u. leaves-them refl) (λ u. leaves-them refl))
      (λ t. if-all (Sets p k (Awaiting w) f) _ (λ u. secures w (eqb-true _ _ u))
      (λ u. if-all (Sets p k (Awaiting w) f) _
      (λ v.
      told-either (λ (d : Awaited → Core → Done). Sets p k (Awaiting w) f (effect (d w k) (page_written p (place_of p w.next) (payload f) m)))
      (page_in (place_of p w.next) m.flash) (payload f) (λ x. leaves-them (goes_on w)) (λ x. leaves-them refl))
      (λ v. leaves-them (goes_on _))))

  frame-does : (ph : Phase) → k.phase ≡ ph → Sets p k ph f (frame_does (hearing ph) p k f m)
  unfolding frame_does hearing
  frame-does ModeByte e = leaves-them refl
  frame-does Setup e = command-does Setup e
  frame-does Ready e = command-does Ready e
  frame-does (Awaiting w) e = data-does w

quiet-options : (v : Event) (k : Core) → (quiet_core v k).options ≡ k.options
unfolding quiet_core quiet_in mode_byte
quiet-options (Byte b) k = go (hearing k.phase)
  where
    go : (h : Hearing) → (quiet_in h b k).options ≡ k.options
    go HearsNothing = if-all (λ (c : Core). c.options ≡ k.options) _ (λ t. refl) (λ t. refl)
    go HearsCommands = refl
    go (HearsData w) = refl
quiet-options Gap k = refl
quiet-options PowerOn k = refl

status-says : (p : Part) (x : Reaction) (s : ℕ) → x.does.reply ≡ Status s → utterance_of p x ≡ says_frame (s ∷ [])
unfolding utterance_of fault_in payloads frames_of
status-says p x s e = ap spoken e ∙ one
  where
    spoken : Reply → Utterance
    spoken r = utterance_of p (reaction [] (effect (told r x.does.core) x.does.memory))

    one : spoken (Status s) ≡ says_frame (s ∷ [])
    one = rw append-nil

pub options-change : OptionsChange
unfolding does_in does
options-change p o v s = go (went p o v)
  where
    k : Core
    k = o.chip.core

    l : Leaves p o v
    l = leaves p o v s

    after : {n : Options} → (reaction_of p o v).does.core.options ≡ n → options_of (onward p o v) ≡ n
    after e = ap (λ (c : Core). c.options) l.core ∙ e

    told : (f : List ℕ) → taken_by o v ≡ f ∷ [] → (reaction_of p o v).does.reply ≡ Status 0x06 → Acknowledged p o v f
    told f t e = record { frame = t; says = says-reaction p o v s ∙ status-says p (reaction_of p o v) 0x06 e }

    frame : (f : List ℕ) → taken_by o v ≡ f ∷ [] → Sets p k k.phase f (reaction_of p o v).does → OptionsAfter p o v
    frame f t (leaves-them e) = kept (after e)
    frame f t (stores w h c r e u) = set (by_data w f h c (told f t r) (after e) (ap (λ (n : Options). raises p k.options.flags n.flags) (after refl) ∙ u))
    frame f t (releases-them h c r e) = set (by_release (record { frame = f; phase = h; command = c; answered = told f t r }) (after e))

    go : Went (taken_by o v) (λ f. does_in p f k o.memory) (silent (quiet_core v k) o.memory) (reaction_of p o v) → OptionsAfter p o v
    go (only_heard t q) = kept (after (ap (λ (x : Effect). x.core.options) q ∙ quiet-options v k))
    go (frame_done f t q) = frame f t (rw (ap (λ (r : Reaction). r.does) q) (frame-does p k o.memory f k.phase refl))

pub options-stay : OptionsStay
unfolding run
options-stay p o [] s q n = refl
options-stay p o (v ∷ vs) s (and_event h q) (not_here n r) = options-stay p (onward p o v) vs (stays p o v s h) q r ∙ go (options-change p o v s)
  where
    go : OptionsAfter p o v → options_of (onward p o v) ≡ options_of o
    go (kept e) = e
    go (set e) = absurd (n e)

-- What rises in two steps rises in one of them.
neither : (a b : Bool) → a or b ≡ false → (a ≡ false) × (b ≡ false)
unfolding ◌or◌
neither true b e = absurd (true≢false e)
neither false b e = (refl, e)

both_false : {a b : Bool} → a ≡ false → b ≡ false → a or b ≡ false
unfolding ◌or◌
both_false e f = rw (e, f)

rises-on : (a b c : Bool) → rises a b ≡ false → rises b c ≡ false → rises a c ≡ false
unfolding rises ◌and◌
rises-on true b c e f = refl
rises-on false true c e f = absurd (true≢false e)
rises-on false false c e f = f

rises-none : (a : Bool) → rises a a ≡ false
unfolding rises ◌and◌
rises-none true = refl
rises-none false = refl

raises-none : (p : Part) (x : ℕ) → raises p x x ≡ false
unfolding raises
raises-none p x = both_false (rises-none _) (both_false (rises-none _) (rises-none _))

raises-on : (p : Part) (x y z : ℕ) → raises p x y ≡ false → raises p y z ≡ false → raises p x z ≡ false
unfolding raises
raises-on p x y z e f =
    let a = neither _ _ e in
    let b = neither _ _ f in
    let c = neither _ _ a.1 in
    let d = neither _ _ b.1 in
    both_false (rises-on _ _ _ a.0 b.0) (both_false (rises-on _ _ _ c.0 d.0) (rises-on _ _ _ c.1 d.1))

pub flags-stay : FlagsStay
unfolding run
flags-stay p o [] s q n = raises-none p _
flags-stay p o (v ∷ vs) s (and_event h q) (not_here n r) =
    raises-on p (options_of o).flags (options_of (onward p o v)).flags _ (go (options-change p o v s)) (flags-stay p (onward p o v) vs (stays p o v s h) q r)
  where
    go : OptionsAfter p o v → raises p (options_of o).flags (options_of (onward p o v)).flags ≡ false
    go (kept e) = ap (λ (x : Options). raises p (options_of o).flags x.flags) e ∙ raises-none p (options_of o).flags
    go (set (by_data w f e c a x u)) = u
    go (set (by_release e x)) = absurd (n e)
