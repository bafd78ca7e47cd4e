-- The proof of `Remembers`.
-- Assumes nothing.
use mathlib.Core.Bool.{Bool, false, false≢true, not, true}
use mathlib.Core.List.{List, [], ◌∷◌}
use mathlib.Core.Logic.{◌≢◌}
use mathlib.Core.Path.{◌∙◌, ◌≡◌, ap, refl, subst, sym}
use Prim.Native.Nat.{ℕ}
use native.Mathlib.Omega.{arith}
use lib.Dec.{eqb}
use borrow.Author.Tests.{eqb-true, not-false}
use Rattle.chip.specs.Step.{Outcome, Reaction}
use Rattle.chip_frame.specs.Does.{frame_does, mode_byte, silent}
use Rattle.chip.specs.declared.Event.{Event}
use Rattle.chip.specs.declared.Event.TheVariants.{Byte, Gap, PowerOn}
use Rattle.chip_commands.specs.Commands.{command_does, reading_does, work}
use Rattle.chip_core.specs.Effect.{Effect, Memory, entered}
use Rattle.chip_core.specs.Hearing.{hearing}
use Rattle.chip_core.specs.declared.Awaited.{Awaited}
use Rattle.chip_core.specs.declared.Core.{Core}
use Rattle.chip_core.specs.declared.Done.{Done}
use Rattle.chip_core.specs.declared.Hearing.{Hearing}
use Rattle.chip_core.specs.declared.Hearing.TheVariants.{HearsCommands, HearsData, HearsNothing}
use Rattle.chip_core.specs.declared.Phase.{Phase}
use Rattle.chip_core.specs.declared.Phase.TheVariants.{Awaiting, ModeByte, Ready, Setup}
use Rattle.chip_pages.proofs.Laws.{told-either}
use Rattle.chip_pages.specs.Pages.{bad_data, compared, data_does, good_data, next_page, page_after, page_in, program_page, security_data, verify_page}
use Rattle.chip_state.specs.Refusals.{good_awaited}
use Rattle.chip_work.specs.Work.{blank_check, block_erase, checksum, programming, rate_set, security_release, verify}
use Rattle.claims_fed.proofs.Frames.{no-frame}
use Rattle.claims_fed.specs.Awaits.{AwaitsCommand, awaits_in, good_for, in_ready, in_setup}
use Rattle.claims_fed.specs.Fed.{does, does_in}
use Rattle.claims_good.proofs.Awaited.{good-walk}
use Rattle.claims_good.proofs.Rooms.{leaves, reaction_of}
use Rattle.claims_runs.proofs.Taken.{Went, frame_done, only_heard, quiet_core, quiet_in, went}
use Rattle.claims_runs.specs.Taken.{taken_by}
use Rattle.claims_verify.proofs.Told.{good-awaited}
use Rattle.claims_verify.specs.Compared.{PageCompared}
use Rattle.claims_verify.specs.Remembers.{Remembered, Remembers}
use Rattle.commands.specs.Commands.{read_command}
use Rattle.commands.specs.declared.Command.{Command}
use Rattle.commands.specs.declared.Command.TheVariants.{BlankCheck, BlockErase, Checksum, Programming, RateSet, Reset, SecurityGet, SecurityRelease, SecuritySet, SignatureGet, Verify}
use Rattle.part.specs.declared.Range.{Range}
use Rattle.part.specs.declared.Place.{Place}
use Rattle.commands.specs.declared.Misread.TheVariants.{UnfitLen, Unknown}
use Rattle.commands.specs.declared.Misread.{Misread}
use Rattle.std.specs.Prelude.{Err, None, Ok, Option, Result, Some}
use Rattle.frame.specs.Frame.{payload}
use Rattle.lent.specs.Lent.{same}
use Rattle.part.specs.Part.{place_of}
use Rattle.part.specs.declared.Part.{Part}
use Rattle.words.proofs.Laws.{if-all, if-both, or_right}
use Rattle.words.specs.Words.{◌or◌, if◌then◌otherwise◌}

-- The phase after a command: the one before, ready, or data awaited without a difference.
data Begins (k : Core) (f : Phase) : Type 0 where
  stayed : f ≡ k.phase → Begins k f
  readied : f ≡ Ready → Begins k f
  began : (w : Awaited) → f ≡ Awaiting w → w.differed ≡ false → Begins k f

module _ (p : Part) (k : Core) (m : Memory) where
  abbrev Done-begins : Done → Type 0
  Done-begins d = Begins k d.core.phase

  abbrev Does-begin : Effect → Type 0
  Does-begin x = Begins k x.core.phase

  rate-set : (rate supply : ℕ) → Done-begins (rate_set p k rate supply)
  unfolding rate_set
  rate-set rate supply = if-both Done-begins _ (stayed refl) (readied refl)

  erases : (x : Option Place) → Does-begin (block_erase p k x m)
  unfolding block_erase
  erases None = stayed refl
  erases (Some place) = if-both Does-begin _ (stayed refl) (if-both Does-begin _ (stayed refl) (stayed refl))

  checks : (r : Option Range) (d01 : ℕ) → Done-begins (blank_check p k r d01 m.flash)
  unfolding blank_check
  checks None d01 = stayed refl
  checks (Some range) d01 = if-both Done-begins _ (stayed refl) (if-both Done-begins _ (stayed refl) (if-both Done-begins _ (stayed refl) (stayed refl)))

  programs : (r : Option Range) (start end : ℕ) → Done-begins (programming p k r start end)
  unfolding programming
  programs None start end = stayed refl
  programs (Some range) start end = if-both Done-begins _ (stayed refl) (began _ refl refl)

  verifies : (r : Option Range) (start end : ℕ) → Done-begins (verify k r start end)
  unfolding verify
  verifies None start end = stayed refl
  verifies (Some range) start end = began _ refl refl

  sums : (r : Option Range) → Done-begins (checksum p k r m)
  unfolding checksum
  sums None = stayed refl
  sums (Some range) = if-both Done-begins _ (stayed refl) (stayed refl)

  frees : Done-begins (security_release p k m.flash)
  unfolding security_release
  frees = if-both Done-begins _ (stayed refl) (if-both Done-begins _ (stayed refl) (stayed refl))

  works : (c : Command) → Does-begin (work c p k m)
  unfolding work
  works (RateSet rate supply) = rate-set rate supply
  works Reset = stayed refl
  works (BlockErase start) = erases _
  works (BlankCheck start end d01) = checks _ d01
  works (Programming start end) = programs _ start end
  works (Verify start end) = verifies _ start end
  works (Checksum start end) = sums _
  works SignatureGet = stayed refl
  works SecurityGet = stayed refl
  works SecuritySet = began _ refl refl
  works SecurityRelease = frees

  reading_begins : (r : Result Command Misread) → Does-begin (reading_does r p k m)
  unfolding reading_does
  reading_begins (Err Unknown) = stayed refl
  reading_begins (Err UnfitLen) = stayed refl
  reading_begins (Ok c) = works c

  command-begins : (f : List ℕ) → Does-begin (command_does p k f m)
  unfolding command_does
  command-begins f = if-both Does-begin _ (stayed refl) (if-both Does-begin _ (stayed refl) (reading_begins (read_command (payload f))))

-- The phase after a data frame: the command is over; or a page of 40h is stored, and what is remembered stays; or a page of 13h is compared.
data Continues (p : Part) (w : Awaited) (g : List ℕ) (m : Memory) (f : Phase) : Type 0 where
  over : f ≡ Ready → Continues p w g m f
  stores : w.command ≡ 0x40 → f ≡ Awaiting (page_after w) → Continues p w g m f
  compares : w.command ≡ 0x13 → good_for (awaits_in (Awaiting w)) g ≡ true
      → f ≡ Awaiting (page_after (compared w (same (page_in (place_of p w.next) m.flash) (payload g)))) → Continues p w g m f

pub other-command : (c : ℕ) → eqb c 0x40 or eqb c 0x13 ≡ true → eqb c 0x40 ≡ false → c ≡ 0x13
unfolding ◌or◌
other-command c e n = eqb-true c 0x13 (ap (λ (t : Bool). t or eqb c 0x13) (sym n) ∙ e)

module _ (p : Part) (k : Core) (w : Awaited) (g : List ℕ) (m : Memory) (good : good_awaited p w ≡ true) where
  abbrev Done-continues : Done → Type 0
  Done-continues d = Continues p w g m d.core.phase

  abbrev Does-continue : Effect → Type 0
  Does-continue x = Continues p w g m x.core.phase

  secures : Done-continues (security_data p k (payload g))
  unfolding security_data
  secures = if-both Done-continues _ (over refl) (if-both Done-continues _ (over refl) (over refl))

  next-page : (u : Awaited) → Continues p w g m (Awaiting (page_after u)) → Continues p w g m (next_page u k).phase
  unfolding next_page
  next-page u h = if-both (λ (c : Core). Continues p w g m c.phase) _ (over refl) h

  written : w.command ≡ 0x40 → (at : Option Place) (ds : List ℕ) → Does-continue (program_page p k w at ds m)
  unfolding program_page
  written c at ds =
      told-either (λ (d : Awaited → Core → Done). Done-continues (d w k)) (page_in at m.flash) ds (λ t. next-page w (stores c refl)) (λ t. over refl)

  data-continues : Does-continue (data_does p k w g m)
  unfolding data_does good_data bad_data verify_page good_for
  data-continues =
      if-all Does-continue _ (λ t. if-both Done-continues _ (over refl) (over refl))
      (λ t. if-all Does-continue _ (λ u. secures)
      (λ u. if-all Does-continue _ (λ x. written (eqb-true _ _ x) (place_of p w.next) (payload g))
      (λ x. next-page _ (compares (other-command w.command (good-walk p w good u).command x) (not-false _ t) refl))))

-- An event that completes no frame leaves data awaited as it was.
quiet-phase : (v : Event) (k : Core) (u : Awaited) → (quiet_core v k).phase ≡ Awaiting u → k.phase ≡ Awaiting u
unfolding quiet_core quiet_in mode_byte if◌then◌otherwise◌
quiet-phase (Byte b) k u e = go (hearing k.phase) e
  where
    mode : (t : Bool) → (if t then entered k Setup otherwise k).phase ≡ Awaiting u → k.phase ≡ Awaiting u
    mode true e = absurd (let z : ◌≡◌ {A = ℕ} 0 1 = cc in omega arith)
    mode false e = e

    go : (h : Hearing) → (quiet_in h b k).phase ≡ Awaiting u → k.phase ≡ Awaiting u
    go HearsNothing e = mode (eqb b 0x3A or eqb b 0x00) e
    go HearsCommands e = e
    go (HearsData w) e = e
quiet-phase Gap k u e = e
quiet-phase PowerOn k u e = absurd (let z : ◌≡◌ {A = ℕ} 0 1 = cc in omega arith)

pub same-awaited : {f : Phase} {w u : Awaited} → f ≡ Awaiting w → f ≡ Awaiting u → w ≡ u
same-awaited e g = cc

same-differed : {w u : Awaited} → w ≡ u → w.differed ≡ u.differed
same-differed e = ap (λ (x : Awaited). x.differed) e

-- What `compared` remembers, of an equal page or another (s), and what was remembered (d).
was-other : (s d : Bool) → d ≡ false → not s or d ≡ true → s ≡ false
unfolding ◌or◌
was-other true d e r = absurd (false≢true (sym e ∙ r))
was-other false d e r = refl

is-other : (s d : Bool) → s ≡ false → not s or d ≡ true
unfolding ◌or◌
is-other s d e = rw e

one-frame : {ts : List (List ℕ)} {f g : List ℕ} → ts ≡ f ∷ [] → ts ≡ g ∷ [] → f ≡ g
one-frame e h = cc

none-awaited : {f g : Phase} {w : Awaited} → f ≡ g → AwaitsCommand g → f ≡ Awaiting w → ⊥
none-awaited e in_setup h = let z : ◌≡◌ {A = ℕ} 0 1 = cc in omega arith
none-awaited e in_ready h = let z : ◌≡◌ {A = ℕ} 0 1 = cc in omega arith

no-40h : (c : ℕ) → c ≡ 0x40 → c ≡ 0x13 → ⊥
no-40h c e f = omega arith

module _ (p : Part) (o : Outcome) (v : Event) (u : Awaited) where
  -- No frame was completed, and the same record is awaited.
  unchanged : taken_by o v ≡ [] → o.chip.core.phase ≡ Awaiting u → Remembered p o v u
  unchanged t e =
      record {
        begins = λ n. absurd (n u e);
        stays = λ w f d. same-differed (same-awaited e f) ∙ d;
        arises = λ w f d r. absurd (false≢true (sym d ∙ same-differed (same-awaited f e) ∙ r));
        notes = λ w x. absurd (no-frame x.frame [] (sym t ∙ x.taken));
      }

  -- No data was awaited, and now it is.
  begun : ((w : Awaited) → o.chip.core.phase ≢ Awaiting w) → u.differed ≡ false → Remembered p o v u
  begun n d = record { begins = λ h. d; stays = λ w f e. absurd (n w f); arises = λ w f e r. absurd (n w f); notes = λ w x. absurd (n w x.phase) }

  differs : {w : Awaited} (g : List ℕ) → taken_by o v ≡ g ∷ [] → PageCompared p o v w false → same (page_in (place_of p w.next) o.memory.flash) (payload g) ≡ false
  differs {w} g t x =
      let r : g ≡ x.frame = one-frame t x.taken in
      ap (λ (f : List ℕ). same (page_in (place_of p w.next) o.memory.flash) (payload f)) r ∙ x.result

  -- A page was stored or compared, and the next one is awaited.
  continued : (w : Awaited) (g : List ℕ) → o.chip.core.phase ≡ Awaiting w → taken_by o v ≡ g ∷ [] → Continues p w g o.memory (Awaiting u) → Remembered p o v u
  unfolding compared
  continued w g f t (over e) = absurd (let z : ◌≡◌ {A = ℕ} 0 1 = cc in omega arith)
  continued w g f t (stores c e) =
      let q : u.differed ≡ w.differed = same-differed (same-awaited refl e) in
      record {
        begins = λ n. absurd (n w f);
        stays = λ w' f' d. q ∙ same-differed (same-awaited f f') ∙ d;
        arises = λ w' f' d r. absurd (false≢true (sym d ∙ same-differed (same-awaited f' f) ∙ sym q ∙ r));
        notes = λ w' x. absurd (no-40h w.command c (ap (λ (y : Awaited). y.command) (same-awaited f x.phase) ∙ x.command));
      }
  continued w g f t (compares c h e) =
      let s : Bool = same (page_in (place_of p w.next) o.memory.flash) (payload g) in
      let q : u.differed ≡ not s or w.differed = same-differed (same-awaited refl e) in
      record {
        begins = λ n. absurd (n w f);
        stays = λ w' f' d. q ∙ or_right (not s) (same-differed (same-awaited f f') ∙ d);
        arises = λ w' f' d r. subst (λ (y : Awaited). PageCompared p o v y false) (same-awaited f f')
            (record { frame = g; phase = f; command = c; taken = t; good = h; result = was-other s w.differed (same-differed (same-awaited f f') ∙ d) (sym q ∙ r) });
        notes = λ w' x. q ∙ is-other s w.differed (differs g t (subst (λ (y : Awaited). PageCompared p o v y false) (same-awaited x.phase f) x));
      }

pub remembers : Remembers
unfolding does_in does frame_does hearing
remembers p o v u s e = go (went p o v)
  where
    k : Core
    k = o.chip.core

    after : (reaction_of p o v).does.core.phase ≡ Awaiting u
    after = ap (λ (c : Core). c.phase) (sym (leaves p o v s).core) ∙ e

    command : (f : List ℕ) → ((w : Awaited) → k.phase ≢ Awaiting w) → Begins k (Awaiting u) → Remembered p o v u
    command f n (stayed x) = absurd (n u (sym x))
    command f n (readied x) = absurd (let z : ◌≡◌ {A = ℕ} 0 1 = cc in omega arith)
    command f n (began w x d) = begun p o v u n (same-differed (same-awaited refl x) ∙ d)

    frame : (g : List ℕ) → taken_by o v ≡ g ∷ [] → (f : Phase) → k.phase ≡ f → (frame_does (hearing f) p k g o.memory).core.phase ≡ Awaiting u → Remembered p o v u
    frame g t ModeByte x y = absurd (let z : ◌≡◌ {A = ℕ} 0 1 = cc in omega arith)
    frame g t Setup x y = command g (λ w z. none-awaited x in_setup z) (subst (Begins k) y (command-begins p k o.memory g))
    frame g t Ready x y = command g (λ w z. none-awaited x in_ready z) (subst (Begins k) y (command-begins p k o.memory g))
    frame g t (Awaiting w) x y = continued p o v u w g x t (subst (Continues p w g o.memory) y (data-continues p k w g o.memory (good-awaited p o w s x)))

    go : Went (taken_by o v) (λ f. does_in p f k o.memory) (silent (quiet_core v k) o.memory) (reaction_of p o v) → Remembered p o v u
    go (only_heard t x) = unchanged p o v u t (quiet-phase v k u (sym (ap (λ (y : Effect). y.core.phase) x) ∙ after))
    go (frame_done g t x) = frame g t k.phase refl (sym (ap (λ (r : Reaction). r.does.core.phase) x) ∙ after)
