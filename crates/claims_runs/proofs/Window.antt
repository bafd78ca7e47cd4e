-- The proof of `WindowRestrictsNothing`.
-- Assumes nothing.
use mathlib.Core.Bool.{Bool, false, false≢true, not, true, true≢false}
use mathlib.Core.List.{List, [], ◌∷◌}
use mathlib.Core.Path.{◌∙◌, ◌≡◌, ap, refl, sym}
use Prim.Native.Nat.{ℕ}
use lib.Dec.{eqb}
use lib.ListN.{get_or, length}
use borrow.Author.Tests.{eqb-true, not-false}
use Rattle.chip.specs.Run.{onward, run, spoken_in}
use Rattle.chip.specs.Step.{Outcome, Reaction, byte_in, heard_byte, react_to, reaction}
use Rattle.chip_frame.specs.Does.{frame_does, mode_byte, silent}
use Rattle.part.specs.declared.Range.{Range}
use Rattle.part.specs.declared.Place.{Place}
use Rattle.commands.specs.declared.Misread.TheVariants.{UnfitLen, Unknown}
use Rattle.commands.specs.declared.Misread.{Misread}
use Rattle.std.specs.Prelude.{Err, None, Ok, Option, Result, Some}
use Rattle.chip.specs.declared.Event.{Event}
use Rattle.chip.specs.declared.Event.TheVariants.{Byte, Gap, PowerOn}
use Rattle.chip_commands.specs.Commands.{allowed_in, command_does, reading_does, work}
use Rattle.chip_core.specs.Effect.{Effect, Memory, acknowledge, effect, not_blank, says, told}
use Rattle.chip_core.specs.Hearing.{hearing}
use Rattle.chip_core.specs.declared.Awaited.{Awaited}
use Rattle.chip_core.specs.declared.Core.{Core}
use Rattle.chip_core.specs.declared.Done.{Done}
use Rattle.chip_core.specs.declared.Hearing.{Hearing}
use Rattle.chip_core.specs.declared.Hearing.TheVariants.{HearsCommands, HearsData, HearsNothing}
use Rattle.chip_core.specs.declared.Phase.{Phase}
use Rattle.chip_core.specs.declared.Phase.TheVariants.{Awaiting, ModeByte, Ready, Setup}
use Rattle.chip_options.specs.Options.{is_fresh, released}
use Rattle.chip_options.specs.declared.Options.{Options}
use Rattle.chip_pages.proofs.Laws.{told-either}
use Rattle.chip_pages.specs.Pages.{bad_data, data_does, good_data, next_page, page_in, page_written, program_page, security_data, stored_reply, verify_page}
use Rattle.chip_reply.specs.Reply.{fault_in, frames_of, payloads, sent_as}
use Rattle.chip_reply.specs.declared.Reply.{Reply}
use Rattle.chip_reply.specs.declared.Reply.TheVariants.{BadFrame, BadPage, LastStored, Pair, Rate, Security, Signature, Silence, Status, Sum}
use Rattle.chip_work.specs.Work.{blank_check, block_erase, checksum, programming, rate_set, security_release, verify}
use Rattle.claims_frame.specs.Collecting.{collects_on, take-up}
use Rattle.claims_good.proofs.Rooms.{leaves, reaction_of, says-reaction, utterance_of}
use Rattle.claims_good.proofs.Stays.{stays}
use Rattle.claims_good.specs.Good.{Stands, Utterance, and_event, uttered}
use Rattle.claims_runs.proofs.Taken.{quiet_core, quiet_in}
use Rattle.claims_runs.specs.Taken.{taken_as, taken_by, taken_in}
use Rattle.claims_runs.specs.Window.{LooksAtWindow, OtherWindow, SaysSame, WindowRestrictsNothing, asks_fresh, looking, last_said, reports, same_said, with_window}
use Rattle.commands.proofs.Laws.{com-read}
use Rattle.commands.specs.Commands.{com_of, read_command}
use Rattle.commands.specs.declared.Command as Commands
use Rattle.commands.specs.declared.Command.TheVariants.{BlankCheck, BlockErase, Checksum, Programming, RateSet, Reset, SecurityGet, SecurityRelease, SecuritySet, SignatureGet, Verify}
use Rattle.frame.specs.Collector.{hear, heard}
use Rattle.frame.specs.Frame.{complete, payload}
use Rattle.frame.specs.declared.Header.TheVariants.{Command, Data}
use Rattle.part.specs.Part.{place_of}
use Rattle.part.specs.declared.Part.{Part}
use Rattle.words.proofs.Laws.{if-all}
use Rattle.words.specs.Words.{◌and◌, if◌then◌otherwise◌}

-- A claim about two choices by one test.
pub if-two : {A B : Type 0} (P : A → B → Type 0) (t : Bool) {a c : A} {b d : B} → (t ≡ true → P a b) → (t ≡ false → P c d)
    → P (if t then a otherwise c) (if t then b otherwise d)
unfolding if◌then◌otherwise◌
if-two P true f g = f refl
if-two P false f g = g refl

-- Whether a frame looks at the window, by its payload.
data Looks (f : List ℕ) : Type 0 where
  at_report : read_command (payload f) ≡ Ok SecurityGet → Looks f
  at_fresh : (start end : ℕ) → read_command (payload f) ≡ Ok (BlankCheck start end 0x01) → Looks f

-- The same is said, or the window is looked at.
data Told (L : Type 0) {A : Type 0} (a b : A) : Type 0 where
  alike : b ≡ a → Told L a b
  looks : L → Told L a b

-- What a reply says.
spoken : Part → Options → Reply → Utterance
spoken p o r = let rs = payloads p o r in record { answer = Ok (sent_as (length (frames_of rs)) (length rs)); fault = fault_in r; bytes = frames_of rs }

-- What a frame did to two records that differ in the window: x and y.
record Beside (p : Part) (L : Type 0) (x y : Effect) : Type 0 where
  start : ℕ
  end : ℕ
  core : y.core ≡ with_window start end x.core
  memory : y.memory ≡ x.memory
  tells : Told L (spoken p x.core.options x.reply) (spoken p y.core.options y.reply)

-- Only one reply is about the options.
reads : Reply → Bool
reads Silence = false
reads (Status s) = false
reads (BadFrame j) = false
reads (Rate mode) = false
reads (Pair s t) = false
reads (BadPage j) = false
reads LastStored = false
reads (Sum n) = false
reads Signature = false
reads Security = true

same-told : (p : Part) (o n : Options) (r : Reply) → reads r ≡ false → spoken p n r ≡ spoken p o r
unfolding spoken payloads reads
same-told p o n Silence e = refl
same-told p o n (Status s) e = refl
same-told p o n (BadFrame j) e = refl
same-told p o n (Rate mode) e = refl
same-told p o n (Pair s t) e = refl
same-told p o n (BadPage j) e = refl
same-told p o n LastStored e = refl
same-told p o n (Sum n') e = refl
same-told p o n Signature e = refl
same-told p o n Security e = absurd (true≢false e)

module _ (p : Part) (L : Type 0) (f : List ℕ) (k : Core) (m : Memory) (s e : ℕ) where
  -- The same reply, the same record but for the window, the same memory.
  so : (l : Core) (r : Reply) (n : Memory) → reads r ≡ false → Beside p L (effect (told r l) n) (effect (told r (with_window s e l)) n)
  so l r n q = record { start = s; end = e; core = refl; memory = refl; tells = alike (same-told p _ _ r q) }

  -- The same record, whatever the window was.
  anew : (l : Core) (r : Reply) → reads r ≡ false → Beside p L (effect (told r l) m) (effect (told r l) m)
  anew l r q = record { start = l.options.start; end = l.options.end; core = refl; memory = refl; tells = alike refl }

  rate-set : (rate supply : ℕ) → Beside p L (effect (rate_set p k rate supply) m) (effect (rate_set p (with_window s e k) rate supply) m)
  unfolding rate_set reads
  rate-set rate supply = if-two (λ x y. Beside p L (effect x m) (effect y m)) _ (λ t. so k _ m refl) (λ t. so _ _ m refl)

  erases : (x : Option Place) → Beside p L (block_erase p k x m) (block_erase p (with_window s e k) x m)
  unfolding block_erase reads
  erases None = so k _ m refl
  erases (Some place) =
      if-two (Beside p L) _ (λ t. so k _ m refl) (λ t. if-two (Beside p L) _ (λ u. so k _ m refl) (λ u. so k _ _ refl))

  -- Two statuses, each by a test of its own: the frame looks.
  either : (t u : Bool) → L
      → Beside p L (effect (if t then says not_blank k otherwise says acknowledge k) m)
      (effect (if u then says not_blank (with_window s e k) otherwise says acknowledge (with_window s e k)) m)
  unfolding if◌then◌otherwise◌
  either true true l = record { start = s; end = e; core = refl; memory = refl; tells = looks l }
  either true false l = record { start = s; end = e; core = refl; memory = refl; tells = looks l }
  either false true l = record { start = s; end = e; core = refl; memory = refl; tells = looks l }
  either false false l = record { start = s; end = e; core = refl; memory = refl; tells = looks l }

  fresh : (Looks f → L) → (start end d01 : ℕ) → read_command (payload f) ≡ Ok (BlankCheck start end d01) → (t : Bool) → eqb d01 0x01 ≡ t
      → Beside p L (effect (if t and not (is_fresh p k.options) then says not_blank k otherwise says acknowledge k) m)
      (effect (if t and not (is_fresh p (with_window s e k).options) then says not_blank (with_window s e k) otherwise says acknowledge (with_window s e k)) m)
  unfolding ◌and◌ if◌then◌otherwise◌ reads
  fresh look start end d01 c true q =
      either (not (is_fresh p k.options)) (not (is_fresh p (with_window s e k).options))
      (look (at_fresh start end (c ∙ ap (λ (d : ℕ). Ok (BlankCheck start end d)) (eqb-true _ _ q))))
  fresh look start end d01 c false q = so k _ m refl

  checks : (Looks f → L) → (start end : ℕ) (r : Option Range) (d01 : ℕ) → read_command (payload f) ≡ Ok (BlankCheck start end d01)
      → Beside p L (effect (blank_check p k r d01 m.flash) m) (effect (blank_check p (with_window s e k) r d01 m.flash) m)
  unfolding blank_check reads
  checks look start end None d01 c = so k _ m refl
  checks look start end (Some range) d01 c =
      if-two (λ x y. Beside p L (effect x m) (effect y m)) _ (λ t. so k _ m refl)
      (λ t. if-two (λ x y. Beside p L (effect x m) (effect y m)) _ (λ u. so k _ m refl) (λ u. fresh look start end d01 c (eqb d01 0x01) refl))

  programs : (r : Option Range) (start end : ℕ) → Beside p L (effect (programming p k r start end) m) (effect (programming p (with_window s e k) r start end) m)
  unfolding programming reads
  programs None start end = so k _ m refl
  programs (Some range) start end = if-two (λ x y. Beside p L (effect x m) (effect y m)) _ (λ t. so k _ m refl) (λ t. so _ _ m refl)

  verifies : (r : Option Range) (start end : ℕ) → Beside p L (effect (verify k r start end) m) (effect (verify (with_window s e k) r start end) m)
  unfolding verify reads
  verifies None start end = so k _ m refl
  verifies (Some range) start end = so _ _ m refl

  sums : (r : Option Range) → Beside p L (effect (checksum p k r m) m) (effect (checksum p (with_window s e k) r m) m)
  unfolding checksum reads
  sums None = so k _ m refl
  sums (Some range) = if-two (λ x y. Beside p L (effect x m) (effect y m)) _ (λ t. so k _ m refl) (λ t. so k _ m refl)

  releases : Beside p L (effect (security_release p k m.flash) m) (effect (security_release p (with_window s e k) m.flash) m)
  unfolding security_release reads released
  releases =
      if-two (λ x y. Beside p L (effect x m) (effect y m)) _ (λ t. so k _ m refl)
      (λ t. if-two (λ x y. Beside p L (effect x m) (effect y m)) _ (λ u. so k _ m refl) (λ u. anew _ _ refl))

  works : (Looks f → L) → (c : Commands.Command) → read_command (payload f) ≡ Ok c → Beside p L (work c p k m) (work c p (with_window s e k) m)
  unfolding work reads
  works look (RateSet rate supply) r = rate-set rate supply
  works look Reset r = so k _ m refl
  works look (BlockErase start) r = erases _
  works look (BlankCheck start end d01) r = checks look start end _ d01 r
  works look (Programming start end) r = programs _ start end
  works look (Verify start end) r = verifies _ start end
  works look (Checksum start end) r = sums _
  works look SignatureGet r = so k _ m refl
  works look SecurityGet r = record { start = s; end = e; core = refl; memory = refl; tells = looks (look (at_report r)) }
  works look SecuritySet r = so _ _ m refl
  works look SecurityRelease r = releases

  reading-does : (Looks f → L) → (r : Result Commands.Command Misread) → read_command (payload f) ≡ r → Beside p L (reading_does r p k m) (reading_does r p (with_window s e k) m)
  unfolding reading_does reads
  reading-does look (Err Unknown) r = so k _ m refl
  reading-does look (Err UnfitLen) r = so k _ m refl
  reading-does look (Ok c) r = works look c r

  -- Of a data frame.
  next-page : (w : Awaited) (r : Reply) (n : Memory) → reads r ≡ false → Beside p L (effect (told r (next_page w k)) n) (effect (told r (next_page w (with_window s e k))) n)
  unfolding next_page
  next-page w r n q = if-two (λ x y. Beside p L (effect (told r x) n) (effect (told r y) n)) _ (λ t. so _ r n q) (λ t. so _ r n q)

  stored-plain : (w : Awaited) → reads (stored_reply w) ≡ false
  unfolding stored_reply reads
  stored-plain w = if-all (λ r. reads r ≡ false) _ (λ t. refl) (λ t. refl)

  written : (w : Awaited) (at : Option Place) (ds : List ℕ) → Beside p L (program_page p k w at ds m) (program_page p (with_window s e k) w at ds m)
  unfolding program_page reads
  written w at ds =
      told-either (λ (d : Awaited → Core → Done). Beside p L (effect (d w k) (page_written p at ds m)) (effect (d w (with_window s e k)) (page_written p at ds m)))
      (page_in at m.flash) ds (λ t. next-page w _ _ (stored-plain w)) (λ t. so _ _ _ refl)

  data-does : (w : Awaited) → Beside p L (data_does p k w f m) (data_does p (with_window s e k) w f m)
  unfolding data_does good_data bad_data security_data verify_page reads
  data-does w =
      if-two (Beside p L) _ (λ t. if-two (λ x y. Beside p L (effect x m) (effect y m)) _ (λ u. so _ _ m refl) (λ u. so _ _ m refl))
      (λ t. if-two (Beside p L) _
      (λ u. if-two (λ x y. Beside p L (effect x m) (effect y m)) _ (λ v. so _ _ m refl)
      (λ v. if-two (λ x y. Beside p L (effect x m) (effect y m)) _ (λ x. so _ _ m refl) (λ x. anew _ _ refl)))
      (λ u. if-two (Beside p L) _
      (λ v. written w (place_of p w.next) (payload f))
      (λ v. next-page _ _ m refl)))

-- Every command but 9Ah is allowed in phase 3 alone.
pub only-ready : (c : ℕ) → eqb c 0x9A ≡ false → (ph : Phase) → allowed_in ph c ≡ true → ph ≡ Ready
unfolding allowed_in
only-ready c n ModeByte t = absurd (false≢true t)
only-ready c n Setup t = absurd (false≢true (sym n ∙ t))
only-ready c n Ready t = refl
only-ready c n (Awaiting w) t = absurd (false≢true t)

-- So are both of these.
record Opens (f : List ℕ) (k : Core) : Type 0 where
  ready : k.phase ≡ Ready
  at-window : Looks f

allowed : (f : List ℕ) (ph : Phase) → allowed_in ph (get_or (payload f) 0 0) ≡ true → Looks f → ph ≡ Ready
unfolding com_of
allowed f ph t (at_report r) = only-ready _ (ap (λ (c : ℕ). eqb c 0x9A) (com-read (payload f) _ r)) ph t
allowed f ph t (at_fresh start end r) = only-ready _ (ap (λ (c : ℕ). eqb c 0x9A) (com-read (payload f) _ r)) ph t

command-does : (p : Part) (f : List ℕ) (k : Core) (m : Memory) (s e : ℕ) → Beside p (Opens f k) (command_does p k f m) (command_does p (with_window s e k) f m)
unfolding command_does reads
command-does p f k m s e =
    if-two (Beside p (Opens f k)) _ (λ t. so p _ f k m s e k _ m refl)
    (λ t. if-two (Beside p (Opens f k)) _ (λ u. so p _ f k m s e k _ m refl)
    (λ u. reading-does p _ f k m s e (λ l. record { ready = allowed f k.phase (not-false _ u) l; at-window = l }) _ refl))

-- An event that completes no frame.
quiet-beside : (v : Event) (k : Core) (s e : ℕ) → quiet_core v (with_window s e k) ≡ with_window s e (quiet_core v k)
unfolding quiet_core quiet_in mode_byte
quiet-beside (Byte b) k s e = go (hearing k.phase)
  where
    go : (h : Hearing) → quiet_in h b (with_window s e k) ≡ with_window s e (quiet_in h b k)
    go HearsNothing = if-two (λ x y. y ≡ with_window s e x) _ (λ t. refl) (λ t. refl)
    go HearsCommands = refl
    go (HearsData w) = refl
quiet-beside Gap k s e = refl
quiet-beside PowerOn k s e = refl

-- The frame that is taken looks at the window.
record Looking (ts : List (List ℕ)) (k : Core) : Type 0 where
  frame : List ℕ
  is : ts ≡ frame ∷ []
  opens : Opens frame k

-- The two reactions to an event.
record Both (L : Type 0) (p : Part) (x y : Reaction) : Type 0 where
  hears : y.hears ≡ x.hears
  start : ℕ
  end : ℕ
  core : y.does.core ≡ with_window start end x.does.core
  memory : y.does.memory ≡ x.does.memory
  tells : Told L (spoken p x.does.core.options x.does.reply) (spoken p y.does.core.options y.does.reply)

quiet-both : (L : Type 0) (p : Part) (hs : List ℕ) (k l : Core) (m : Memory) (s e : ℕ) → l ≡ with_window s e k
    → Both L p (reaction hs (silent k m)) (reaction hs (silent l m))
unfolding spoken payloads
quiet-both L p hs k l m s e q = record { hears = refl; start = s; end = e; core = q; memory = refl; tells = alike refl }

taken-whole : (hs : List ℕ) → complete hs ≡ true → (take-up hs).taken ≡ hs ∷ []
unfolding take-up if◌then◌otherwise◌
taken-whole hs e = rw e

heard-both : (p : Part) (L K : Type 0) (k : Core) (m : Memory) (s e : ℕ) (hs : List ℕ) (x y : Effect) → (complete hs ≡ true → L → K) → Beside p L x y
    → Both K p (heard_byte hs x k m) (heard_byte hs y (with_window s e k) m)
unfolding heard_byte
heard-both p L K k m s e hs x y at b =
    if-two (Both K p) (complete hs)
    (λ t. record { hears = refl; start = b.start; end = b.end; core = b.core; memory = b.memory; tells = go (at t) b.tells }) (λ t. quiet-both _ p hs k _ m s e refl)
  where
    go : (L → K) → {s t : Utterance} → Told L s t → Told K s t
    go at (alike q) = alike q
    go at (looks l) = looks (at l)

byte-both : (h : Hearing) (p : Part) (k : Core) (hs : List ℕ) (b : ℕ) (m : Memory) (s e : ℕ) → quiet_in h b (with_window s e k) ≡ with_window s e (quiet_in h b k)
    → Both (Looking (taken_in h hs (Byte b)) k) p (byte_in h p k hs b m) (byte_in h p (with_window s e k) hs b m)
unfolding byte_in taken_in taken_as collects_on quiet_in frame_does
byte-both HearsNothing p k hs b m s e q = quiet-both _ p hs _ _ m s e q
byte-both HearsCommands p k hs b m s e q =
    heard-both p _ _ k m s e (hear Command hs b) _ _ (λ t l. record { frame = hear Command hs b; is = taken-whole (hear Command hs b) t; opens = l })
    (command-does p (hear Command hs b) k m s e)
byte-both (HearsData w) p k hs b m s e q = heard-both p ⊥ _ k m s e (hear Data hs b) _ _ (λ t l. absurd l) (data-does p ⊥ (hear Data hs b) k m s e w)

react-both : (v : Event) (p : Part) (k : Core) (hs : List ℕ) (m : Memory) (s e : ℕ)
    → Both (Looking (taken_in (hearing k.phase) hs v) k) p (react_to v p k hs m) (react_to v p (with_window s e k) hs m)
unfolding react_to quiet_core
react-both (Byte b) p k hs m s e = byte-both (hearing k.phase) p k hs b m s e (quiet-beside (Byte b) k s e)
react-both Gap p k hs m s e = quiet-both _ p [] _ _ m s e refl
react-both PowerOn p k hs m s e = quiet-both _ p [] _ _ m s e refl

-- One event.
record OneEvent (p : Part) (o u : Outcome) (v : Event) : Type 0 where
  next : OtherWindow (onward p o v) (onward p u v)
  says : Told (LooksAtWindow o v) (uttered (spoken_in (onward p o v))) (uttered (spoken_in (onward p u v)))

one-event : (p : Part) (o u : Outcome) (v : Event) → Stands p o → Stands p u → OtherWindow o u → OneEvent p o u v
unfolding reaction_of utterance_of spoken
one-event p o u v so su w =
    let a = leaves p o v so in
    let c = leaves p u v su in
    record {
      next =
          record {
            start = b.start;
            end = b.end;
            core = c.core ∙ b.core ∙ ap (with_window b.start b.end) (sym a.core);
            count = c.count ∙ ap length b.hears ∙ sym a.count;
            hears = c.hears ∙ b.hears ∙ sym a.hears;
            memory = c.memory ∙ b.memory ∙ sym a.memory;
          };
      says = go b.tells;
    }
  where
    x : Reaction
    x = reaction_of p o v

    y : Reaction
    y = reaction_of p u v

    b : Both (Looking (taken_by o v) o.chip.core) p x y
    b = rw (w.core, w.hears, w.memory) (react-both v p o.chip.core (heard o.chip.collector) o.memory w.start w.end)

    go : Told (Looking (taken_by o v) o.chip.core) (spoken p x.does.core.options x.does.reply) (spoken p y.does.core.options y.does.reply)
        → Told (LooksAtWindow o v) (uttered (spoken_in (onward p o v))) (uttered (spoken_in (onward p u v)))
    go (alike q) = alike (says-reaction p u v su ∙ q ∙ sym (says-reaction p o v so))
    go (looks l) = looks (at l.opens.at-window)
      where
        at : Looks l.frame → LooksAtWindow o v
        at (at_report r) = reports l.frame l.opens.ready l.is r
        at (at_fresh start end r) = asks_fresh l.frame start end l.opens.ready l.is r

pub window-restricts-nothing : WindowRestrictsNothing
unfolding run
window-restricts-nothing p [] o u so su q w = record { says = last_said; after = w }
window-restricts-nothing p (v ∷ vs) o u so su (and_event h q) w =
    let e = one-event p o u v so su w in
    let r = window-restricts-nothing p vs (onward p o v) (onward p u v) (stays p o v so h) (stays p u v su h) q e.next in
    record { says = go e.says r.says; after = r.after }
  where
    go : Told (LooksAtWindow o v) (uttered (spoken_in (onward p o v))) (uttered (spoken_in (onward p u v))) → SaysSame p vs (onward p o v) (onward p u v)
        → SaysSame p (v ∷ vs) o u
    go (alike t) r = same_said t r
    go (looks l) r = looking l r
