-- The chip beside the chip under other rules: one walk through what calls the rules, for every request that replaces some of them. Then the proof of `OwnRules`.
-- Assumes nothing.
use mathlib.Core.Bool.{false, true}
use mathlib.Core.List.{List, [], ◌∷◌}
use mathlib.Core.Path.{◌∙◌, ◌≡◌, ap, refl}
use Prim.Native.Nat.{ℕ}
use lib.Dec.{eqb}
use lib.ListN.{get_or}
use borrow.Author.Tests.{not-false}
use Rattle.chip.specs.Step.{Reaction, byte_in, heard_byte, react_to, reaction, step_of}
use Rattle.chip_frame.specs.Does.{frame_does, silent}
use Rattle.chip.specs.declared.Event.{Event}
use Rattle.chip.specs.declared.Event.TheVariants.{Byte, Gap, PowerOn}
use Rattle.chip_commands.specs.Commands.{allowed_in, command_does, reading_does, work}
use Rattle.chip_core.specs.Effect.{Effect, Flash, Memory, effect, told}
use Rattle.chip_core.specs.Hearing.{hearing}
use Rattle.chip_core.specs.declared.Awaited.{Awaited}
use Rattle.chip_core.specs.declared.Core.{Core}
use Rattle.chip_core.specs.declared.Done.{Done}
use Rattle.chip_core.specs.declared.Hearing.{Hearing}
use Rattle.chip_core.specs.declared.Hearing.TheVariants.{HearsCommands, HearsData, HearsNothing}
use Rattle.chip_core.specs.declared.Phase.{Phase}
use Rattle.chip_core.specs.declared.Phase.TheVariants.{Awaiting, ModeByte, Ready, Setup}
use Rattle.chip_pages.specs.Pages.{bad_data, data_does, footer_of, good_data, length_of, program_page, ready, verify_page}
use Rattle.chip_reply.specs.Reply.{fault_in}
use Rattle.chip_reply.specs.declared.Reply.TheVariants.{BadFrame, BadPage}
use Rattle.chip_state.specs.declared.Chip.{Chip}
use Rattle.chip_work.specs.Work.{block_erase, checksum}
use Rattle.claims_before.specs.Rules.{OwnRules, Rules, bad_data_under, byte_in_under, command_does_under, data_does_under, frame_does_under, good_data_under, react_to_under, reading_does_under, step_under, work_under}
use Rattle.claims_frame.specs.Collecting.{collects_on, take-up}
use Rattle.claims_runs.proofs.Faults.{Plain, check-plain, plainly, program-plain, rate-plain, release-plain, security-plain, status-plain, verify-plain}
use Rattle.claims_runs.proofs.Window.{if-two, only-ready}
use Rattle.claims_runs.specs.Taken.{taken_as, taken_in}
use Rattle.commands.proofs.Laws.{com-read}
use Rattle.commands.specs.Commands.{com_of, read_command}
use Rattle.commands.specs.declared.Command as Commands
use Rattle.commands.specs.declared.Command.TheVariants.{BlankCheck, BlockErase, Checksum, Programming, RateSet, Reset, SecurityGet, SecurityRelease, SecuritySet, SignatureGet, Verify}
use Rattle.part.specs.declared.Place.{Place}
use Rattle.commands.specs.declared.Misread.TheVariants.{UnfitLen, Unknown}
use Rattle.commands.specs.declared.Misread.{Misread}
use Rattle.std.specs.Prelude.{Err, Ok, Option, Result}
use Rattle.frame.specs.Collector.{hear, heard}
use Rattle.frame.specs.Frame.{complete, payload}
use Rattle.frame.specs.Judgement.{fitting, is_good, judge_of}
use Rattle.frame.specs.declared.Footer.TheVariants.{Last}
use Rattle.frame.specs.declared.Header.TheVariants.{Command, Data}
use Rattle.frame.specs.declared.judgement.Judgement.{Judgement}
use Rattle.frame.specs.declared.judgement.Judgement.TheVariants.{UnfitLength}
use Rattle.part.specs.Part.{place_of, range_of}
use Rattle.part.specs.declared.Part.{Part}
use Rattle.words.specs.Words.{if◌then◌otherwise◌}

-- B0h is allowed in phase 3 alone.
sum-ready : (g : List ℕ) (start end : ℕ) → read_command (payload g) ≡ Ok (Checksum start end) → (ph : Phase) → allowed_in ph (get_or (payload g) 0 0) ≡ true
    → ph ≡ Ready
unfolding com_of
sum-ready g start end r ph t = only-ready _ (ap (λ (c : ℕ). eqb c 0x9A) (com-read (payload g) _ r)) ph t

-- Data frames are heard in phase 4 alone.
only-awaiting : (w : Awaited) (ph : Phase) → hearing ph ≡ HearsData w → ph ≡ Awaiting w
unfolding hearing
only-awaiting w ModeByte e = cc
only-awaiting w Setup e = cc
only-awaiting w Ready e = cc
only-awaiting w (Awaiting x) e = cc

taken-whole : (hs : List ℕ) → complete hs ≡ true → (take-up hs).taken ≡ hs ∷ []
unfolding take-up if◌then◌otherwise◌
taken-whole hs e = rw e

abbrev pub lent : Flash → List ℕ → Memory
lent f s = record { flash = f; sums = s }

-- The event v completes, after hs, a good page: the frame g, while w is awaited.
pub record PageTaken (k : Core) (hs : List ℕ) (v : Event) (w : Awaited) (g : List ℕ) : Type 0 where
  pub phase : k.phase ≡ Awaiting w
  pub taken : taken_in (hearing k.phase) hs v ≡ g ∷ []
  pub good : is_good (fitting (length_of w) g (judge_of (footer_of w) g)) ≡ true
  pub page : eqb w.command 0xA0 ≡ false

-- Where v comes after hs, each rule of R is, by Rel, like the chip's own. The same flash f is lent with the sums s, and under R with t.
pub record RulesLike (R : Rules) (Rel : Effect → Effect → Type 0) (p : Part) (k : Core) (hs : List ℕ) (v : Event) (f : Flash) (s t : List ℕ) : Type 0 where
  pub same : (d : Done) → Plain d.reply → Rel (effect d (lent f s)) (effect d (lent f t))
  pub erases : (x : Option Place) → Rel (block_erase p k x (lent f s)) (R.erases p k x (lent f t))
  pub sums : (g : List ℕ) (start end : ℕ) → k.phase ≡ Ready → taken_in (hearing k.phase) hs v ≡ g ∷ [] → is_good (judge_of Last g) ≡ true
      → read_command (payload g) ≡ Ok (Checksum start end)
      → Rel (effect (checksum p k (range_of p start end) (lent f s)) (lent f s)) (effect (R.sums p k (range_of p start end) (lent f t)) (lent f t))
  pub stores : (w : Awaited) (g : List ℕ) → PageTaken k hs v w g → eqb w.command 0x40 ≡ true
      → Rel (program_page p k w (place_of p w.next) (payload g) (lent f s)) (R.stores p k w (place_of p w.next) (payload g) (lent f t))
  pub compares : (w : Awaited) (g : List ℕ) → PageTaken k hs v w g → eqb w.command 0x40 ≡ false
      → Rel (effect (verify_page k w (place_of p w.next) (payload g) f) (lent f s)) (effect (R.compares k w (place_of p w.next) (payload g) f) (lent f t))
  pub frames : (c : Core) (j : Judgement) → Rel (effect (told (BadFrame j) c) (lent f s)) (effect (told (R.to_bad_frame j) c) (lent f t))
  pub pages : (c : Core) (j : Judgement) → Rel (effect (told (BadPage j) c) (lent f s)) (effect (told (R.to_bad_page j) c) (lent f t))

-- Two reactions that hear the same, and whose effects Rel joins.
pub record Both (Rel : Effect → Effect → Type 0) (x y : Reaction) : Type 0 where
  pub hears : x.hears ≡ y.hears
  pub does : Rel x.does y.does

module _ {R : Rules} {Rel : Effect → Effect → Type 0} {p : Part} {k : Core} {hs : List ℕ} {v : Event} {f : Flash} {s t : List ℕ} (l : RulesLike R Rel p k hs v f s t) where
  module _ (g : List ℕ) (q : taken_in (hearing k.phase) hs v ≡ g ∷ []) where
    works : is_good (judge_of Last g) ≡ true → allowed_in k.phase (get_or (payload g) 0 0) ≡ true → (c : Commands.Command) → read_command (payload g) ≡ Ok c
        → Rel (work c p k (lent f s)) (work_under R c p k (lent f t))
    unfolding work work_under fault_in
    works u x (RateSet rate supply) e = l.same _ (rate-plain p k rate supply)
    works u x Reset e = l.same _ (status-plain _)
    works u x (BlockErase start) e = l.erases _
    works u x (BlankCheck start end d01) e = l.same _ (check-plain p k _ d01 f)
    works u x (Programming start end) e = l.same _ (program-plain p k _ start end)
    works u x (Verify start end) e = l.same _ (verify-plain k _ start end)
    works u x (Checksum start end) e = l.sums g start end (sum-ready g start end e k.phase x) q u e
    works u x SignatureGet e = l.same _ (plainly refl)
    works u x SecurityGet e = l.same _ (plainly refl)
    works u x SecuritySet e = l.same _ (status-plain _)
    works u x SecurityRelease e = l.same _ (release-plain p k f)

    reading-does : is_good (judge_of Last g) ≡ true → allowed_in k.phase (get_or (payload g) 0 0) ≡ true → (r : Result Commands.Command Misread) → read_command (payload g) ≡ r
        → Rel (reading_does r p k (lent f s)) (reading_does_under R r p k (lent f t))
    unfolding reading_does reading_does_under
    reading-does u x (Err Unknown) e = l.same _ (status-plain _)
    reading-does u x (Err UnfitLen) e = l.frames k UnfitLength
    reading-does u x (Ok c) e = works u x c e

    command-does : Rel (command_does p k g (lent f s)) (command_does_under R p k g (lent f t))
    unfolding command_does command_does_under
    command-does = if-two Rel _ (λ u. l.frames k _) (λ u. if-two Rel _ (λ x. l.same _ (status-plain _)) (λ x. reading-does (not-false _ u) (not-false _ x) _ refl))

    data-does : (w : Awaited) → k.phase ≡ Awaiting w → Rel (data_does p k w g (lent f s)) (data_does_under R p k w g (lent f t))
    unfolding data_does data_does_under bad_data bad_data_under good_data good_data_under
    data-does w ph =
        if-two Rel _ (λ u. if-two (λ (d e : Done). Rel (effect d (lent f s)) (effect e (lent f t))) _ (λ x. l.frames (ready k) _) (λ x. l.pages (ready k) _))
        (λ u. if-two Rel _ (λ x. l.same _ (security-plain p k _))
        (λ x. let taken : PageTaken k hs v w g = record { phase = ph; taken = q; good = not-false _ u; page = x } in
        if-two Rel _ (l.stores w g taken) (l.compares w g taken)))

  quiet : (hs : List ℕ) (k : Core) → Both Rel (reaction hs (silent k (lent f s))) (reaction hs (silent k (lent f t)))
  unfolding fault_in
  quiet hs k = record { hears = refl; does = l.same _ (plainly refl) }

  heard-both : (hs : List ℕ) (x y : Effect) → (complete hs ≡ true → Rel x y) → Both Rel (heard_byte hs x k (lent f s)) (heard_byte hs y k (lent f t))
  unfolding heard_byte
  heard-both hs x y h = if-two (Both Rel) (complete hs) (λ e. record { hears = refl; does = h e }) (λ e. quiet hs k)

module _ {R : Rules} {Rel : Effect → Effect → Type 0} {p : Part} {k : Core} {hs : List ℕ} {f : Flash} {s t : List ℕ} where
  byte-both : (b : ℕ) → RulesLike R Rel p k hs (Byte b) f s t → (h : Hearing) → hearing k.phase ≡ h
      → Both Rel (byte_in h p k hs b (lent f s)) (byte_in_under R h p k hs b (lent f t))
  unfolding byte_in byte_in_under taken_in taken_as collects_on frame_does frame_does_under
  byte-both b l HearsNothing e = quiet l hs _
  byte-both b l HearsCommands e =
      heard-both l (hear Command hs b) _ _
      (λ c. command-does l (hear Command hs b) (ap (λ (h : Hearing). taken_in h hs (Byte b)) e ∙ taken-whole (hear Command hs b) c))
  byte-both b l (HearsData w) e =
      heard-both l (hear Data hs b) _ _
      (λ c. data-does l (hear Data hs b) (ap (λ (h : Hearing). taken_in h hs (Byte b)) e ∙ taken-whole (hear Data hs b) c) w (only-awaiting w k.phase e))

  pub react-both : (v : Event) → RulesLike R Rel p k hs v f s t → Both Rel (react_to v p k hs (lent f s)) (react_to_under R v p k hs (lent f t))
  unfolding react_to react_to_under
  react-both (Byte b) l = byte-both b l _ refl
  react-both Gap l = quiet l [] k
  react-both PowerOn l = quiet l [] _

-- Where the effects are equal, so is the step.
pub equal-step : {R : Rules} (p : Part) (c : Chip) (v : Event) (m : Memory) (room : List ℕ)
    → RulesLike R ◌≡◌ p c.core (heard c.collector) v m.flash m.sums m.sums → step_under R p c v m room ≡ step_of p c v m room
unfolding step_under step_of
equal-step p c v m room l =
    let b = react-both v l in
    let r : react_to v p c.core (heard c.collector) m ≡ react_to_under _ v p c.core (heard c.collector) m = λ i. reaction (b.hears i) (b.does i) in
    rw r

pub own-rules : OwnRules
own-rules p c v m room =
    equal-step p c v m room
    (record {
      same = λ d n. refl;
      erases = λ x. refl;
      sums = λ g start end ph q u e. refl;
      stores = λ w g q e. refl;
      compares = λ w g q e. refl;
      frames = λ c j. refl;
      pages = λ c j. refl;
    })
