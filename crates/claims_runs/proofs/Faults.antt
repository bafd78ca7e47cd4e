-- The proofs of `WorkNamesNone`, `FaultOfFrame`, `FaultIsBlamed` and `FaultOfEvent`.
-- Assumes nothing.
use mathlib.Core.Bool.{false, true≢false}
use mathlib.Core.List.{List}
use mathlib.Core.Path.{◌∙◌, ◌≡◌, ap, refl, subst, sym}
use Prim.Native.Nat.{ℕ}
use borrow.Author.Tests.{not-false}
use Rattle.chip.specs.Step.{Outcome, Reaction, settled, step_of}
use Rattle.chip_frame.specs.Does.{frame_does, silent}
use Rattle.chip_commands.specs.Commands.{command_does, reading_does, work}
use Rattle.chip_core.specs.Effect.{Effect, Flash, Memory}
use Rattle.chip_core.specs.Hearing.{hearing}
use Rattle.chip_core.specs.declared.Awaited.{Awaited}
use Rattle.chip_core.specs.declared.Core.{Core}
use Rattle.chip_core.specs.declared.Done.{Done}
use Rattle.chip_core.specs.declared.Phase.{Phase}
use Rattle.chip_core.specs.declared.Phase.TheVariants.{Awaiting, ModeByte, Ready, Setup}
use Rattle.chip_pages.proofs.Laws.{told-either}
use Rattle.chip_pages.specs.Pages.{bad_data, data_does, good_data, page_in, program_page, security_data, stored_reply, verify_page}
use Rattle.chip_reply.specs.Reply.{fault_in}
use Rattle.chip_reply.specs.declared.Reply.{Reply}
use Rattle.chip_reply.specs.declared.Reply.TheVariants.{Status}
use Rattle.chip_work.specs.Work.{blank_check, block_erase, checksum, programming, rate_set, security_release, verify}
use Rattle.claims_fed.proofs.Bad.{bad-frame-does, command-blamed}
use Rattle.claims_fed.specs.Awaits.{AwaitsCommand, AwaitsFrame, awaits_in, command, good_for, in_ready, in_setup, judged_in, page}
use Rattle.claims_fed.specs.Fed.{BadDoes, does, does_in}
use Rattle.claims_good.proofs.Rooms.{reaction_of}
use Rattle.claims_good.specs.Good.{verdict_in}
use Rattle.claims_runs.proofs.Taken.{Went, frame_done, only_heard, quiet_core, went}
use Rattle.claims_runs.proofs.Window.{if-two}
use Rattle.claims_runs.specs.Faults.{FaultIsBlamed, FaultOfEvent, FaultOfFrame, WorkNamesNone, command_fault, fault_by, fault_for, fault_read}
use Rattle.claims_runs.specs.Taken.{taken_by}
use Rattle.commands.specs.declared.Command.{Command}
use Rattle.commands.specs.declared.Command.TheVariants.{BlankCheck, BlockErase, Checksum, Programming, RateSet, Reset, SecurityGet, SecurityRelease, SecuritySet, SignatureGet, Verify}
use Rattle.part.specs.declared.refusal.Refusal.{Refusal}
use Rattle.part.specs.declared.Range.{Range}
use Rattle.part.specs.declared.Place.{Place}
use Rattle.commands.specs.declared.Misread.TheVariants.{UnfitLen, Unknown}
use Rattle.commands.specs.declared.Misread.{Misread}
use Rattle.std.specs.Prelude.{Err, None, Ok, Option, Result, Some}
use Rattle.frame.proofs.Laws.Judgement.{is-good}
use Rattle.frame.specs.Frame.{payload}
use Rattle.frame.specs.Judgement.{is_good, judge_of}
use Rattle.frame.specs.declared.Footer.TheVariants.{Last}
use Rattle.frame.specs.declared.judgement.Judgement.{Judgement}
use Rattle.frame.specs.declared.judgement.Judgement.TheVariants.{Good, UnfitLength}
use Rattle.part.specs.declared.Part.{Part}
use Rattle.words.proofs.Laws.{if-all}

-- A reply that names no fault, as the work of a command and of a good data frame makes it.
pub record Plain (r : Reply) : Type 0 where
  pub none : fault_in r ≡ Good

pub plainly : {r : Reply} → fault_in r ≡ Good → Plain r
plainly e = record { none = e }

pub status-plain : (s : ℕ) → Plain (Status s)
unfolding fault_in
status-plain s = plainly refl

pub rate-plain : (p : Part) (k : Core) (rate supply : ℕ) → Plain (rate_set p k rate supply).reply
unfolding rate_set fault_in
rate-plain p k rate supply = if-all (λ (d : Done). Plain d.reply) _ (λ t. plainly refl) (λ t. plainly refl)

pub erase-plain : (p : Part) (k : Core) (x : Option Place) (m : Memory) → Plain (block_erase p k x m).reply
unfolding block_erase fault_in
erase-plain p k None m = plainly refl
erase-plain p k (Some place) m =
    if-all (λ (x : Effect). Plain x.reply) _ (λ t. plainly refl) (λ t. if-all (λ (x : Effect). Plain x.reply) _ (λ u. plainly refl) (λ u. plainly refl))

pub check-plain : (p : Part) (k : Core) (r : Option Range) (d01 : ℕ) (m : Flash) → Plain (blank_check p k r d01 m).reply
unfolding blank_check fault_in
check-plain p k None d01 m = plainly refl
check-plain p k (Some range) d01 m =
    if-all (λ (d : Done). Plain d.reply) _ (λ t. plainly refl)
    (λ t. if-all (λ (d : Done). Plain d.reply) _ (λ u. plainly refl) (λ u. if-all (λ (d : Done). Plain d.reply) _ (λ v. plainly refl) (λ v. plainly refl)))

pub program-plain : (p : Part) (k : Core) (r : Option Range) (start end : ℕ) → Plain (programming p k r start end).reply
unfolding programming fault_in
program-plain p k None start end = plainly refl
program-plain p k (Some range) start end = if-all (λ (d : Done). Plain d.reply) _ (λ t. plainly refl) (λ t. plainly refl)

pub verify-plain : (k : Core) (r : Option Range) (start end : ℕ) → Plain (verify k r start end).reply
unfolding verify fault_in
verify-plain k None start end = plainly refl
verify-plain k (Some range) start end = plainly refl

pub sum-plain : (p : Part) (k : Core) (r : Option Range) (m : Memory) → Plain (checksum p k r m).reply
unfolding checksum fault_in
sum-plain p k None m = plainly refl
sum-plain p k (Some range) m = if-all (λ (d : Done). Plain d.reply) _ (λ t. plainly refl) (λ t. plainly refl)

pub release-plain : (p : Part) (k : Core) (m : Flash) → Plain (security_release p k m).reply
unfolding security_release fault_in
release-plain p k m =
    if-all (λ (d : Done). Plain d.reply) _ (λ t. plainly refl) (λ t. if-all (λ (d : Done). Plain d.reply) _ (λ u. plainly refl) (λ u. plainly refl))

pub security-plain : (p : Part) (k : Core) (ds : List ℕ) → Plain (security_data p k ds).reply
unfolding security_data fault_in
security-plain p k ds =
    if-all (λ (d : Done). Plain d.reply) _ (λ t. plainly refl) (λ t. if-all (λ (d : Done). Plain d.reply) _ (λ u. plainly refl) (λ u. plainly refl))

stored-plain : (w : Awaited) → Plain (stored_reply w)
unfolding stored_reply fault_in
stored-plain w = if-all Plain _ (λ t. plainly refl) (λ t. plainly refl)

pub page-plain : (p : Part) (k : Core) (w : Awaited) (x : Option Place) (ds : List ℕ) (m : Memory) → Plain (program_page p k w x ds m).reply
unfolding program_page fault_in
page-plain p k w x ds m = told-either (λ (d : Awaited → Core → Done). Plain (d w k).reply) (page_in x m.flash) ds (λ t. stored-plain w) (λ t. plainly refl)

pub compare_plain : (k : Core) (w : Awaited) (x : Option Place) (ds : List ℕ) (m : Flash) → Plain (verify_page k w x ds m).reply
unfolding verify_page fault_in
compare_plain k w x ds m = plainly refl

work-plain : (c : Command) (p : Part) (k : Core) (m : Memory) → Plain (work c p k m).reply
unfolding work fault_in
work-plain (RateSet rate supply) p k m = rate-plain p k rate supply
work-plain Reset p k m = plainly refl
work-plain (BlockErase start) p k m = erase-plain p k _ m
work-plain (BlankCheck start end d01) p k m = check-plain p k _ d01 _
work-plain (Programming start end) p k m = program-plain p k _ start end
work-plain (Verify start end) p k m = verify-plain k _ start end
work-plain (Checksum start end) p k m = sum-plain p k _ m
work-plain SignatureGet p k m = plainly refl
work-plain SecurityGet p k m = plainly refl
work-plain SecuritySet p k m = plainly refl
work-plain SecurityRelease p k m = release-plain p k _

data-plain : (p : Part) (k : Core) (w : Awaited) (ds : List ℕ) (m : Memory) → Plain (good_data p k w ds m).reply
unfolding good_data
data-plain p k w ds m =
    if-all (λ (x : Effect). Plain x.reply) _ (λ t. security-plain p k ds)
    (λ t. if-all (λ (x : Effect). Plain x.reply) _ (λ u. page-plain p k w _ ds m) (λ u. compare_plain k w _ ds _))

pub work-names-none : WorkNamesNone
work-names-none = record { of_command = λ c p k m. (work-plain c p k m).none; of_data = λ p k w ds m. (data-plain p k w ds m).none }

-- A frame's reply names its fault.
record Names (j : Judgement) (x : Effect) : Type 0 where
  named : fault_in x.reply ≡ j

module _ (p : Part) (k : Core) (m : Memory) where
  reading-names : (r : Result Command Misread) → Names (fault_read r) (reading_does r p k m)
  unfolding reading_does fault_read fault_in
  reading-names (Err Unknown) = record { named = refl }
  reading-names (Err UnfitLen) = record { named = refl }
  reading-names (Ok c) = record { named = (work-plain c p k m).none }

  command-names : (f : List ℕ) → Names (command_fault k.phase f) (command_does p k f m)
  unfolding command_does command_fault fault_in
  command-names f = if-two Names _ (λ t. record { named = refl }) (λ t. if-two Names _ (λ u. record { named = refl }) (λ u. reading-names _))

  bad-names : (w : Awaited) (j : Judgement) → fault_in (bad_data w j k).reply ≡ j
  unfolding bad_data fault_in
  bad-names w j = if-all (λ (d : Done). fault_in d.reply ≡ j) _ (λ t. refl) (λ t. refl)

  data-names : (w : Awaited) (f : List ℕ) → Names (judged_in (awaits_in (Awaiting w)) f) (data_does p k w f m)
  unfolding data_does
  data-names w f =
      let j = judged_in (awaits_in (Awaiting w)) f in
      if-all (Names j) _ (λ t. record { named = bad-names w j })
      (λ t. record { named = (data-plain p k w (payload f) m).none ∙ sym (is-good j (not-false _ t)) })

  frame-names : (ph : Phase) → k.phase ≡ ph → (f : List ℕ) → Names (fault_for ph f) (does ph p k m f)
  unfolding does frame_does hearing fault_for fault_in
  frame-names ModeByte e f = record { named = refl }
  frame-names Setup e f = record { named = (command-names f).named ∙ ap (λ (g : Phase). command_fault g f) e }
  frame-names Ready e f = record { named = (command-names f).named ∙ ap (λ (g : Phase). command_fault g f) e }
  frame-names (Awaiting w) e f = data-names w f

pub fault-of-frame : FaultOfFrame
unfolding does_in
fault-of-frame p k m f = (frame-names p k m k.phase refl f).named

-- A frame of this judgement is blamed for it, where that is not good.
record Blamed (ph : Phase) (p : Part) (k : Core) (m : Memory) (j : Judgement) (x : Effect) : Type 0 where
  so : is_good j ≡ false → BadDoes ph p k m j x

module _ (ph : Phase) (c : AwaitsCommand ph) (p : Part) (k : Core) (m : Memory) where
  good-so : (x : Effect) → Blamed ph p k m Good x
  good-so x = record { so = λ e. absurd (true≢false e) }

  reading-blamed : (r : Result Command Misread) → Blamed ph p k m (fault_read r) (reading_does r p k m)
  unfolding reading_does fault_read
  reading-blamed (Err Unknown) = good-so _
  reading-blamed (Err UnfitLen) = record { so = λ e. command-blamed ph p k m UnfitLength c }
  reading-blamed (Ok a) = good-so _

  frame-so : (f : List ℕ) → Blamed ph p k m (command_fault k.phase f) (command_does p k f m)
  unfolding command_does command_fault
  frame-so f =
      if-two (Blamed ph p k m) _ (λ t. record { so = λ e. command-blamed ph p k m (judge_of Last f) c })
      (λ t. if-two (Blamed ph p k m) _ (λ u. good-so _) (λ u. reading-blamed _))

  command-does : (f : List ℕ) → k.phase ≡ ph → Blamed ph p k m (command_fault ph f) (command_does p k f m)
  command-does f e = subst (λ (g : Phase). Blamed ph p k m (command_fault g f) (command_does p k f m)) e (frame-so f)

frame-blamed : (ph : Phase) (p : Part) (k : Core) (m : Memory) (f : List ℕ) → AwaitsFrame ph → k.phase ≡ ph → is_good (fault_for ph f) ≡ false
    → BadDoes ph p k m (fault_for ph f) (does ph p k m f)
unfolding does frame_does hearing fault_for good_for
frame-blamed ph p k m f (command in_setup) e g = (command-does Setup in_setup p k m f e).so g
frame-blamed ph p k m f (command in_ready) e g = (command-does Ready in_ready p k m f e).so g
frame-blamed ph p k m f (page w) e g = bad-frame-does (Awaiting w) p k m f (page w) g

pub fault-is-blamed : FaultIsBlamed
unfolding does_in
fault-is-blamed p k m f a g = frame-blamed k.phase p k m f a refl g

-- The fault told is that of the reply, where the call is accepted.
settled-fault : (v : Result Unit Refusal) (p : Part) (x : Reaction) (o : Outcome) (fs : List (List ℕ)) → fault_in x.does.reply ≡ fault_by (Ok tt) o.chip.core.phase fs
    → (settled v p x o.chip o.memory o.room).fault ≡ fault_by v o.chip.core.phase fs
unfolding settled fault_by
settled-fault (Err r) p x o fs e = refl
settled-fault (Ok _) p x o fs e = e

pub fault-of-event : FaultOfEvent
unfolding step_of reaction_of fault_by fault_in
fault-of-event p o v = settled-fault (verdict_in p o) p (reaction_of p o v) o (taken_by o v) (go (went p o v))
  where
    go : Went (taken_by o v) (λ f. does_in p f o.chip.core o.memory) (silent (quiet_core v o.chip.core) o.memory) (reaction_of p o v)
        → fault_in (reaction_of p o v).does.reply ≡ fault_by (Ok tt) o.chip.core.phase (taken_by o v)
    go (only_heard t q) = ap (λ (x : Effect). fault_in x.reply) q ∙ ap (fault_by (Ok tt) o.chip.core.phase) (sym t)
    go (frame_done f t q) =
        ap (λ (r : Reaction). fault_in r.does.reply) q ∙ fault-of-frame p o.chip.core o.memory f
        ∙ ap (fault_by (Ok tt) o.chip.core.phase) (sym t)
