-- The proofs of `AsBeforeClearing`, `RunAsBeforeClearing`, `BlankAsBefore`, `UnchangedAsBefore`, `TakenNow`, `MixedNow` and `DiffersIndeed`.
-- Assumes nothing.
use mathlib.Core.Bool.{Bool, false, false≢true, true}
use mathlib.Core.List.{List, [], ◌∷◌}
use mathlib.Core.Logic.{◌≢◌}
use mathlib.Core.Path.{◌∙◌, ◌≡◌, ap, refl, sym}
use Prim.Native.Nat.{ℕ}
use native.Mathlib.Omega.{arith}
use lib.ListN.{get_or}
use borrow.Author.Tests.{eqb-true}
use Rattle.chip.specs.Run.{Spoken, answers, onward, run, spoken_in}
use Rattle.chip.specs.Step.{Outcome, reaction, settled}
use Rattle.chip.specs.declared.Event.{Event}
use Rattle.chip_core.specs.Effect.{Effect, Memory, acknowledge, effect, flash, told, write_error}
use Rattle.chip_core.specs.Hearing.{hearing}
use Rattle.chip_core.specs.declared.Awaited.{Awaited}
use Rattle.chip_core.specs.declared.Core.{Core}
use Rattle.chip_core.specs.declared.Done.{Done}
use Rattle.chip_core.specs.declared.Phase.TheVariants.{Awaiting}
use Rattle.chip_flash.specs.Flash.{blank, programmed}
use Rattle.chip_pages.specs.Pages.{footer_of, is_last_page, length_of, next_page, page_in, page_written, pair, program_page, ready, stored_reply}
use Rattle.chip_reply.specs.Reply.{fault_in, frames_of, payloads, said_of}
use Rattle.chip_state.specs.declared.Chip.{Chip}
use Rattle.claims_before.proofs.Blank.{sent-over-blank}
use Rattle.claims_before.proofs.Rules.{equal-step, own-rules}
use Rattle.claims_before.proofs.Verify.{frame-heard}
use Rattle.claims_before.specs.Rules.{Rules, answers_under, data_does_under, good_data_under, onward_under, rules_now, run_under, step_under}
use Rattle.claims_before.specs.Stored.{AsBeforeClearing, BlankAsBefore, DiffersIndeed, MixedNow, PageDone, RunAsBeforeClearing, TakenNow, UnchangedAsBefore, WritesOtherwise, mixed, program_page_blank, rules_before_clearing, taken}
use Rattle.claims_fed.specs.Awaits.{good_for}
use Rattle.claims_fed.specs.Fed.{says_frame}
use Rattle.claims_good.proofs.Stays.{stays}
use Rattle.claims_good.specs.Good.{Stands, Utterance, and_event, no_event, uttered}
use Rattle.claims_pages.proofs.Bytes.{status-is-told}
use Rattle.claims_pages.proofs.Written.{mixed-told, stored-told}
use Rattle.claims_pages.specs.Sent.{PageSent, old_page}
use Rattle.claims_pages.specs.Written.{says_stored}
use Rattle.claims_runs.specs.Options.{at_end, not_here}
use Rattle.frame.specs.Frame.{framed, payload}
use Rattle.frame.specs.Judgement.{fitting, is_good, judge_of}
use Rattle.lent.proofs.Laws.{same-is, same_self}
use Rattle.lent.specs.Lent.{same}
use Rattle.part.specs.Part.{place_of}
use Rattle.part.specs.declared.Part.{Part}
use Rattle.part.specs.declared.Place.{Place}
use Rattle.std.specs.Prelude.{Ok, Option}
use Rattle.words.specs.Words.{if◌then◌otherwise◌}

-- Whether two lists of bytes are equal can be told, and so of what is lent.
bytes-equal : (bs cs : List ℕ) → Dec (bs ≡ cs)
bytes-equal bs cs = go (same bs cs) refl
  where
    go : (t : Bool) → same bs cs ≡ t → Dec (bs ≡ cs)
    go true t = yes (same-is bs cs t)
    go false t = no (λ e. false≢true (sym t ∙ ap (same bs) (sym e) ∙ same_self bs))

memory-equal : (m n : Memory) → Dec (m ≡ n)
memory-equal m n = go (bytes-equal m.flash.code_flash n.flash.code_flash) (bytes-equal m.flash.data_flash n.flash.data_flash) (bytes-equal m.sums n.sums)
  where
    go : Dec (m.flash.code_flash ≡ n.flash.code_flash) → Dec (m.flash.data_flash ≡ n.flash.data_flash) → Dec (m.sums ≡ n.sums) → Dec (m ≡ n)
    go (yes c) (yes d) (yes s) = yes (λ i. record { flash = flash (c i) (d i); sums = s i })
    go (no c) d s = no (λ e. c (ap (λ (x : Memory). x.flash.code_flash) e))
    go (yes c) (no d) s = no (λ e. d (ap (λ (x : Memory). x.flash.data_flash) e))
    go (yes c) (yes d) (no s) = no (λ e. s (ap (λ (x : Memory). x.sums) e))

-- The two rules, by whether the page there is blank and whether what is sent lands.
module _ (p : Part) (k : Core) (w : Awaited) (at : Option Place) (ds : List ℕ) (m : Memory) where
  page-lands : programmed (page_in at m.flash) ds ≡ ds → program_page p k w at ds m ≡ effect (told (stored_reply w) (next_page w k)) (page_written p at ds m)
  unfolding program_page
  page-lands e = ap (λ (d : Done). effect d (page_written p at ds m)) (stored-told w k ((status-is-told (page_in at m.flash) ds).landed e))

  page-mixed : programmed (page_in at m.flash) ds ≢ ds → program_page p k w at ds m ≡ effect (pair acknowledge write_error (ready k)) (page_written p at ds m)
  unfolding program_page
  page-mixed n = ap (λ (d : Done). effect d (page_written p at ds m)) (mixed-told w k ((status-is-told (page_in at m.flash) ds).mixed n))

  blank-before : blank (page_in at m.flash) ≡ true → programmed (page_in at m.flash) ds ≡ ds
      → program_page_blank p k w at ds m ≡ effect (told (stored_reply w) (next_page w k)) (page_written p at ds m)
  unfolding program_page_blank page_written if◌then◌otherwise◌
  blank-before t e = rw (t, e)

  written-before : blank (page_in at m.flash) ≡ false → program_page_blank p k w at ds m ≡ effect (pair acknowledge write_error (ready k)) m
  unfolding program_page_blank if◌then◌otherwise◌
  written-before t = rw t

pub as-before-clearing : AsBeforeClearing
unfolding good_for
as-before-clearing p o v st h n =
    sym
    (equal-step p o.chip v o.memory o.room
    (record {
      same = λ d n. refl;
      erases = λ x. refl;
      sums = λ g start end ph q u e. refl;
      stores = λ w g q x. stored w (payload g) (record { frame = g; phase = q.phase; command = eqb-true _ _ x; taken = q.taken; good = q.good; carries = refl });
      compares = λ w g q x. refl;
      frames = λ c j. refl;
      pages = λ c j. refl;
    }))
  where
    k : Core
    k = o.chip.core

    stored : (w : Awaited) (ds : List ℕ) → PageSent o v w ds
        → program_page p k w (place_of p w.next) ds o.memory ≡ program_page_blank p k w (place_of p w.next) ds o.memory
    stored w ds q = go (blank (old_page p w o)) refl (bytes-equal (programmed (old_page p w o) ds) ds) (memory-equal (page_written p (place_of p w.next) ds o.memory) o.memory)
      where
        go : (t : Bool) → blank (old_page p w o) ≡ t → Dec (programmed (old_page p w o) ds ≡ ds) → Dec (page_written p (place_of p w.next) ds o.memory ≡ o.memory)
            → program_page p k w (place_of p w.next) ds o.memory ≡ program_page_blank p k w (place_of p w.next) ds o.memory
        go true t d e =
            let i = sent-over-blank p o v w ds st h q t in
            page-lands p k w (place_of p w.next) ds o.memory i ∙ sym (blank-before p k w (place_of p w.next) ds o.memory t i)
        go false t (yes d) e = absurd (n (taken w ds q t d))
        go false t (no d) (no e) = absurd (n (mixed w ds q t d e))
        go false t (no d) (yes e) =
            page-mixed p k w (place_of p w.next) ds o.memory d ∙ ap (λ (m : Memory). effect (pair acknowledge write_error (ready k)) m) e
            ∙ sym (written-before p k w (place_of p w.next) ds o.memory t)

pub run-as-before-clearing : RunAsBeforeClearing
unfolding answers answers_under run run_under
run-as-before-clearing p [] o st no_event at_end = record { says = refl; after = refl }
run-as-before-clearing p (v ∷ vs) o st (and_event h hs) (not_here n r) =
    let e = as-before-clearing p o v st h n in
    let q = run-as-before-clearing p vs (onward p o v) (stays p o v st h) hs r in
    record { says = rw (← e) (ap (λ (xs : List Spoken). spoken_in (onward p o v) ∷ xs) q.says); after = rw (← e) q.after }

-- One event completes one page.
record OnePage (w x : Awaited) (ds es : List ℕ) : Type 0 where
  awaited : w ≡ x
  bytes : ds ≡ es

one-page : {o : Outcome} {v : Event} {w x : Awaited} {ds es : List ℕ} → PageSent o v w ds → PageSent o v x es → OnePage w x ds es
one-page {o} {v} {w} {x} {ds} {es} q r =
    let a : Awaiting w ≡ Awaiting x = sym q.phase ∙ r.phase in
    let f : q.frame ∷ [] ≡ r.frame ∷ [] = sym q.taken ∙ r.taken in
    let g : q.frame ≡ r.frame = cc in
    record { awaited = cc; bytes = sym q.carries ∙ ap payload g ∙ r.carries }

pub blank-as-before : BlankAsBefore
blank-as-before p o v w ds st h q b = as-before-clearing p o v st h never
  where
    never : WritesOtherwise p o v → ⊥
    never (taken x es r n e) = let i = one-page q r in false≢true (sym n ∙ ap (λ (y : Awaited). blank (old_page p y o)) (sym i.awaited) ∙ b)
    never (mixed x es r n e u) = let i = one-page q r in false≢true (sym n ∙ ap (λ (y : Awaited). blank (old_page p y o)) (sym i.awaited) ∙ b)

pub unchanged-as-before : UnchangedAsBefore
unchanged-as-before p o v w ds st h q d s = as-before-clearing p o v st h never
  where
    never : WritesOtherwise p o v → ⊥
    never (taken x es r n e) = let i = one-page q r in d (rw (i.awaited, i.bytes) e)
    never (mixed x es r n e u) = let i = one-page r q in u (rw (i.awaited, i.bytes) s)

-- Under any rules a good page of 40h is done by the rule for it.
module _ (R : Rules) (p : Part) (k : Core) (m : Memory) (w : Awaited) (g : List ℕ) where
  page-does : w.command ≡ 0x40 → is_good (fitting (length_of w) g (judge_of (footer_of w) g)) ≡ true
      → data_does_under R p k w g m ≡ R.stores p k w (place_of p w.next) (payload g) m
  unfolding data_does_under good_data_under if◌then◌otherwise◌
  page-does c u = rw (u, c)

page-step : (R : Rules) (p : Part) (o : Outcome) (v : Event) (w : Awaited) (ds : List ℕ) {x : Effect} → Stands p o → PageSent o v w ds
    → R.stores p o.chip.core w (place_of p w.next) ds o.memory ≡ x
    → onward_under R p o v ≡ settled (Ok tt) p (reaction [] x) o.chip o.memory o.room
unfolding step_under hearing good_for
page-step R p o v w ds {x} st q e =
    let k : Core = o.chip.core in
    let s : R.stores p k w (place_of p w.next) (payload q.frame) o.memory ≡ x = rw q.carries e in
    rw (st.accepted, frame-heard R p k _ o.memory w q.frame v (ap hearing q.phase) q.taken, page-does R p k o.memory w q.frame q.command q.good, s)

module _ (p : Part) (c : Chip) (k : Core) (m n : Memory) (room : List ℕ) where
  says-pair : (s t : ℕ) → PageDone (settled (Ok tt) p (reaction [] (effect (pair s t k) n)) c m room) (says_frame (s ∷ t ∷ [])) k n
  unfolding settled said_of fault_in payloads frames_of framed
  says-pair s t = record { said = refl; record_is = refl; memory = refl }

  says-stored : (w : Awaited) → PageDone (settled (Ok tt) p (reaction [] (effect (told (stored_reply w) k) n)) c m room) (says_stored w) k n
  unfolding settled said_of fault_in payloads frames_of framed stored_reply says_stored if◌then◌otherwise◌
  says-stored w = go (is_last_page w) refl
    where
      go : (t : Bool) → is_last_page w ≡ t → PageDone (settled (Ok tt) p (reaction [] (effect (told (stored_reply w) k) n)) c m room) (says_stored w) k n
      go true t = rw t (record { said = refl; record_is = refl; memory = refl })
      go false t = rw t (record { said = refl; record_is = refl; memory = refl })

was-refused : (p : Part) (o : Outcome) (v : Event) (w : Awaited) (ds : List ℕ) → Stands p o → PageSent o v w ds → blank (old_page p w o) ≡ false
    → PageDone (onward_under rules_before_clearing p o v) (says_frame (0x06 ∷ 0x1C ∷ [])) (ready o.chip.core) o.memory
was-refused p o v w ds st q b =
    rw (page-step rules_before_clearing p o v w ds st q (written-before p o.chip.core w (place_of p w.next) ds o.memory b))
    (says-pair p o.chip _ o.memory _ o.room _ _)

pub taken-now : TakenNow
taken-now p o v w ds st q b e =
    record {
      now = rw (← own-rules p o.chip v o.memory o.room, page-step rules_now p o v w ds st q (page-lands p o.chip.core w (place_of p w.next) ds o.memory e))
          (says-stored p o.chip _ o.memory _ o.room w);
      was = was-refused p o v w ds st q b;
    }

pub mixed-now : MixedNow
mixed-now p o v w ds st q b n =
    record {
      now = rw (← own-rules p o.chip v o.memory o.room, page-step rules_now p o v w ds st q (page-mixed p o.chip.core w (place_of p w.next) ds o.memory n))
          (says-pair p o.chip _ o.memory _ o.room _ _);
      was = was-refused p o v w ds st q b;
    }

-- The second status of a stored page is 06h, of one page or the last.
second-stored : (w : Awaited) → get_or (says_stored w).bytes 3 0 ≡ 0x06
unfolding says_stored framed if◌then◌otherwise◌
second-stored w = go (is_last_page w) refl
  where
    go : (t : Bool) → is_last_page w ≡ t → get_or (says_stored w).bytes 3 0 ≡ 0x06
    go true t = rw t
    go false t = rw t

second-mixed : get_or (says_frame (0x06 ∷ 0x1C ∷ [])).bytes 3 0 ≡ 0x1C
unfolding framed
second-mixed = refl

pub differs-indeed : DiffersIndeed
differs-indeed p o v st (taken w ds q b e) i =
    let d = taken-now p o v w ds st q b e in
    let s : says_stored w ≡ says_frame (0x06 ∷ 0x1C ∷ []) = sym d.now.said ∙ ap (λ (u : Outcome). uttered (spoken_in u)) i ∙ d.was.said in
    let c : ◌≡◌ {A = ℕ} 0x06 0x1C = sym (second-stored w) ∙ ap (λ (u : Utterance). get_or u.bytes 3 0) s ∙ second-mixed in
    omega arith
differs-indeed p o v st (mixed w ds q b e u) i =
    let d = mixed-now p o v w ds st q b e in
    u (sym d.now.memory ∙ ap (λ (x : Outcome). x.memory) i ∙ d.was.memory)
