-- The proofs of `AsBeforeVerify`, `RunAsBeforeVerify`, `TellsEarly` and `TellsLate`.
-- Assumes nothing.
use mathlib.Core.Bool.{Bool, false, true}
use mathlib.Core.List.{List, [], ◌∷◌}
use mathlib.Core.Path.{◌≡◌, ap, refl, sym}
use Prim.Native.Nat.{ℕ}
use lib.Dec.{eqb}
use borrow.Author.Tests.{eqb-true}
use Rattle.chip.specs.Run.{Spoken, answers, onward, run, spoken_in}
use Rattle.chip.specs.Step.{Outcome, Reaction, heard_byte, reaction, settled, step_of}
use Rattle.chip.specs.declared.Event.{Event}
use Rattle.chip.specs.declared.Event.TheVariants.{Byte, Gap, PowerOn}
use Rattle.chip_core.specs.Effect.{Effect, Flash, Memory, acknowledge, effect, entered}
use Rattle.chip_core.specs.Hearing.{hearing}
use Rattle.chip_core.specs.declared.Awaited.{Awaited}
use Rattle.chip_core.specs.declared.Core.{Core}
use Rattle.chip_core.specs.declared.Done.{Done}
use Rattle.chip_core.specs.declared.Hearing.TheVariants.{HearsData}
use Rattle.chip_core.specs.declared.Phase.{Phase}
use Rattle.chip_core.specs.declared.Phase.TheVariants.{Awaiting}
use Rattle.chip_pages.specs.Pages.{compared, footer_of, is_last_page, length_of, next_page, page_in, pair, verify_page, verify_status}
use Rattle.chip_reply.specs.Reply.{fault_in, frames_of, payloads, said_of}
use Rattle.chip_state.proofs.Laws.{accepts}
use Rattle.chip_state.specs.Refusals.{good_phase, good_state}
use Rattle.claims_before.proofs.Rules.{PageTaken, equal-step, own-rules}
use Rattle.claims_before.specs.Rules.{Rules, answers_under, byte_in_under, data_does_under, frame_does_under, good_data_under, onward_under, react_to_under, rules_now, run_under, step_under}
use Rattle.claims_verify.specs.Compared.{PageCompared}
use Rattle.claims_before.specs.Verify.{AsBeforeVerify, RunAsBeforeVerify, SaysSecond, TellsEarly, TellsLate, early, late, rules_before_verify, verify_page_before}
use Rattle.claims_fed.proofs.Frames.{no-frame}
use Rattle.claims_fed.specs.Awaits.{good_for}
use Rattle.claims_frame.specs.Collecting.{collects_on, take-up}
use Rattle.claims_good.proofs.Awaited.{good-walk}
use Rattle.claims_good.proofs.Core.{core_is}
use Rattle.claims_good.specs.Good.{Stands, verdict_in}
use Rattle.claims_runs.specs.Options.{at_end, not_here}
use Rattle.claims_runs.specs.Taken.{taken_as, taken_in}
use Rattle.frame.specs.Collector.{hear, heard}
use Rattle.frame.specs.Frame.{complete, framed, payload}
use Rattle.frame.specs.Judgement.{fitting, is_good, judge_of}
use Rattle.frame.specs.declared.Header.TheVariants.{Data}
use Rattle.lent.specs.Lent.{same}
use Rattle.part.specs.Part.{place_of}
use Rattle.part.specs.declared.Part.{Part}
use Rattle.part.specs.declared.refusal.Refusal.{Refusal}
use Rattle.part.specs.declared.Place.{Place}
use Rattle.std.specs.Prelude.{Err, Ok, Option, Result}
use Rattle.words.proofs.Laws.{and_right, if-all}
use Rattle.words.specs.Words.{◌and◌, ◌or◌, if◌then◌otherwise◌}

-- The two rules, by whether the page is equal, whether it is the last, and what is remembered.
module _ (k : Core) (w : Awaited) (at : Option Place) (ds : List ℕ) (m : Flash) where
  same-rule : (same (page_in at m) ds ≡ false → is_last_page w ≡ false → ⊥) → (same (page_in at m) ds ≡ true → is_last_page w ≡ true → w.differed ≡ true → ⊥)
      → verify_page k w at ds m ≡ verify_page_before k w at ds m
  unfolding verify_page verify_page_before compared verify_status next_page is_last_page ◌and◌ ◌or◌ if◌then◌otherwise◌
  same-rule x y = go (same (page_in at m) ds) (is_last_page w) w.differed refl refl refl
    where
      go : (s l d : Bool) → same (page_in at m) ds ≡ s → is_last_page w ≡ l → w.differed ≡ d → verify_page k w at ds m ≡ verify_page_before k w at ds m
      go false false d e f g = absurd (x e f)
      go false true d e f g = rw (e, f)
      go true false d e f g = rw (e, f)
      go true true false e f g = rw (e, f, g)
      go true true true e f g = absurd (y e f g)

-- A page that is neither of A0h nor of 40h is one of 13h, where the call is accepted.
is-13h : (p : Part) (o : Outcome) (w : Awaited) → verdict_in p o ≡ Ok tt → o.chip.core.phase ≡ Awaiting w → eqb w.command 0xA0 ≡ false
    → eqb w.command 0x40 ≡ false → w.command ≡ 0x13
unfolding good_state good_phase ◌or◌
is-13h p o w e ph n x =
    let g = (core_is p o.chip.core (and_right _ _ (accepts e).state)).phase in
    eqb-true _ _ (rw x at (good-walk p w (rw ph at g) n).command)

pub as-before-verify : AsBeforeVerify
unfolding step_of step_under settled good_for
as-before-verify p o v n = go (verdict_in p o) refl
  where
    k : Core
    k = o.chip.core

    at-page : verdict_in p o ≡ Ok tt → (w : Awaited) (g : List ℕ) → PageTaken k (heard o.chip.collector) v w g → eqb w.command 0x40 ≡ false → (equal : Bool)
        → same (page_in (place_of p w.next) o.memory.flash) (payload g) ≡ equal → PageCompared p o v w equal
    at-page a w g q x equal e =
        record { frame = g; phase = q.phase; command = is-13h p o w a q.phase q.page x; taken = q.taken; good = q.good; result = e }

    go : (x : Result Unit Refusal) → verdict_in p o ≡ x → onward p o v ≡ onward_under rules_before_verify p o v
    go (Err r) e = rw e
    go (Ok _) a =
        sym
        (equal-step p o.chip v o.memory o.room
        (record {
          same = λ d n. refl;
          erases = λ x. refl;
          sums = λ g start end ph q u e. refl;
          stores = λ w g q e. refl;
          compares = λ w g q x.
              ap (λ (d : Done). effect d o.memory)
              (same-rule k w _ _ _ (λ e l. n (early w (at-page a w g q x false e) l)) (λ e l d. n (late w (at-page a w g q x true e) l d)));
          frames = λ c j. refl;
          pages = λ c j. refl;
        }))

pub run-as-before-verify : RunAsBeforeVerify
unfolding answers answers_under run run_under
run-as-before-verify p [] o at_end = record { says = refl; after = refl }
run-as-before-verify p (v ∷ vs) o (not_here n r) =
    let e = as-before-verify p o v n in
    let q = run-as-before-verify p vs (onward p o v) r in
    record { says = rw (← e) (ap (λ (xs : List Spoken). spoken_in (onward p o v) ∷ xs) q.says); after = rw (← e) q.after }

-- A frame that is taken does its work.
whole-heard : (hs g : List ℕ) (x : List ℕ → Effect) (k : Core) (m : Memory) → (take-up hs).taken ≡ g ∷ [] → heard_byte hs (x hs) k m ≡ reaction [] (x g)
unfolding heard_byte take-up if◌then◌otherwise◌
whole-heard hs g x k m e =
    if-all (λ (r : Reaction). r ≡ reaction [] (x g)) (complete hs)
    (λ t. let one : hs ∷ [] ≡ g ∷ [] = rw t at e in
    let i : hs ≡ g = cc in rw i)
    (λ t. absurd (no-frame g [] (rw t at e)))

-- Under any rules a data frame does its work, and a good page of 13h is done by the rule for it.
module _ (R : Rules) (p : Part) (k : Core) (hs : List ℕ) (m : Memory) (w : Awaited) (g : List ℕ) where
  pub frame-heard : (v : Event) → hearing k.phase ≡ HearsData w → taken_in (hearing k.phase) hs v ≡ g ∷ []
      → react_to_under R v p k hs m ≡ reaction [] (data_does_under R p k w g m)
  unfolding react_to_under byte_in_under frame_does_under taken_in taken_as collects_on
  frame-heard (Byte b) h e = rw h (whole-heard (hear Data hs b) g (λ f. data_does_under R p k w f m) k m (rw h at e))
  frame-heard Gap h e = absurd (no-frame g [] (rw h at e))
  frame-heard PowerOn h e = absurd (no-frame g [] (rw h at e))

  page-does : w.command ≡ 0x13 → is_good (fitting (length_of w) g (judge_of (footer_of w) g)) ≡ true
      → data_does_under R p k w g m ≡ effect (R.compares k w (place_of p w.next) (payload g) m.flash) m
  unfolding data_does_under good_data_under if◌then◌otherwise◌
  page-does c u = rw (u, c)

says_second : {equal : Bool} (R : Rules) (p : Part) (o : Outcome) (v : Event) (w : Awaited) (s : ℕ) (f : Phase) → Stands p o → (q : PageCompared p o v w equal)
    → R.compares o.chip.core w (place_of p w.next) (payload q.frame) o.memory.flash ≡ pair acknowledge s (entered o.chip.core f)
    → SaysSecond o (onward_under R p o v) s f
unfolding step_under settled hearing said_of fault_in payloads frames_of framed good_for
says_second R p o v w s f st q e =
    let k : Core = o.chip.core in
    rw (st.accepted, frame-heard R p k _ o.memory w q.frame v (ap hearing q.phase) q.taken, page-does R p k (heard o.chip.collector) o.memory w q.frame q.command q.good, e)
    (record { says = refl; core = refl; memory = refl })

pub tells-early : TellsEarly
unfolding verify_page verify_page_before compared verify_status next_page is_last_page ◌and◌ ◌or◌ if◌then◌otherwise◌
tells-early p o v w s q l =
    record {
      now = rw (← own-rules p o.chip v o.memory o.room) (says_second rules_now p o v w _ _ s q (rw (q.result, l, q.command)));
      was = says_second rules_before_verify p o v w _ _ s q (rw q.result);
    }

pub tells-late : TellsLate
unfolding verify_page verify_page_before compared verify_status next_page is_last_page ◌and◌ ◌or◌ if◌then◌otherwise◌
tells-late p o v w s q l d =
    record {
      now = rw (← own-rules p o.chip v o.memory o.room) (says_second rules_now p o v w _ _ s q (rw (q.result, l, d)));
      was = says_second rules_before_verify p o v w _ _ s q (rw (q.result, l));
    }
