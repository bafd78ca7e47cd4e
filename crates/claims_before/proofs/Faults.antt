-- The proofs of `WireAsBefore`, `NoneToldBefore` and `RunWireAsBefore`.
-- Assumes nothing.
use mathlib.Core.List.{List, [], ◌∷◌, map}
use mathlib.Core.Path.{◌∙◌, ◌≡◌, ap, refl}
use Prim.Native.Nat.{ℕ}
use Rattle.chip.specs.Run.{Spoken, answers, onward, run, spoken_in}
use Rattle.chip.specs.Step.{Outcome, Reaction, settled, step_of}
use Rattle.chip.specs.declared.Event.{Event}
use Rattle.chip_core.specs.Effect.{Effect, Memory, effect, told}
use Rattle.chip_core.specs.declared.Core.{Core}
use Rattle.chip_options.specs.declared.Options.{Options}
use Rattle.chip_reply.specs.Reply.{fault_in, payloads}
use Rattle.chip_reply.specs.declared.Reply.TheVariants.{BadFrame, BadPage}
use Rattle.chip_state.specs.declared.Chip.{Chip}
use Rattle.claims_before.proofs.Rules.{Both, RulesLike, react-both}
use Rattle.claims_before.specs.Faults.{NoneToldBefore, RunWireAsBefore, SameButFault, WireAsBefore, fault_less, rules_before_faults}
use Rattle.claims_before.specs.Rules.{answers_under, onward_under, run_under, step_under}
use Rattle.claims_runs.proofs.Faults.{Plain, compare_plain, erase-plain, page-plain, sum-plain}
use Rattle.frame.specs.Collector.{heard}
use Rattle.frame.specs.declared.judgement.Judgement.{Judgement}
use Rattle.frame.specs.declared.judgement.Judgement.TheVariants.{Good}
use Rattle.part.specs.declared.Part.{Part}
use Rattle.part.specs.declared.refusal.Refusal.{Refusal}
use Rattle.std.specs.Prelude.{Err, Ok, Result}

-- Two effects that are the same on the wire, of which the second names no fault.
record Wired (x y : Effect) : Type 0 where
  says : (p : Part) (o : Options) → payloads p o x.reply ≡ payloads p o y.reply
  core : x.core ≡ y.core
  memory : x.memory ≡ y.memory
  none : fault_in y.reply ≡ Good

plain-wired : {x : Effect} → Plain x.reply → Wired x x
plain-wired n = record { says = λ p o. refl; core = refl; memory = refl; none = n.none }

frame-wired : (k : Core) (m : Memory) (j : Judgement) → Wired (effect (told (BadFrame j) k) m) (effect (told (rules_before_faults.to_bad_frame j) k) m)
unfolding payloads fault_in
frame-wired k m j = record { says = λ p o. refl; core = refl; memory = refl; none = refl }

page-wired : (k : Core) (m : Memory) (j : Judgement) → Wired (effect (told (BadPage j) k) m) (effect (told (rules_before_faults.to_bad_page j) k) m)
unfolding payloads fault_in
page-wired k m j = record { says = λ p o. refl; core = refl; memory = refl; none = refl }

-- One event: the same on the wire, and no fault told before.
record Steps (o u : Outcome) : Type 0 where
  same : SameButFault o u
  none : u.fault ≡ Good

settled-wired : (w : Result Unit Refusal) (p : Part) (x y : Reaction) (c : Chip) (m : Memory) (room : List ℕ) → Both Wired x y
    → Steps (settled w p x c m room) (settled w p y c m room)
unfolding settled
settled-wired (Err r) p x y c m room b = record { same = record { answer = refl; chip = refl; memory = refl; room = refl }; none = refl }
settled-wired (Ok _) p x y c m room b =
    let e = b.does in
    record {
      same =
          record {
            answer = rw (e.core, e.says p y.does.core.options);
            chip = rw (e.core, b.hears);
            memory = e.memory;
            room = rw (e.core, e.says p y.does.core.options);
          };
      none = e.none;
    }

rules-like : (p : Part) (k : Core) (hs : List ℕ) (v : Event) (m : Memory) → RulesLike rules_before_faults Wired p k hs v m.flash m.sums m.sums
rules-like p k hs v m =
    record {
      same = λ d n. plain-wired n;
      erases = λ x. plain-wired (erase-plain p k x m);
      sums = λ g start end ph q u e. plain-wired (sum-plain p k _ m);
      stores = λ w g q e. plain-wired (page-plain p k w _ _ m);
      compares = λ w g q e. plain-wired (compare_plain k w _ _ _);
      frames = λ c j. frame-wired c m j;
      pages = λ c j. page-wired c m j;
    }

steps : (p : Part) (c : Chip) (v : Event) (m : Memory) (room : List ℕ) → Steps (step_of p c v m room) (step_under rules_before_faults p c v m room)
unfolding step_of step_under
steps p c v m room = settled-wired _ p _ _ c m room (react-both v (rules-like p c.core (heard c.collector) v m))

pub wire-as-before : WireAsBefore
wire-as-before p o v = (steps p o.chip v o.memory o.room).same

pub none-told-before : NoneToldBefore
none-told-before p o v = (steps p o.chip v o.memory o.room).none

-- Runs, from outcomes that differ at most in the fault.
step-wired : (p : Part) (o u : Outcome) (v : Event) → SameButFault o u → Steps (onward p o v) (onward_under rules_before_faults p u v)
step-wired p o u v e = rw (← e.chip, ← e.memory, ← e.room) (steps p o.chip v o.memory o.room)

spoken-wired : {o u : Outcome} → Steps o u → fault_less (spoken_in o) ≡ spoken_in u
spoken-wired e = rw (e.same.answer, e.same.room, e.none)

record Runs (p : Part) (vs : List Event) (o u : Outcome) : Type 0 where
  says : map fault_less (answers p vs o) ≡ answers_under rules_before_faults p vs u
  after : SameButFault (run p vs o) (run_under rules_before_faults p vs u)

runs : (p : Part) (vs : List Event) (o u : Outcome) → SameButFault o u → Runs p vs o u
unfolding answers answers_under run run_under
runs p [] o u e = record { says = refl; after = e }
runs p (v ∷ vs) o u e =
    let n = step-wired p o u v e in
    let q = runs p vs (onward p o v) (onward_under rules_before_faults p u v) n.same in
    record {
      says =
          ap (λ (x : Spoken). x ∷ map fault_less (answers p vs (onward p o v))) (spoken-wired n)
          ∙ ap (λ (xs : List Spoken). spoken_in (onward_under rules_before_faults p u v) ∷ xs) q.says;
      after = q.after;
    }

pub run-wire-as-before : RunWireAsBefore
run-wire-as-before p vs o =
    let q = runs p vs o o (record { answer = refl; chip = refl; memory = refl; room = refl }) in
    record { says = q.says; after = q.after }
