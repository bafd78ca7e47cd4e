-- Chips that are alike, through runs: the same is said, and what is alike to a chip that stands is accepted too (document 01, "Refusal numbers").
-- Assumes nothing.
use mathlib.Core.Bool.{false, true}
use mathlib.Core.List.{List, [], ◌∷◌}
use mathlib.Core.Path.{◌∙◌, ◌≡◌, ap, refl, sym}
use Prim.Native.Nat.{◌*◌, ◌<◌, ◌≤◌, ℕ}
use native.Mathlib.Omega.{arith}
use lib.ListN.{get_or, length, length-append, length-take}
use Rattle.chip.specs.Run.{Spoken, answers, bytes_said, heard_back, onward, run, spoken_in}
use Rattle.chip.specs.Step.{Outcome}
use Rattle.chip.specs.declared.Event.{Event}
use Rattle.chip_core.specs.Hearing.{hearing}
use Rattle.chip_core.specs.declared.Core.{Core}
use Rattle.chip_core.specs.declared.Hearing.{Hearing}
use Rattle.chip_core.specs.declared.Hearing.TheVariants.{HearsCommands, HearsData, HearsNothing}
use Rattle.chip_state.proofs.Laws.{accepted, accepts, begun, command-collected, data-collected, good-within, heard-good, none-collected, none-good, state-collected}
use Rattle.chip_state.specs.Refusals.{good_begun, good_collected, good_core, good_heard, good_state}
use Rattle.claims_engine.proofs.Laws.{HearsFor, for_commands, for_data}
use Rattle.claims_engine.proofs.Steps.{part-good}
use Rattle.claims_good.proofs.Collected.{Begins, below-heard, good-begins}
use Rattle.claims_good.proofs.Collected as Begins
use Rattle.claims_good.proofs.Rooms.{alike-onward, alike-says}
use Rattle.claims_good.proofs.Stays.{stays}
use Rattle.claims_good.specs.Good.{Alike, AllAnswered, AllProper, Stands, Utterance, and_answer, and_event, no_answer, utterances, uttered}
use Rattle.frame.proofs.Laws.Collector.{heard-none, length-heard}
use Rattle.frame.proofs.Laws.Sum.{Below}
use Rattle.frame.specs.Collector.{heard}
use Rattle.frame.specs.Frame.{complete}
use Rattle.frame.specs.declared.Header.{Header}
use Rattle.frame.specs.declared.Header.TheVariants.{Command, Data}
use Rattle.frame.specs.declared.collector.Collector.{Collector}
use Rattle.part.specs.declared.Part.{Part}
use Rattle.words.proofs.Laws.{and_both, and_right}

-- What a chip that stands has collected.
module _ (p : Part) (o : Outcome) (s : Stands p o) where
  collected : good_collected (hearing o.chip.core.phase) o.chip.collector.len (get_or o.chip.collector.bytes 0 0) (get_or o.chip.collector.bytes 1 0) ≡ true
  collected = state-collected p o.chip.core _ _ _ (hearing o.chip.core.phase) (accepts s.accepted).state refl

  pub few : o.chip.collector.len < 260
  few = good-within _ _ _ _ collected

  pub counts : length (heard o.chip.collector) ≡ o.chip.collector.len
  counts = let k = few in length-heard o.chip.collector (omega (arith, s.places))

begins-heard : (f : Hearing) (h : Header) (c : Collector) → HearsFor f h → length c.bytes ≡ 260 → Below 256 c.bytes
    → good_begun h c.len (get_or c.bytes 0 0) (get_or c.bytes 1 0) ≡ true → good_collected f (length (heard c)) (get_or (heard c) 0 0) (get_or (heard c) 1 0) ≡ true
begins-heard f h c w l b g = go (heard c) (good-begins h c l g) (begun h c l g).lacks (below-heard c b)
  where
    go : (hs : List ℕ) → Begins h hs → complete hs ≡ false → Below 256 hs → good_collected f (length hs) (get_or hs 0 0) (get_or hs 1 0) ≡ true
    go [] Begins.nothing q b = none-good f _ _
    go (x ∷ xs) (Begins.header y ys e) q b = part-good f h (x ∷ xs) w e q b

pub heard-is-good : (p : Part) (o : Outcome) → Stands p o → good_heard o.chip.core.phase (heard o.chip.collector) ≡ true
heard-is-good p o s = go (hearing o.chip.core.phase) (collected p o s)
  where
    go : (f : Hearing) → good_collected f o.chip.collector.len (get_or o.chip.collector.bytes 0 0) (get_or o.chip.collector.bytes 1 0) ≡ true
        → good_collected f (length (heard o.chip.collector)) (get_or (heard o.chip.collector) 0 0) (get_or (heard o.chip.collector) 1 0) ≡ true
    go HearsNothing g = rw (heard-none o.chip.collector (none-collected _ _ _ g)) (none-good HearsNothing _ _)
    go HearsCommands g = begins-heard HearsCommands Command o.chip.collector for_commands s.places s.bytes (sym (command-collected _ _ _) ∙ g)
    go (HearsData w) g = begins-heard (HearsData w) Data o.chip.collector (for_data w) s.places s.bytes (sym (data-collected w _ _ _) ∙ g)

-- What is alike to it is accepted, whatever its spare bytes and in any room of 32 bytes.
pub alike-stands : (p : Part) (o u : Outcome) → Stands p o → Alike o u → length u.chip.collector.bytes ≡ 260 → Below 256 u.chip.collector.bytes
    → 32 ≤ length u.room → Stands p u
unfolding good_state
alike-stands p o u s a l b r =
    let q = accepts s.accepted in
    let g : good_heard u.chip.core.phase (heard u.chip.collector) ≡ true = rw (← a.core, ← a.hears) (heard-is-good p o s) in
    let k = few p o s in
    record {
      accepted =
          accepted (record {
            part = q.part;
            code_long = rw a.memory at q.code_long;
            data_long = rw a.memory at q.data_long;
            state =
                and_both (heard-good (hearing u.chip.core.phase) u.chip.collector (omega (arith, a.count)) g)
                (ap (λ (c : Core). good_core p c) (sym a.core) ∙ and_right _ _ q.state);
            roomy = r;
          });
      places = l;
      bytes = b;
      arrays = s.arrays;
    }

-- Runs of two chips that are alike.
pub record SameRun (p : Part) (vs : List Event) (o u : Outcome) : Type 0 where
  pub alike : Alike (run p vs o) (run p vs u)
  pub says : utterances p vs o ≡ utterances p vs u

pub alike_runs : (p : Part) (vs : List Event) (o u : Outcome) → Stands p o → Stands p u → AllProper vs → Alike o u → SameRun p vs o u
unfolding run utterances answers
alike_runs p [] o u s t q a = record { alike = a; says = refl }
alike_runs p (v ∷ vs) o u s t (and_event h q) a =
    let r = alike_runs p vs (onward p o v) (onward p u v) (stays p o v s h) (stays p u v t h) q (alike-onward p o u v s t a) in
    record {
      alike = r.alike;
      says =
          ap (λ (x : Utterance). x ∷ utterances p vs (onward p o v)) (alike-says p o u v s t a)
          ∙ ap (λ (xs : List Utterance). uttered (spoken_in (onward p u v)) ∷ xs) r.says;
    }

-- "The longest reply has 31" bytes, and there is one answer to each event.
pub back-short : {ss : List Spoken} → AllAnswered ss → length (heard_back ss) ≤ 31 * length ss
unfolding heard_back
back-short no_answer = omega arith
back-short (and_answer {s} {ss} a r) =
    let i = back-short r in
    let k : length (bytes_said s.answer s.room) ≤ 31 = rw a.replied (omega (arith, a.short, length-take a.count s.room)) in
    rw length-append (omega arith)

pub answers-long : (p : Part) (vs : List Event) (o : Outcome) → length (answers p vs o) ≡ length vs
unfolding answers
answers-long p [] o = refl
answers-long p (v ∷ vs) o = rw (answers-long p vs (onward p o v))
