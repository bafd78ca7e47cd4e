-- One sound, as the chip hears it and as the framing rule hears it: they complete the same frames, and a frame does its work.
-- Assumes nothing.
use mathlib.Core.Bool.{Bool, false, true}
use mathlib.Core.List.{List, [], ◌∷◌}
use mathlib.Core.Path.{◌∙◌, ◌≡◌, ap, refl, sym}
use Prim.Native.Nat.{ℕ}
use lib.ListN.{length}
use Rattle.claims_fed.specs.Fed.{does}
use Rattle.chip.specs.Run.{onward, spoken_in}
use Rattle.chip.specs.Step.{Outcome, Reaction, byte_in, heard_byte, react_to, reaction}
use Rattle.chip_frame.specs.Does.{silent}
use Rattle.claims_frame.proofs.Framing.{Agree, Same, step-agrees}
use Rattle.claims_frame.specs.Collecting.{Collected, collects_on, take-up}
use Rattle.claims_good.proofs.Collected.{holds}
use Rattle.claims_good.proofs.Rooms.{leaves, reaction_of, says-reaction, utterance_of}
use Rattle.claims_good.specs.Good.{Stands, uttered}
use Rattle.claims_fed.specs.Awaits.{AwaitsFrame, command, event_of, header_in, in_ready, in_setup, page}
use Rattle.chip_core.specs.Hearing.{hearing}
use Rattle.chip_core.specs.Effect.{Effect, Memory}
use Rattle.chip_core.specs.declared.Core.{Core}
use Rattle.chip_core.specs.declared.Phase.{Phase}
use Rattle.chip_core.specs.declared.Phase.TheVariants.{Awaiting, Ready, Setup}
use Rattle.frame.specs.Collector.{hear, heard}
use Rattle.frame.specs.Frame.{complete}
use Rattle.frame.specs.Framing.{Framing, Sound, byte, framing, gap}
use Rattle.frame.specs.declared.Header.TheVariants.{Command, Data}
use Rattle.part.specs.declared.Part.{Part}
use Rattle.words.specs.Words.{if◌then◌otherwise◌}

-- What a chip makes of what its collector has: x is what a complete frame does.
by_taken : List (List ℕ) → (List ℕ → Effect) → Core → Memory → List ℕ → Reaction
by_taken [] x k m hs = reaction hs (silent k m)
by_taken (f ∷ fs) x k m hs = reaction hs (x f)

collected_by : (List ℕ → Effect) → Core → Memory → Collected → Reaction
collected_by x k m c = by_taken c.taken x k m c.holds

heard-collects : (hs : List ℕ) (x : List ℕ → Effect) (k : Core) (m : Memory) → heard_byte hs (x hs) k m ≡ collected_by x k m (take-up hs)
unfolding heard_byte take-up if◌then◌otherwise◌ collected_by by_taken
heard-collects hs x k m = go (complete hs)
  where
    go : (t : Bool) → (if t then reaction [] (x hs) otherwise reaction hs (silent k m))
        ≡ collected_by x k m (if t then record { holds = []; taken = hs ∷ [] } otherwise record { holds = hs; taken = [] })
    go true = refl
    go false = refl

byte-collects : (f : Phase) (p : Part) (k : Core) (hs : List ℕ) (m : Memory) (b : ℕ) → AwaitsFrame f
    → byte_in (hearing f) p k hs b m ≡ collected_by (does f p k m) k m (collects_on (header_in f) hs (byte b))
unfolding byte_in hearing collects_on does
byte-collects f p k hs m b (command in_setup) = heard-collects (hear Command hs b) (does Setup p k m) k m
byte-collects f p k hs m b (command in_ready) = heard-collects (hear Command hs b) (does Ready p k m) k m
byte-collects f p k hs m b (page w) = heard-collects (hear Data hs b) (does (Awaiting w) p k m) k m

react-collects : (p : Part) (k : Core) (hs : List ℕ) (m : Memory) (v : Sound) → AwaitsFrame k.phase
    → react_to (event_of v) p k hs m ≡ collected_by (does k.phase p k m) k m (collects_on (header_in k.phase) hs v)
unfolding react_to collects_on collected_by by_taken
react-collects p k hs m gap a = refl
react-collects p k hs m (byte b) a = byte-collects k.phase p k hs m b a

-- What a sound leaves, where x is what was done.
pub record Went (p : Part) (u : Outcome) (v : Sound) (w : Framing) (x : Effect) : Type 0 where
  pub core : (onward p u (event_of v)).chip.core ≡ x.core
  pub memory : (onward p u (event_of v)).memory ≡ x.memory
  pub count : (onward p u (event_of v)).chip.collector.len ≡ length (heard (onward p u (event_of v)).chip.collector)
  pub same : Same (framing (header_in u.chip.core.phase) w v).stands (heard (onward p u (event_of v)).chip.collector)
  pub says : uttered (spoken_in (onward p u (event_of v))) ≡ utterance_of p (reaction [] x)

pub data Stepped (p : Part) (u : Outcome) (v : Sound) (w : Framing) : Type 0 where
  only_heard : (framing (header_in u.chip.core.phase) w v).done ≡ [] → Went p u v w (silent u.chip.core u.memory) → Stepped p u v w
  frame_done : (f : List ℕ) (fs : List (List ℕ)) → (framing (header_in u.chip.core.phase) w v).done ≡ f ∷ fs
      → Went p u v w (does u.chip.core.phase p u.chip.core u.memory f) → Stepped p u v w

module _ (p : Part) (u : Outcome) (v : Sound) (w : Framing) (s : Stands p u) (a : AwaitsFrame u.chip.core.phase) (m : Same w (heard u.chip.collector)) where
  agrees : Agree (framing (header_in u.chip.core.phase) w v) (collects_on (header_in u.chip.core.phase) (heard u.chip.collector) v)
  agrees = step-agrees (header_in u.chip.core.phase) v m

  went : (x : Effect)
      → reaction_of p u (event_of v) ≡ reaction (collects_on (header_in u.chip.core.phase) (heard u.chip.collector) v).holds x
      → Went p u v w x
  unfolding utterance_of
  went x e =
      let l = leaves p u (event_of v) s in
      record {
        core = l.core ∙ ap (λ (r : Reaction). r.does.core) e;
        memory = l.memory ∙ ap (λ (r : Reaction). r.does.memory) e;
        count = l.count ∙ ap length (sym l.hears);
        same = rw (l.hears ∙ ap (λ (r : Reaction). r.hears) e) agrees.stands;
        says = says-reaction p u (event_of v) s ∙ ap (utterance_of p) e;
      }

  reacts-so : (fs : List (List ℕ)) → (collects_on (header_in u.chip.core.phase) (heard u.chip.collector) v).taken ≡ fs
      → reaction_of p u (event_of v)
      ≡ by_taken fs (does u.chip.core.phase p u.chip.core u.memory) u.chip.core u.memory
      (collects_on (header_in u.chip.core.phase) (heard u.chip.collector) v).holds
  unfolding reaction_of collected_by
  reacts-so fs e =
      react-collects p u.chip.core (heard u.chip.collector) u.memory v a
      ∙ ap
      (λ (gs : List (List ℕ)). by_taken gs (does u.chip.core.phase p u.chip.core u.memory) u.chip.core u.memory
      (collects_on (header_in u.chip.core.phase) (heard u.chip.collector) v).holds)
      e

  pub stepped : Stepped p u v w
  unfolding by_taken
  stepped = go (collects_on (header_in u.chip.core.phase) (heard u.chip.collector) v).taken refl
    where
      go : (fs : List (List ℕ)) → (collects_on (header_in u.chip.core.phase) (heard u.chip.collector) v).taken ≡ fs → Stepped p u v w
      go [] e = only_heard (agrees.done ∙ e) (went _ (reacts-so [] e))
      go (f ∷ fs) e = frame_done f fs (agrees.done ∙ e) (went _ (reacts-so (f ∷ fs) e))
