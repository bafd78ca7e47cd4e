-- Feeding bytes to a chip that stands, by what the engine finds at the front (document 02, §7): a mode byte, a byte before a header, a whole frame, and bytes that are
-- only held.
-- Assumes nothing.
use mathlib.Core.Bool.{false, not, true}
use mathlib.Core.List.{List, [], ◌++◌, ◌∷◌, append-nil, map}
use mathlib.Core.Path.{◌∙◌, ◌≡◌, ap, refl, sym}
use Prim.Native.Nat.{◌<◌, ℕ}
use native.Mathlib.Omega.{arith}
use lib.Dec.{eqb}
use lib.ListN.{get_or, length, length-append, replicate}
use lib.Seq.{append_snoc}
use borrow.Author.Tests.{eq-eqb, lt-ltb, ne_eqb}
use Rattle.chip.proofs.Adding.{after}
use Rattle.chip.proofs.Quiet.{byte-fronts}
use Rattle.chip.specs.Run.{answers, before, onward, run, spoken_in}
use Rattle.chip.specs.Step.{Outcome, Reaction, byte_in, heard_byte, react_to, reaction}
use Rattle.chip.specs.declared.Event.TheVariants.{Byte}
use Rattle.chip_core.specs.Hearing.{hearing}
use Rattle.chip_core.specs.declared.Core.{Core}
use Rattle.chip_core.specs.declared.Hearing.{Hearing}
use Rattle.chip_core.specs.declared.Hearing.TheVariants.{HearsNothing}
use Rattle.chip_core.specs.declared.Phase.{Phase}
use Rattle.chip_core.specs.declared.Phase.TheVariants.{Awaiting, ModeByte, Ready, Setup}
use Rattle.chip_frame.specs.Does.{mode_byte, silent}
use Rattle.chip_state.proofs.Laws.{accepts, collected-cut, good-within, state-collected}
use Rattle.chip_state.specs.Refusals.{good_begun, good_collected, good_heard}
use Rattle.claims_engine.proofs.Laws.{HearsFor, for_commands, for_data}
use Rattle.claims_fed.proofs.Frames.{silent-says}
use Rattle.claims_fed.specs.Awaits.{AwaitsFrame, command, header_in, in_ready, in_setup, page}
use Rattle.claims_fed.specs.Fed.{silence}
use Rattle.claims_good.proofs.Rooms.{leaves, reaction_of, says-reaction, utterance_of}
use Rattle.claims_good.proofs.Stays.{stays}
use Rattle.claims_good.specs.Good.{Stands, Utterance, a_byte, utterances, uttered}
use Rattle.frame.proofs.Laws.Collector.{added-holds, heard-holding, heard-none}
use Rattle.frame.proofs.Laws.Frame.{counted-small, full-room}
use Rattle.frame.proofs.Laws.Sum.{Below, below_at, more}
use Rattle.frame.specs.Collector.{hear, heard}
use Rattle.frame.specs.Frame.{complete, full, header_byte}
use Rattle.frame.specs.declared.Header.{Header}
use Rattle.part.specs.declared.Part.{Part}
use Rattle.words.proofs.Laws.{and_both, or_right}
use Rattle.words.specs.Words.{◌and◌, if◌then◌otherwise◌}

-- The phase awaits a frame with the header that it hears.
pub record Awaits (f : Phase) (h : Header) : Type 0 where
  pub frame : AwaitsFrame f
  pub header : header_in f ≡ h

pub awaits-for : (f : Phase) (h : Header) → HearsFor (hearing f) h → Awaits f h
unfolding hearing
awaits-for ModeByte h k = elim k [ ]
awaits-for Setup h for_commands = record { frame = command in_setup; header = refl }
awaits-for Ready h for_commands = record { frame = command in_ready; header = refl }
awaits-for (Awaiting w) h (for_data x) = record { frame = page w; header = refl }

-- A byte that is answered by nothing and leaves nothing collected; k is the record after it.
pub record Passes (p : Part) (o : Outcome) (b : ℕ) (k : Core) : Type 0 where
  pub core : (onward p o (Byte b)).chip.core ≡ k
  pub memory : (onward p o (Byte b)).memory ≡ o.memory
  pub count : (onward p o (Byte b)).chip.collector.len ≡ 0
  pub says : uttered (spoken_in (onward p o (Byte b))) ≡ silence

passes : (p : Part) (o : Outcome) (b : ℕ) (k : Core) → Stands p o → reaction_of p o (Byte b) ≡ reaction [] (silent k o.memory) → Passes p o b k
passes p o b k s e =
    let l = leaves p o (Byte b) s in
    record {
      core = l.core ∙ ap (λ (x : Reaction). x.does.core) e;
      memory = l.memory ∙ ap (λ (x : Reaction). x.does.memory) e;
      count = l.count ∙ ap (λ (x : Reaction). length x.hears) e;
      says = says-reaction p o (Byte b) s ∙ ap (utterance_of p) e ∙ silent-says p k o.memory;
    }

pub mode-passes : (p : Part) (o : Outcome) (b : ℕ) → Stands p o → o.chip.collector.len ≡ 0 → hearing o.chip.core.phase ≡ HearsNothing
    → Passes p o b (mode_byte o.chip.core b)
unfolding reaction_of react_to byte_in
mode-passes p o b s n f = passes p o b (mode_byte o.chip.core b) s (rw (f, heard-none o.chip.collector n))

hear-skips : (h : Header) (b : ℕ) → (b ≡ header_byte h → ⊥) → hear h [] b ≡ []
unfolding hear if◌then◌otherwise◌
hear-skips h b n = simp (ne_eqb b (header_byte h) n)

pub skip-passes : (p : Part) (o : Outcome) (h : Header) (b : ℕ) → Stands p o → o.chip.collector.len ≡ 0 → HearsFor (hearing o.chip.core.phase) h
    → (b ≡ header_byte h → ⊥) → Passes p o b o.chip.core
unfolding reaction_of react_to byte_in heard_byte complete full ◌and◌ if◌then◌otherwise◌
skip-passes p o h b s n w g = passes p o b o.chip.core s (rw (heard-none o.chip.collector n) (go (hearing o.chip.core.phase) h w g))
  where
    go : (f : Hearing) (i : Header) → HearsFor f i → (b ≡ header_byte i → ⊥) → byte_in f p o.chip.core [] b o.memory ≡ reaction [] (silent o.chip.core o.memory)
    go f i for_commands g = rw (hear-skips i b g)
    go f i (for_data w) g = rw (hear-skips i b g)

-- Bytes begun by the header that is heard, fewer than the frame begun needs, are good where they are collected.
pub part-good : (f : Hearing) (h : Header) (bs : List ℕ) → HearsFor f h → get_or bs 0 0 ≡ header_byte h → complete bs ≡ false → Below 256 bs
    → good_collected f (length bs) (get_or bs 0 0) (get_or bs 1 0) ≡ true
unfolding good_collected good_begun complete
part-good f h bs w e c b = go f h w e
  where
    begun : (i : Header) → get_or bs 0 0 ≡ header_byte i → good_begun i (length bs) (get_or bs 0 0) (get_or bs 1 0) ≡ true
    begun i e =
        let k : length bs < 260 = full-room (length bs) (get_or bs 1 0) c (counted-small _ (below_at 1 (omega arith) b)) in
        or_right (eqb (length bs) 0) (and_both (lt-ltb (length bs) 260 k) (and_both (eq-eqb _ _ e) (ap not c)))

    go : (f : Hearing) (i : Header) → HearsFor f i → get_or bs 0 0 ≡ header_byte i → good_collected f (length bs) (get_or bs 0 0) (get_or bs 1 0) ≡ true
    go f i for_commands e = begun i e
    go f i (for_data w) e = begun i e

-- Bytes after which what is collected is still the front of a frame that is awaited: they are held, and answered by nothing.
pub record Keeps (p : Part) (o : Outcome) (ts : List ℕ) : Type 0 where
  pub core : (run p (map Byte ts) o).chip.core ≡ o.chip.core
  pub memory : (run p (map Byte ts) o).memory ≡ o.memory
  pub hears : heard (run p (map Byte ts) o).chip.collector ≡ heard o.chip.collector ++ ts
  pub says : utterances p (map Byte ts) o ≡ replicate (length ts) silence

module _ (p : Part) (o : Outcome) (b : ℕ) (ts : List ℕ) (s : Stands p o) (g : good_heard o.chip.core.phase (heard o.chip.collector ++ b ∷ ts) ≡ true) where
  front_cut : good_heard o.chip.core.phase (heard o.chip.collector ++ b ∷ []) ≡ true
  front_cut =
      collected-cut (hearing o.chip.core.phase) (heard o.chip.collector ++ b ∷ []) ts (rw length-append (omega arith)) (rw append_snoc g)

  within : o.chip.collector.len < 260
  within = good-within _ _ _ _ (state-collected p o.chip.core _ _ _ (hearing o.chip.core.phase) (accepts s.accepted).state refl)

  pub holds_on : onward p o (Byte b) ≡ before (after o.chip b) o.memory o.room
  holds_on = sym (byte-fronts p o.chip o.memory o.room b s.places s.accepted front_cut)

  hears-on : heard (onward p o (Byte b)).chip.collector ≡ heard o.chip.collector ++ b ∷ []
  hears-on =
      ap (λ (u : Outcome). heard u.chip.collector) holds_on ∙ ap heard (added-holds o.chip.collector (b ∷ []) (omega (arith, within)))
      ∙ heard-holding o.chip.collector (heard o.chip.collector ++ b ∷ [])

  rest-good : good_heard (onward p o (Byte b)).chip.core.phase (heard (onward p o (Byte b)).chip.collector ++ ts) ≡ true
  rest-good =
      let e : (onward p o (Byte b)).chip.core.phase ≡ o.chip.core.phase = ap (λ (u : Outcome). u.chip.core.phase) holds_on in
      rw (hears-on, e, append_snoc) g

  keeps_on : Keeps p (onward p o (Byte b)) ts → Keeps p o (b ∷ ts)
  unfolding run utterances answers
  keeps_on r =
      let e = holds_on in
      record {
        core = r.core ∙ ap (λ (u : Outcome). u.chip.core) e;
        memory = r.memory ∙ ap (λ (u : Outcome). u.memory) e;
        hears = r.hears ∙ rw (hears-on, append_snoc);
        says =
            ap (λ (u : Outcome). uttered (spoken_in u) ∷ utterances p (map Byte ts) (onward p o (Byte b))) e
            ∙ ap (λ (us : List Utterance). silence ∷ us) r.says;
      }

pub keeps : (p : Part) (ts : List ℕ) (o : Outcome) → Stands p o → Below 256 ts → good_heard o.chip.core.phase (heard o.chip.collector ++ ts) ≡ true → Keeps p o ts
unfolding run utterances answers
keeps p [] o s b g = record { core = refl; memory = refl; hears = sym (append-nil _); says = refl }
keeps p (b ∷ ts) o s (more k r) g =
    keeps_on p o b ts s g (keeps p ts (onward p o (Byte b)) (stays p o (Byte b) s (a_byte k)) r (rest-good p o b ts s g))
