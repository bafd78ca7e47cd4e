-- A good state stays good: after any event the next call is accepted, and so after any run.
-- Assumes nothing.
use mathlib.Core.Bool.{false, true}
use mathlib.Core.List.{List, [], ◌∷◌}
use mathlib.Core.Path.{◌∙◌, ◌≡◌, ap, refl, sym}
use Prim.Native.Nat.{◌<◌, ◌≤◌, ℕ}
use native.Mathlib.Omega.{arith}
use lib.ListN.{get_or, length}
use borrow.Author.Tests.{eqb-true}
use Rattle.chip.specs.Run.{onward, run}
use Rattle.chip.specs.Step.{Outcome, Reaction, byte_in, heard_byte, react_to, reaction, settled, step_of}
use Rattle.chip_frame.specs.Does.{frame_does, mode_byte, silent}
use Rattle.chip_state.specs.Refusals.{good_begun, good_collected, good_core, good_phase, good_state}
use Rattle.chip.specs.declared.Event.{Event}
use Rattle.chip.specs.declared.Event.TheVariants.{Byte, Gap, PowerOn}
use Rattle.claims_good.proofs.Collected.{Holds, begins-good, below-hear, below-heard, good-begins, hear-begins, holds}
use Rattle.claims_good.proofs.Core.{GoodCore, core_is, enters, is-core}
use Rattle.claims_good.proofs.Effects.{Keeps, command-keeps, data-keeps, stays-so}
use Rattle.chip_state.proofs.Laws.{accepted, accepts, begun, none-good}
use Rattle.claims_good.specs.Good.{AllProper, Proper, Stands, a_byte, a_gap, a_power_on, and_event, verdict_in}
use Rattle.chip_core.specs.Hearing.{hearing}
use Rattle.chip_core.specs.Effect.{Effect, Memory}
use Rattle.chip_core.specs.declared.Core.{Core}
use Rattle.chip_core.specs.declared.Phase.{Phase}
use Rattle.chip_core.specs.declared.Phase.TheVariants.{Awaiting, ModeByte, Ready, Setup}
use Rattle.frame.proofs.Laws.Collector.{hear-long, heard-holding, heard-none, length-heard}
use Rattle.frame.proofs.Laws.Sum.{Below, none}
use Rattle.frame.specs.Collector.{hear, heard, holding}
use Rattle.frame.specs.Frame.{complete}
use Rattle.frame.specs.declared.Header.{Header}
use Rattle.frame.specs.declared.Header.TheVariants.{Command, Data}
use Rattle.frame.specs.declared.collector.Collector.{Collector}
use Rattle.part.specs.Part.{described}
use Rattle.part.specs.declared.Part.{Part}
use Rattle.part.specs.declared.refusal.Refusal.{Refusal}
use Rattle.std.specs.Prelude.{Ok, Result}
use Rattle.chip_reply.proofs.Laws.{reply-long, said-keeps}
use Rattle.chip_reply.specs.Reply.{payloads, said_of}
use Rattle.words.proofs.Laws.{and_both, and_left, and_right, if-all}

-- What a reaction leaves makes a good state again.
record Reacts (p : Part) (c : Collector) (m : Memory) (x : Reaction) : Type 0 where
  keeps : Keeps p m x.does
  holds : Holds c x.hears
  collected :
      good_collected (hearing x.does.core.phase) (holding c x.hears).len (get_or (holding c x.hears).bytes 0 0) (get_or (holding c x.hears).bytes 1 0) ≡ true

module _ (p : Part) (c : Collector) (m : Memory) (k : Core) (places : length c.bytes ≡ 260) (bytes : Below 256 c.bytes) (part : described p ≡ true)
    (good : GoodCore p k)
    (now : good_collected (hearing k.phase) c.len (get_or c.bytes 0 0) (get_or c.bytes 1 0) ≡ true) where
  -- Nothing is collected.
  forgets : (x : Effect) → Keeps p m x → Reacts p c m (reaction [] x)
  unfolding holding
  forgets x g = record { keeps = g; holds = holds c [] places bytes none (omega arith); collected = none-good _ _ _ }

  -- A byte while a frame with the header h is awaited.
  listens : (h : Header) (b : ℕ) (x : Effect) → b < 256 → ((n i l : ℕ) → good_collected (hearing k.phase) n i l ≡ good_begun h n i l) → Keeps p m x
      → Reacts p c m (heard_byte (hear h (heard c) b) x k m)
  unfolding heard_byte
  listens h b x small e g = if-all (Reacts p c m) _ (λ t. forgets x g) (λ t. goes_on t)
    where
      was : good_begun h c.len (get_or c.bytes 0 0) (get_or c.bytes 1 0) ≡ true
      was = sym (e _ _ _) ∙ now

      short : length (hear h (heard c) b) ≤ 260
      short =
          let w : c.len < 260 = (begun h c places was).within in
          omega (arith, hear-long h (heard c) b, length-heard c (omega arith))

      held : Holds c (hear h (heard c) b)
      held = holds c (hear h (heard c) b) places bytes (below-hear h (heard c) b small (below-heard c bytes)) short

      goes_on : complete (hear h (heard c) b) ≡ false → Reacts p c m (reaction (hear h (heard c) b) (silent k m))
      goes_on t =
          let d : Collector = holding c (hear h (heard c) b) in
          let q : heard d ≡ hear h (heard c) b = heard-holding c (hear h (heard c) b) in
          record {
            keeps = stays-so m good;
            holds = held;
            collected =
                e _ _ _
                ∙ begins-good h d held.places held.within held.bytes (rw q (hear-begins h (heard c) b (good-begins h c places was))) (rw q t);
          }

  byte-reacts : (f : Phase) (b : ℕ) → b < 256 → k.phase ≡ f → Reacts p c m (byte_in (hearing f) p k (heard c) b m)
  unfolding byte_in frame_does hearing good_collected good_phase mode_byte
  byte-reacts ModeByte b h e =
      let z : c.len ≡ 0 = eqb-true _ _ (ap (λ (g : Phase). good_collected (hearing g) c.len (get_or c.bytes 0 0) (get_or c.bytes 1 0)) (sym e) ∙ now) in
      rw (heard-none c z) (forgets _ (stays-so m (if-all (GoodCore p) _ (λ t. enters Setup good refl) (λ t. good))))
  byte-reacts Setup b h e = listens Command b _ h (λ n i l. ap (λ (g : Phase). good_collected (hearing g) n i l) e) (command-keeps p k part good _ m)
  byte-reacts Ready b h e = listens Command b _ h (λ n i l. ap (λ (g : Phase). good_collected (hearing g) n i l) e) (command-keeps p k part good _ m)
  byte-reacts (Awaiting w) b h e =
      listens Data b _ h (λ n i l. ap (λ (g : Phase). good_collected (hearing g) n i l) e)
      (data-keeps p k part good w (ap (λ (g : Phase). good_phase p g) (sym e) ∙ good.phase) _ m)

  reacts : (v : Event) → Proper v → Reacts p c m (react_to v p k (heard c) m)
  unfolding react_to good_phase
  reacts (Byte b) (a_byte h) = byte-reacts k.phase b h refl
  reacts Gap a_gap = forgets _ (stays-so m good)
  reacts PowerOn a_power_on = forgets _ (stays-so m (record { rate = omega arith; options = good.options; phase = refl }))

-- An accepted call is settled by what the event does.
pub onward-is : (p : Part) (o : Outcome) (v : Event) → verdict_in p o ≡ Ok tt
    → onward p o v ≡ settled (Ok tt) p (react_to v p o.chip.core (heard o.chip.collector) o.memory) o.chip o.memory o.room
unfolding step_of
onward-is p o v e =
    ap (λ (w : Result Unit Refusal). settled w p (react_to v p o.chip.core (heard o.chip.collector) o.memory) o.chip o.memory o.room) e

settled-stands : (p : Part) (o : Outcome) (x : Reaction) → Stands p o → Reacts p o.chip.collector o.memory x
    → Stands p (settled (Ok tt) p x o.chip o.memory o.room)
unfolding settled good_state
settled-stands p o x s r =
    let a = accepts s.accepted in
    let n = s.arrays in
    let l : length (said_of (payloads p x.does.core.options x.does.reply) o.room).room ≡ length o.room =
    said-keeps _ o.room (omega (arith, a.roomy, reply-long p x.does.core.options x.does.reply n.device_long n.name_long n.version_long)) in
    record {
      accepted =
          accepted (record {
            part = a.part;
            code_long = r.keeps.code ∙ a.code_long;
            data_long = r.keeps.extra ∙ a.data_long;
            state = and_both r.collected (is-core r.keeps.good);
            roomy = rw l a.roomy;
          });
      places = r.holds.places;
      bytes = r.holds.bytes;
      arrays = n;
    }

-- After an event the next call is accepted.
pub stays : (p : Part) (o : Outcome) (v : Event) → Stands p o → Proper v → Stands p (onward p o v)
unfolding good_state
stays p o v s q =
    let a = accepts s.accepted in
    let c = o.chip.collector in
    rw (onward-is p o v s.accepted)
    (settled-stands p o _ s
    (reacts p c o.memory o.chip.core s.places s.bytes a.part (core_is p o.chip.core (and_right _ _ a.state))
    (and_left _ (good_core p o.chip.core) a.state) v q))

-- And so after any run.
pub run-stands : (p : Part) (vs : List Event) (o : Outcome) → Stands p o → AllProper vs → Stands p (run p vs o)
unfolding run
run-stands p [] o s q = s
run-stands p (v ∷ vs) o s (and_event h q) = run-stands p vs (onward p o v) (stays p o v s h) q
