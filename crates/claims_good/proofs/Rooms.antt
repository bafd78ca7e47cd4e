-- From a chip that stands no call is refused, and what is said depends neither on the room that was lent for it nor on the collector's spare bytes.
-- Assumes nothing.
use mathlib.Core.List.{List, [], ◌∷◌}
use mathlib.Core.Path.{◌∙◌, ◌≡◌, ap, refl, sym}
use Prim.Native.Nat.{◌≤◌, ℕ}
use lib.ListN.{drop, length}
use lib.Seq.{take-append_seam}
use Rattle.chip.specs.Run.{answers, bytes_said, onward, spoken_in}
use Rattle.chip.specs.Step.{Outcome, Reaction, react_to, replied, settled}
use Rattle.std.specs.Prelude.{Ok}
use Rattle.chip_state.specs.declared.Chip.{Chip}
use Rattle.chip.specs.declared.Event.{Event}
use Rattle.claims_good.proofs.Stays.{onward-is, stays}
use Rattle.chip_state.proofs.Laws.{accepted, accepts}
use Rattle.claims_good.specs.Good.{Alike, AllAnswered, AllProper, Answered, SameChip, SameStep, Stands, Utterance, and_answer, and_event, no_answer, no_event, uttered}
use Rattle.chip_core.specs.Effect.{Memory}
use Rattle.chip_core.specs.declared.Core.{Core}
use Rattle.frame.proofs.Laws.Collector.{heard-holding}
use Rattle.frame.specs.Collector.{heard, holding}
use Rattle.frame.specs.Framing.{frames}
use Rattle.part.specs.declared.Part.{Part}
use Rattle.chip_reply.proofs.Laws.{reply-long, said-lands}
use Rattle.chip_reply.specs.Reply.{Said, fault_in, frames_of, payloads, said, sent_as}

-- What a reaction says.
unfoldable pub utterance_of : Part → Reaction → Utterance
utterance_of p x =
    let rs = payloads p x.does.core.options x.does.reply in
    record { answer = Ok (sent_as (length (frames_of rs)) (length rs)); fault = fault_in x.does.reply; bytes = frames_of rs }

settled-utters : (p : Part) (x : Reaction) (c : Chip) (m : Memory) (room : List ℕ) → 32 ≤ length room
    → uttered (spoken_in (settled (Ok tt) p x c m room)) ≡ utterance_of p x
unfolding settled utterance_of
settled-utters p x c m room h =
    let rs = payloads p x.does.core.options x.does.reply in
    let j = fault_in x.does.reply in
    ap {B = Utterance} (λ (z : Said). record { answer = replied z.sent; fault = j; bytes = bytes_said (replied z.sent) z.room }) (said-lands rs room)
    ∙ ap {B = Utterance} (λ (l : List ℕ). record { answer = Ok (sent_as (length (frames_of rs)) (length rs)); fault = j; bytes = l })
    (take-append_seam (frames_of rs) (drop (length (frames_of rs)) room))

roomy : {p : Part} {o : Outcome} → Stands p o → 32 ≤ length o.room
roomy {p} s = (accepts s.accepted).roomy

-- The reaction to an event, from what stands.
unfoldable pub reaction_of : Part → Outcome → Event → Reaction
reaction_of p o v = react_to v p o.chip.core (heard o.chip.collector) o.memory

pub says-reaction : (p : Part) (o : Outcome) (v : Event) → Stands p o → uttered (spoken_in (onward p o v)) ≡ utterance_of p (reaction_of p o v)
unfolding reaction_of
says-reaction p o v s =
    ap (λ (u : Outcome). uttered (spoken_in u)) (onward-is p o v s.accepted) ∙ settled-utters p (reaction_of p o v) o.chip o.memory o.room (roomy s)

-- What an event leaves, by its reaction.
pub record Leaves (p : Part) (o : Outcome) (v : Event) : Type 0 where
  pub core : (onward p o v).chip.core ≡ (reaction_of p o v).does.core
  pub memory : (onward p o v).memory ≡ (reaction_of p o v).does.memory
  pub hears : heard (onward p o v).chip.collector ≡ (reaction_of p o v).hears
  pub count : (onward p o v).chip.collector.len ≡ length (reaction_of p o v).hears

settled-leaves : (p : Part) (x : Reaction) (c : Chip) (m : Memory) (r : List ℕ)
    → let u = settled (Ok tt) p x c m r in
    (u.chip.core ≡ x.does.core) × (u.memory ≡ x.does.memory) × (heard u.chip.collector ≡ x.hears) × (u.chip.collector.len ≡ length x.hears)
unfolding settled holding
settled-leaves p x c m r = (refl, refl, heard-holding c.collector x.hears, refl)

pub leaves : (p : Part) (o : Outcome) (v : Event) → Stands p o → Leaves p o v
unfolding reaction_of
leaves p o v s =
    let e = onward-is p o v s.accepted in
    let l = settled-leaves p (reaction_of p o v) o.chip o.memory o.room in
    record {
      core = ap (λ (u : Outcome). u.chip.core) e ∙ l.0;
      memory = ap (λ (u : Outcome). u.memory) e ∙ l.1;
      hears = ap (λ (u : Outcome). heard u.chip.collector) e ∙ l.2;
      count = ap (λ (u : Outcome). u.chip.collector.len) e ∙ l.3;
    }

answered : (p : Part) (o : Outcome) (v : Event) → Stands p o → Answered (spoken_in (onward p o v))
unfolding utterance_of
answered p o v s =
    let x = reaction_of p o v in
    let n = s.arrays in
    record {
      count = length (frames_of (payloads p x.does.core.options x.does.reply));
      frames = length (payloads p x.does.core.options x.does.reply);
      replied = ap (λ (u : Utterance). u.answer) (says-reaction p o v s);
      short = reply-long p x.does.core.options x.does.reply n.device_long n.name_long n.version_long;
    }

-- No call of a run is refused, and no reply is longer than 31 bytes.
pub never-refused : (p : Part) (vs : List Event) (o : Outcome) → Stands p o → AllProper vs → AllAnswered (answers p vs o)
unfolding answers
never-refused p [] o s no_event = no_answer
never-refused p (v ∷ vs) o s (and_event h q) = and_answer (answered p o v s) (never-refused p vs (onward p o v) (stays p o v s h) q)

react-same : {k l : Core} {hs is : List ℕ} {m n : Memory} (v : Event) (p : Part) → k ≡ l → hs ≡ is → m ≡ n → react_to v p k hs m ≡ react_to v p l is n
react-same v p e f g = rw (e, f, g)

settled-alike : (p : Part) (x : Reaction) (c d : Chip) (m n : Memory) (r s : List ℕ) → Alike (settled (Ok tt) p x c m r) (settled (Ok tt) p x d n s)
unfolding settled holding
settled-alike p x c d m n r s =
    record { core = refl; count = refl; hears = heard-holding c.collector x.hears ∙ sym (heard-holding d.collector x.hears); memory = refl }

module _ (p : Part) (o u : Outcome) (v : Event) (so : Stands p o) (su : Stands p u) (a : Alike o u) where
  same-reaction : reaction_of p o v ≡ reaction_of p u v
  unfolding reaction_of
  same-reaction = react-same v p a.core a.hears a.memory

  -- What is alike stays alike, and the same is said.
  pub alike-onward : Alike (onward p o v) (onward p u v)
  unfolding reaction_of
  alike-onward =
      rw (onward-is p o v so.accepted, onward-is p u v su.accepted, same-reaction)
      (settled-alike p (reaction_of p u v) o.chip u.chip o.memory u.memory o.room u.room)

  pub alike-says : uttered (spoken_in (onward p o v)) ≡ uttered (spoken_in (onward p u v))
  alike-says = says-reaction p o v so ∙ ap (utterance_of p) same-reaction ∙ sym (says-reaction p u v su)

-- The room does not matter: with any other of at least 32 bytes the chip stands, and an event leaves the same chip and flash and says the same.
pub stands-anywhere : (p : Part) (o u : Outcome) → Stands p o → SameChip o u → 32 ≤ length u.room → Stands p u
stands-anywhere p o u s e r =
    let a = accepts s.accepted in
    record {
      accepted =
          accepted (record {
            part = a.part;
            code_long = rw e.memory at a.code_long;
            data_long = rw e.memory at a.data_long;
            state = rw e.chip at a.state;
            roomy = r;
          });
      places = rw e.chip at s.places;
      bytes = rw e.chip at s.bytes;
      arrays = s.arrays;
    }

settled_same : (p : Part) (x y : Reaction) (c d : Chip) (m n : Memory) (r s : List ℕ) → c ≡ d → x ≡ y
    → SameChip (settled (Ok tt) p x c m r) (settled (Ok tt) p y d n s)
unfolding settled
settled_same p x y c d m n r s e f = record { chip = rw (e, f); memory = rw f }

pub same_alike : {o u : Outcome} → SameChip o u → Alike o u
same_alike {o} {u} e =
    record {
      core = ap (λ (c : Chip). c.core) e.chip;
      count = ap (λ (c : Chip). c.collector.len) e.chip;
      hears = ap (λ (c : Chip). heard c.collector) e.chip;
      memory = e.memory;
    }

pub said-anywhere : (p : Part) (o u : Outcome) (v : Event) → Stands p o → SameChip o u → 32 ≤ length u.room → SameStep (onward p o v) (onward p u v)
unfolding reaction_of
said-anywhere p o u v s e r =
    let t = stands-anywhere p o u s e r in
    let a = same_alike e in
    let g : SameChip (onward p o v) (onward p u v) =
    rw (onward-is p o v s.accepted, onward-is p u v t.accepted)
    (settled_same p _ _ o.chip u.chip o.memory u.memory o.room u.room e.chip (same-reaction p o u v s t a)) in
    record { chip = g.chip; memory = g.memory; said = alike-says p o u v s t a }
