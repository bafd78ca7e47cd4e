-- What is alike is as if it were the same, whatever rooms are lent to it: the proofs of `AsIf` from `Alike`, of `ShortRefused` and of `AnyRooms`.
-- Assumes nothing.
use mathlib.Core.Bool.{not}
use mathlib.Core.List.{List, [], ◌∷◌, map}
use mathlib.Core.Path.{◌∙◌, ◌≡◌, ap, refl, sym}
use Prim.Native.Nat.{◌<◌, ◌≤◌, ℕ}
use native.Mathlib.Decide.{dec_le}
use native.Mathlib.Omega.{arith}
use lib.ListN.{length, length-replicate, replicate}
use borrow.Author.Tests.{eq-eqb, lt-ltb}
use Rattle.chip.specs.Run.{Spoken, answers, onward, run, spoken_in}
use Rattle.chip.specs.Step.{Outcome, Reaction, react_to, settled, step_of}
use Rattle.part.specs.declared.refusal.Refusal.{Refusal}
use Rattle.std.specs.Prelude.{Err, Ok, Result}
use Rattle.chip.specs.declared.Event.{Event}
use Rattle.chip_core.specs.Effect.{Memory}
use Rattle.chip_core.specs.declared.Core.{Core}
use Rattle.chip_state.proofs.Laws.{Accepts, accepts}
use Rattle.chip_state.specs.Refusals.{verdict_of}
use Rattle.chip_state.specs.declared.Chip.{Chip}
use Rattle.chip_state.specs.declared.Handed.{Handed}
use Rattle.claims_good.proofs.Rooms.{alike-onward, said-anywhere, same_alike, stands-anywhere}
use Rattle.claims_good.proofs.Stays.{onward-is, run-stands, stays}
use Rattle.claims_good.specs.Good.{Alike, AllProper, Proper, SameChip, Stands, Utterance, and_event, no_event, utterances, uttered, verdict_in}
use Rattle.claims_noise.specs.Claims.{AnyRooms, AsIf, ChipCall, Roomy, ShortRefused, and_call, answers_by, calls_by, events_in, no_call, run_by, says_by}
use Rattle.frame.specs.Collector.{heard}
use Rattle.part.proofs.Laws.{first-here, first_on}
use Rattle.frame.specs.declared.judgement.Judgement.TheVariants.{Good}
use Rattle.part.specs.declared.Part.{Part}
use Rattle.part.specs.declared.refusal.Refusal.TheVariants.{ShortRoom}

-- The definition's runs are runs.
pub run-by : (p : Part) (vs : List Event) (o : Outcome) → run_by step_of p vs o ≡ run p vs o
unfolding run_by run
run-by p [] o = refl
run-by p (v ∷ vs) o = run-by p vs (onward p o v)

pub says-by : (p : Part) (vs : List Event) (o : Outcome) → says_by step_of p vs o ≡ utterances p vs o
unfolding says_by utterances answers
says-by p [] o = refl
says-by p (v ∷ vs) o = ap (λ (xs : List Utterance). uttered (spoken_in (onward p o v)) ∷ xs) (says-by p vs (onward p o v))

-- The chip and flash that an outcome left, with another room lent.
abbrev lent : Outcome → List ℕ → Outcome
lent o room = record { answer = o.answer; fault = o.fault; chip = o.chip; memory = o.memory; room = room }

-- What is accepted with its room is refused with a short one, and for no other reason.
short_row : (p : Part) (k : Core) (h : Handed) (n : ℕ) → Accepts p k h → n < 32
    → verdict_of p k (record { count = h.count; head = h.head; len = h.len; code = h.code; «data» = h.«data»; room = n }) ≡ Err ShortRoom
unfolding verdict_of
short_row p k h n a l =
    first_on _ _ _ (ap not a.part)
    ∙ first_on _ _ _ (ap not (eq-eqb _ _ a.code_long))
    ∙ first_on _ _ _ (ap not (eq-eqb _ _ a.data_long))
    ∙ first_on _ _ _ (ap not a.state)
    ∙ first-here _ _ _ (lt-ltb n 32 l)

short-verdict : (p : Part) (o : Outcome) (room : List ℕ) → Stands p o → length room < 32 → verdict_in p (lent o room) ≡ Err ShortRoom
short-verdict p o room s h = short_row p o.chip.core _ (length room) (accepts s.accepted) h

pub short-refused : ShortRefused step_of
unfolding step_of settled
short-refused p o v room s h =
    ap (λ (w : Result Unit Refusal). settled w p (react_to v p o.chip.core (heard o.chip.collector) o.memory) o.chip o.memory room) (short-verdict p o room s h)

-- A chip that stands but for the room: with the least that is accepted it does.
Lives : Part → Outcome → Type 0
Lives p o = Stands p (lent o (replicate 32 0))

with-room : (p : Part) (o u : Outcome) → Stands p o → o.chip ≡ u.chip → o.memory ≡ u.memory → (room : List ℕ) → 32 ≤ length room → Stands p (lent u room)
with-room p o u s c m room h = stands-anywhere p o (lent u room) s (record { chip = c; memory = m }) h

lives : (p : Part) (o u : Outcome) → Stands p o → o.chip ≡ u.chip → o.memory ≡ u.memory → Lives p u
unfolding Lives
lives p o u s c m = with-room p o u s c m (replicate 32 0) (omega (arith, length-replicate {A = ℕ} 32 0))

-- The answer and the room are those of the reaction, whatever chip it was.
settled-spoken : (p : Part) (x y : Reaction) (c d : Chip) (m n : Memory) (room : List ℕ) → x ≡ y
    → spoken_in (settled (Ok tt) p x c m room) ≡ spoken_in (settled (Ok tt) p y d n room)
unfolding settled
settled-spoken p x y c d m n room e = rw e

-- One call, to two chips that are alike.
record Called (p : Part) (o u : Outcome) : Type 0 where
  said : spoken_in o ≡ spoken_in u
  one : Lives p o
  other : Lives p u
  alike : Alike o u

module _ (p : Part) (o u : Outcome) (v : Event) (room : List ℕ) (so : Lives p o) (su : Lives p u) (h : Proper v) (a : Alike o u) where
  roomy-call : 32 ≤ length room → Called p (onward p (lent o room) v) (onward p (lent u room) v)
  unfolding Lives
  roomy-call k =
      let s = with-room p (lent o (replicate 32 0)) o so refl refl room k in
      let t = with-room p (lent u (replicate 32 0)) u su refl refl room k in
      let b : Alike (lent o room) (lent u room) = record { core = a.core; count = a.count; hears = a.hears; memory = a.memory } in
      let x : react_to v p o.chip.core (heard o.chip.collector) o.memory ≡ react_to v p u.chip.core (heard u.chip.collector) u.memory =
      rw (a.core, a.hears, a.memory) in
      record {
        said =
            ap (λ (z : Outcome). spoken_in z) (onward-is p (lent o room) v s.accepted)
            ∙ settled-spoken p _ _ o.chip u.chip o.memory u.memory room x
            ∙ sym (ap (λ (z : Outcome). spoken_in z) (onward-is p (lent u room) v t.accepted));
        one = lives p (onward p (lent o room) v) (onward p (lent o room) v) (stays p (lent o room) v s h) refl refl;
        other = lives p (onward p (lent u room) v) (onward p (lent u room) v) (stays p (lent u room) v t h) refl refl;
        alike = alike-onward p (lent o room) (lent u room) v s t b;
      }

  refusal : Outcome → Outcome
  refusal q = record { answer = Err ShortRoom; fault = Good; chip = q.chip; memory = q.memory; room = room }

  short-call : length room < 32 → Called p (onward p (lent o room) v) (onward p (lent u room) v)
  unfolding Lives refusal
  short-call k =
      let e : onward p (lent o room) v ≡ refusal o = short-refused p (lent o (replicate 32 0)) v room so k in
      let f : onward p (lent u room) v ≡ refusal u = short-refused p (lent u (replicate 32 0)) v room su k in
      rw (e, f)
      (record {
        said = refl;
        one = lives p (lent o (replicate 32 0)) (refusal o) so refl refl;
        other = lives p (lent u (replicate 32 0)) (refusal u) su refl refl;
        alike = record { core = a.core; count = a.count; hears = a.hears; memory = a.memory };
      })

  one-call : Called p (onward p (lent o room) v) (onward p (lent u room) v)
  one-call = go (dec_le 32 (length room))
    where
      go : Dec (32 ≤ length room) → Called p (onward p (lent o room) v) (onward p (lent u room) v)
      go (yes k) = roomy-call k
      go (no k) = short-call (omega arith)

-- Any calls.
alike-answers : (p : Part) (cs : List ChipCall) (o u : Outcome) → Lives p o → Lives p u → AllProper (events_in cs) → Alike o u
    → answers_by step_of p cs o ≡ answers_by step_of p cs u
unfolding answers_by
alike-answers p [] o u s t no_event a = refl
alike-answers p (c ∷ cs) o u s t (and_event h q) a =
    let r = one-call p o u c.event c.room s t h a in
    ap (λ (x : Spoken). x ∷ answers_by step_of p cs (onward p (lent o c.room) c.event)) r.said
    ∙ ap (λ (xs : List Spoken). spoken_in (onward p (lent u c.room) c.event) ∷ xs)
    (alike-answers p cs (onward p (lent o c.room) c.event) (onward p (lent u c.room) c.event) r.one r.other q r.alike)

alike-calls : (p : Part) (cs : List ChipCall) (o u : Outcome) → Lives p o → Lives p u → AllProper (events_in cs) → Alike o u
    → Alike (calls_by step_of p cs o) (calls_by step_of p cs u)
unfolding calls_by
alike-calls p [] o u s t no_event a = a
alike-calls p (c ∷ cs) o u s t (and_event h q) a =
    let r = one-call p o u c.event c.room s t h a in
    alike-calls p cs (onward p (lent o c.room) c.event) (onward p (lent u c.room) c.event) r.one r.other q r.alike

living-as-if : (p : Part) (o u : Outcome) → Lives p o → Lives p u → Alike o u → AsIf step_of p o u
living-as-if p o u s t a = record { now = a; answers = λ cs q. alike-answers p cs o u s t q a; later = λ cs q. alike-calls p cs o u s t q a }

pub as-if : (p : Part) (o u : Outcome) → Stands p o → Stands p u → Alike o u → AsIf step_of p o u
as-if p o u s t a = living-as-if p o u (lives p o o s refl refl) (lives p u u t refl refl) a

-- A run with one room, and the same events with a room each.
record Along (p : Part) (o u : Outcome) (cs : List ChipCall) : Type 0 where
  said : map (λ s. uttered s) (answers_by step_of p cs u) ≡ utterances p (events_in cs) o
  left : SameChip (run p (events_in cs) o) (calls_by step_of p cs u)

along : (p : Part) (cs : List ChipCall) (o u : Outcome) → Stands p o → SameChip o u → AllProper (events_in cs) → Roomy cs → Along p o u cs
unfolding answers_by calls_by run utterances answers
along p [] o u s e no_event no_call = record { said = refl; left = e }
along p (c ∷ cs) o u s e (and_event h q) (and_call k r) =
    let x = said-anywhere p o (lent u c.room) c.event s (record { chip = e.chip; memory = e.memory }) k in
    let z = along p cs (onward p o c.event) (onward p (lent u c.room) c.event) (stays p o c.event s h) (record { chip = x.chip; memory = x.memory }) q r in
    record { said = rw (z.said, ← x.said); left = z.left }

pub any-rooms : AnyRooms step_of
any-rooms p o cs s q r =
    let z = along p cs o o s (record { chip = refl; memory = refl }) q r in
    let t = run-stands p (events_in cs) o s q in
    record {
      said = z.said ∙ sym (says-by p (events_in cs) o);
      left =
          rw (run-by p (events_in cs) o)
          (living-as-if p (run p (events_in cs) o) (calls_by step_of p cs o) (lives p _ _ t refl refl) (lives p _ _ t z.left.chip z.left.memory) (same_alike z.left));
    }
