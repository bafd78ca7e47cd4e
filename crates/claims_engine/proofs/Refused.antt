-- What the plain engine refuses: the proof of `EngineRefused` (document 02, §7, "Refusals: 12 .. in place of 4").
-- Assumes nothing.
use Rattle.engine.specs.declared.EngineRefusal.TheVariants.{NoRoom}
use mathlib.Core.Bool.{Bool, false, not, true}
use mathlib.Core.List.{List, [], ◌∷◌}
use mathlib.Core.Path.{◌∙◌, ◌≡◌, ap, refl, sym}
use Prim.Native.Nat.{◌*◌, ◌/◌, ◌<◌, ◌≤◌, ℕ}
use native.Mathlib.Omega.{arith}
use lib.Dec.{eqb, ltb}
use lib.ListN.{length}
use borrow.Author.Tests.{le-ltb, lt-ltb, ltb-true}
use Rattle.chip.specs.Step.{Reaction, react_to, settled, step_of}
use Rattle.engine.specs.declared.EngineRefusal.TheVariants as EngineRefusal
use Rattle.std.specs.Prelude.{Err, Ok, Result}
use Rattle.chip.specs.declared.Event.TheVariants.{Byte}
use Rattle.chip_core.specs.Effect.{Memory}
use Rattle.chip_state.specs.Refusals.{good_state, handed_with, verdict_of, verdict_on}
use Rattle.chip_state.specs.declared.Chip.{Chip}
use Rattle.claims_engine.specs.Claims.{EngineRefused}
use Rattle.engine.specs.Engine.{begins, engine_by, engine_of, leaves, played_out, refused_with}
use Rattle.frame.specs.Collector.{heard}
use Rattle.part.specs.Part.{described, size}
use Rattle.part.specs.Refusal.{◌when◌, first_of}
use Rattle.part.specs.declared.Area.TheVariants.{CodeFlash, DataFlash}
use Rattle.part.specs.declared.Part.{Part}
use Rattle.part.specs.declared.refusal.Refusal.{Refusal}
use Rattle.part.specs.declared.refusal.Refusal.TheVariants.{BadPart, BadState, CodeLength, DataLength, ShortRoom}
use Rattle.words.specs.Words.{if◌then◌otherwise◌}

-- All rooms of 32 bytes and more are one to the verdict, and 4 is not given for them.
pub verdict-room : (p : Part) (c : Chip) (code extra n : ℕ) → 32 ≤ n → verdict_on p c code extra n ≡ verdict_on p c code extra 32
unfolding verdict_of
verdict-room p c code extra n h = rw (le-ltb n 32 h)

never-short : (p : Part) (c : Chip) (code extra : ℕ) → verdict_on p c code extra 32 ≡ Err ShortRoom → ⊥
unfolding verdict_of first_of if◌then◌otherwise◌
never-short p c code extra e =
    go (not (described p)) (not (eqb code (size p CodeFlash))) (not (eqb extra (size p DataFlash)))
    (not (good_state p c.core (handed_with c.collector code extra 32).count (handed_with c.collector code extra 32).head (handed_with c.collector code extra 32).len)) e
  where
    go : (t u v w : Bool)
        → first_of (BadPart when t ∷ CodeLength when u ∷ DataLength when v ∷ BadState when w ∷ ShortRoom when false ∷ []) ≡ Err ShortRoom → ⊥
    go true u v w e = let z : ◌≡◌ {A = ℕ} 0 1 = cc in omega arith
    go false true v w e = let z : ◌≡◌ {A = ℕ} 0 1 = cc in omega arith
    go false false true w e = let z : ◌≡◌ {A = ℕ} 0 1 = cc in omega arith
    go false false false true e = let z : ◌≡◌ {A = ℕ} 0 1 = cc in omega arith
    go false false false false e = let z : ◌≡◌ {A = ℕ} 0 1 = cc in omega arith

-- A step is refused by its verdict alone.
settled-refused : (v : Result Unit Refusal) (p : Part) (x : Reaction) (c : Chip) (m : Memory) (room : List ℕ) (r : Refusal) → (settled v p x c m room).answer ≡ Err r
    → v ≡ Err r
unfolding settled
settled-refused (Err q) p x c m room r e = let z : q ≡ r = cc in ap Err z
settled-refused (Ok _) p x c m room r e = absurd (let z : ◌≡◌ {A = ℕ} 0 1 = cc in omega arith)

-- The engine's answers, by the verdict; t is whether the room is too short.
refused-by : (v : Result Unit Refusal) (p : Part) (bs : List ℕ) (c : Chip) (m : Memory) (room : List ℕ) (r : Refusal)
    → (engine_by v p bs c m room).answer ≡ Err (EngineRefusal.Refused r) → v ≡ Err r
unfolding engine_by if◌then◌otherwise◌ leaves
refused-by (Err q) p bs c m room r e = let z : q ≡ r = cc in ap Err z
refused-by (Ok _) p bs c m room r e = absurd (go (ltb (length room / 32) (length bs)) e)
  where
    go : (t : Bool) → (if t then refused_with (Err NoRoom) c m room otherwise leaves (played_out p (begins c bs m)) c room).answer ≡ Err (EngineRefusal.Refused r) → ⊥
    go true e = let z : ◌≡◌ {A = ℕ} 0 1 = cc in omega arith
    go false e = let z : ◌≡◌ {A = ℕ} 0 1 = cc in omega arith

-- 12 is answered to an accepted call, and for want of room.
record Wants (v : Result Unit Refusal) (bs room : List ℕ) : Type 0 where
  accepted : v ≡ Ok tt
  short : length room < 32 * length bs

engine-short : (v : Result Unit Refusal) (p : Part) (bs : List ℕ) (c : Chip) (m : Memory) (room : List ℕ) → (engine_by v p bs c m room).answer ≡ Err NoRoom → Wants v bs room
unfolding engine_by if◌then◌otherwise◌ leaves
engine-short (Err q) p bs c m room e = absurd (let z : ◌≡◌ {A = ℕ} 0 1 = cc in omega arith)
engine-short (Ok _) p bs c m room e = go (ltb (length room / 32) (length bs)) refl e
  where
    go : (t : Bool) → ltb (length room / 32) (length bs) ≡ t
        → (if t then refused_with (Err NoRoom) c m room otherwise leaves (played_out p (begins c bs m)) c room).answer ≡ Err NoRoom → Wants (Ok tt) bs room
    go true t e = record { accepted = refl; short = omega (arith, ltb-true (length room / 32) (length bs) t) }
    go false t e = absurd (let z : ◌≡◌ {A = ℕ} 0 1 = cc in omega arith)

short-engine : (v : Result Unit Refusal) (p : Part) (bs : List ℕ) (c : Chip) (m : Memory) (room : List ℕ) → ((r : Refusal) → v ≡ Err r → ⊥)
    → length room < 32 * length bs → engine_by v p bs c m room ≡ refused_with (Err NoRoom) c m room
unfolding engine_by if◌then◌otherwise◌
short-engine (Err q) p bs c m room n h = absurd (n q refl)
short-engine (Ok _) p bs c m room n h = simp (lt-ltb (length room / 32) (length bs) (omega arith))

-- An accepted call with enough room is played.
pub engine-plays : (v : Result Unit Refusal) (p : Part) (bs : List ℕ) (c : Chip) (m : Memory) (room : List ℕ) → v ≡ Ok tt → 32 * length bs ≤ length room
    → engine_by v p bs c m room ≡ leaves (played_out p (begins c bs m)) c room
unfolding engine_by if◌then◌otherwise◌
engine-plays (Err q) p bs c m room e h = absurd (let z : ◌≡◌ {A = ℕ} 0 1 = cc in omega arith)
engine-plays (Ok _) p bs c m room e h = simp (le-ltb (length room / 32) (length bs) (omega arith))

-- The verdict on a byte in enough room.
abbrev verdict : Part → Chip → Memory → Result Unit Refusal
verdict p c m = verdict_on p c (length m.flash.code_flash) (length m.flash.data_flash) 32

module _ (p : Part) (c : Chip) (m : Memory) (b : ℕ) (one : List ℕ) (enough : 32 ≤ length one) where
  step-refused : (r : Refusal) → (step_of p c (Byte b) m one).answer ≡ Err r → verdict p c m ≡ Err r
  unfolding step_of
  step-refused r e = sym (verdict-room p c _ _ (length one) enough) ∙ settled-refused _ p _ c m one r e

  refused-step : (r : Refusal) → verdict p c m ≡ Err r → (step_of p c (Byte b) m one).answer ≡ Err r
  unfolding step_of settled
  refused-step r e =
      ap (λ (v : Result Unit Refusal). (settled v p (react_to (Byte b) p c.core (heard c.collector) m) c m one).answer) (verdict-room p c _ _ (length one) enough ∙ e)

pub engine-refused : EngineRefused
unfolding engine_of engine_by
engine-refused p c m b one bs room h =
    record {
      refused = λ r e. ap (λ (v : Result Unit Refusal). engine_by v p bs c m room) (step-refused p c m b one h r e);
      only = λ r e. refused-step p c m b one h r (refused-by (verdict p c m) p bs c m room r e);
      never = λ r e z. never-short p c _ _ (refused-by (verdict p c m) p bs c m room r e ∙ ap Err z);
      short = λ n l. short-engine (verdict p c m) p bs c m room (λ r e. n r (refused-step p c m b one h r e)) l;
      only_short = λ e. (engine-short (verdict p c m) p bs c m room e).short;
      not_refused = λ e r s.
          let z : (Ok tt) ≡ Err r = sym (engine-short (verdict p c m) p bs c m room e).accepted ∙ step-refused p c m b one h r s in
          let y : ◌≡◌ {A = ℕ} 0 1 = cc in omega arith;
    }
