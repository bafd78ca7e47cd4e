-- What a play leaves, as the code hands it back.
-- Assumes nothing.
use mathlib.Core.Bool.{Bool}
use mathlib.Core.List.{List}
use mathlib.Core.Path.{◌∙◌, ◌≡◌, ap, sym}
use Prim.Native.Nat.{◌/◌, ◌<◌, ◌≤◌, ℕ}
use borrow.Author.Tests.{le-ltb, lt-ltb}
use lib.ListN.{length, take, take-append-drop}
use lib.Seq.{length-take-le}
use Rattle.chip_core.specs.Effect.{Memory}
use Rattle.chip_core.specs.declared.Core.{Core}
use Rattle.chip_state.specs.Refusals.{verdict_on}
use Rattle.chip_state.specs.declared.Chip.{Chip}
use Rattle.engine.specs.Engine.{Plain, begins, engine_by, engine_left, engine_of, leaves, facing, played_out, refused_with}
use Rattle.engine.specs.declared.EngineRefusal.TheVariants as EngineRefusal
use Rattle.engine.specs.declared.EngineRefusal.TheVariants.{NoRoom}
use Rattle.std.specs.Prelude.{Err, Ok, Result}
use Rattle.engine.specs.declared.Played.{Played}
use Rattle.engine.specs.declared.ToldSoFar.{ToldSoFar}
use Rattle.engine.specs.Inner.Answering.{Past, ended_of, stand_of}
use Rattle.part.specs.declared.Part.{Part}
use Rattle.part.specs.declared.refusal.Refusal.{Refusal}
use Rattle.words.specs.Words.{if◌then◌otherwise◌}

-- What was said stands at the start of the room, and the room past it stays.
pub leaves-is : (k : Core) (t₀ t : ToldSoFar) (m' : Memory) (room' room hs : List ℕ) (c : Chip) → Past t₀ t room' room
    → engine_left (ended_of k t c.collector hs) m' room' ≡ leaves (facing hs (stand_of k t m' room')) c room
unfolding leaves
leaves-is k t₀ t m' room' room hs c z =
    let n : length (take t.bytes room') ≡ t.bytes = length-take-le t.bytes room' z.lies in
    rw (n, ← z.stays, take-append-drop)

pub handed-back : (k : Core) (t₀ t : ToldSoFar) (m' : Memory) (room' room hs ks : List ℕ) (c : Chip) (r : Played) (x : Plain) → r ≡ ended_of k t c.collector ks → ks ≡ hs
    → facing hs (stand_of k t m' room') ≡ x → Past t₀ t room' room → engine_left r m' room' ≡ leaves x c room
handed-back k t₀ t m' room' room hs ks c r x e h f z =
    ap (λ (r : Played). engine_left r m' room') (e ∙ ap (ended_of k t c.collector) h) ∙ leaves-is k t₀ t m' room' room hs c z ∙ ap (λ (x : Plain). leaves x c room) f

-- A call: refused as a byte would be, for want of room, or played.
engine-by : (p : Part) (bs : List ℕ) (c : Chip) (m : Memory) (room : List ℕ) (v : Result Unit Refusal) → verdict_on p c (length m.flash.code_flash) (length m.flash.data_flash) 32 ≡ v
    → engine_by v p bs c m room ≡ engine_of p bs c m room
unfolding engine_of
engine-by p bs c m room v e = ap (λ (v : Result Unit Refusal). engine_by v p bs c m room) (sym e)

pub engine-refuses : (p : Part) (bs : List ℕ) (c : Chip) (m : Memory) (room : List ℕ) (r : Refusal)
    → verdict_on p c (length m.flash.code_flash) (length m.flash.data_flash) 32 ≡ Err r → refused_with (Err (EngineRefusal.Refused r)) c m room ≡ engine_of p bs c m room
unfolding engine_by
engine-refuses p bs c m room r e = engine-by p bs c m room (Err r) e

pub engine-short : (p : Part) (bs : List ℕ) (c : Chip) (m : Memory) (room : List ℕ)
    → verdict_on p c (length m.flash.code_flash) (length m.flash.data_flash) 32 ≡ Ok tt → length room / 32 < length bs
    → refused_with (Err NoRoom) c m room ≡ engine_of p bs c m room
unfolding engine_by if◌then◌otherwise◌
engine-short p bs c m room e h =
    sym (ap (λ (t : Bool). if t then refused_with (Err NoRoom) c m room otherwise leaves (played_out p (begins c bs m)) c room) (lt-ltb (length room / 32) (length bs) h))
    ∙ engine-by p bs c m room (Ok tt) e

pub engine-plays : (p : Part) (bs : List ℕ) (c : Chip) (m : Memory) (room : List ℕ)
    → verdict_on p c (length m.flash.code_flash) (length m.flash.data_flash) 32 ≡ Ok tt → length bs ≤ length room / 32
    → leaves (played_out p (begins c bs m)) c room ≡ engine_of p bs c m room
unfolding engine_by if◌then◌otherwise◌
engine-plays p bs c m room e h =
    sym (ap (λ (t : Bool). if t then refused_with (Err NoRoom) c m room otherwise leaves (played_out p (begins c bs m)) c room) (le-ltb (length room / 32) (length bs) h))
    ∙ engine-by p bs c m room (Ok tt) e
