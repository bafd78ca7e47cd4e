-- A stretch through the door, by the engine's answer.
-- Assumes nothing.
use mathlib.Core.List.{List, [], ◌∷◌}
use mathlib.Core.Path.{◌≡◌}
use Prim.Native.Nat.{ℕ}
use lib.ListN.{length}
use Rattle.chip_core.specs.Effect.{Memory}
use Rattle.chip_layout.specs.Admission.{chip_admission}
use Rattle.chip_layout.specs.Layout.{chip_bytes, chip_in}
use Rattle.chip_state.specs.declared.Chip.{Chip}
use Rattle.engine.specs.Engine.{EngineLeft, engine_of}
use Rattle.chip_reply.specs.Reply.{sent_as}
use Rattle.engine.specs.declared.EngineRefusal.TheVariants as EngineRefusal
use Rattle.engine.specs.declared.EngineRefusal.TheVariants.{NoRoom}
use Rattle.std.specs.Prelude.{Err, Ok, Result}
use Rattle.engine_door.specs.Calls.{engine_admitted, engine_answered, engine_through, engine_told}
use Rattle.frame.specs.Judgement.{fault_of}
use Rattle.frame.specs.declared.judgement.Fault.{Fault}
use Rattle.part.specs.Refusal.{number}
use Rattle.part.specs.declared.Part.{Part}
use Rattle.part.specs.declared.refusal.Refusal.{Refusal}
use Rattle.part_layout.specs.Layout.{part_in}

pub engine-refused : {p : Part} {u : Result Unit Refusal} {c : Chip} {n : ℕ} {r : Refusal} (e : EngineLeft) (part bs told state : List ℕ) (m : Memory) (room : List ℕ)
    → p ≡ part_in part → u ≡ chip_admission p state (length m.flash.code_flash) (length m.flash.data_flash) → u ≡ Ok tt → c ≡ chip_in state
    → e ≡ engine_of p bs c m room → e.answer ≡ Err (EngineRefusal.Refused r) → n ≡ number r → engine_told n told state e.memory e.room ≡ engine_through (part_in part) bs told state m room
unfolding engine_through engine_admitted engine_answered
engine-refused e part bs told state m room a f g h i k l = rw (← a, ← f, g, ← h, ← i, k, l)

pub engine-short : {p : Part} {u : Result Unit Refusal} {c : Chip} (e : EngineLeft) (part bs told state : List ℕ) (m : Memory) (room : List ℕ)
    → p ≡ part_in part → u ≡ chip_admission p state (length m.flash.code_flash) (length m.flash.data_flash) → u ≡ Ok tt → c ≡ chip_in state
    → e ≡ engine_of p bs c m room → e.answer ≡ Err NoRoom → engine_told 12 told state e.memory e.room ≡ engine_through (part_in part) bs told state m room
unfolding engine_through engine_admitted engine_answered
engine-short e part bs told state m room a f g h i k = rw (← a, ← f, g, ← h, ← i, k)

pub engine-replied : {p : Part} {u : Result Unit Refusal} {c : Chip} {n k : ℕ} {x : Fault} {l : List ℕ} (e : EngineLeft) (part bs told state : List ℕ) (m : Memory) (room : List ℕ)
    → p ≡ part_in part → u ≡ chip_admission p state (length m.flash.code_flash) (length m.flash.data_flash) → u ≡ Ok tt → c ≡ chip_in state
    → e ≡ engine_of p bs c m room → e.answer ≡ Ok (sent_as n k) → x ≡ fault_of e.first → l ≡ chip_bytes e.chip
    → engine_told 0 (n ∷ k ∷ e.faults ∷ x.number ∷ x.place ∷ []) l e.memory e.room ≡ engine_through (part_in part) bs told state m room
unfolding engine_through engine_admitted engine_answered
engine-replied e part bs told state m room a f g h i j x q = rw (← a, ← f, g, ← h, ← i, j, x, q)
