-- What the plain engine's call does and tells: document 02, §7. Refusals by the documents' numbers, then the engine's own definition on the state that crossed as
-- bytes. A refused call changes nothing, the numbers told included.
use Rattle.std.specs.Prelude.{List, [], ◌∷◌, ℕ, length, Err, Ok, Result}
use Rattle.chip_core.specs.Effect.{Memory}
use Rattle.chip_layout.specs.Admission.{chip_admission}
use Rattle.chip_layout.specs.Layout.{chip_bytes, chip_in}
use Rattle.engine.specs.Engine.{EngineLeft, engine_of}
use Rattle.part.specs.declared.refusal.Refusal.{Refusal}
use Rattle.engine.specs.declared.EngineRefusal.TheVariants.{NoRoom}
use Rattle.engine.specs.declared.EngineRefusal.{EngineRefusal}
use Rattle.chip_reply.specs.declared.Sent.{Sent}
use Rattle.frame.specs.Judgement.{fault_of}
use Rattle.part.specs.Refusal.{number}
use Rattle.part.specs.declared.Part.{Part}

pub record EngineTold : Type 0 where
  pub refusal : ℕ
  pub told : List ℕ
  pub state : List ℕ
  pub memory : Memory
  pub room : List ℕ

abbrev pub engine_told : ℕ → List ℕ → List ℕ → Memory → List ℕ → EngineTold
engine_told n told state m room = record { refusal = n; told = told; state = state; memory = m; room = room }

-- "12 if the reply room is shorter than 32 bytes for each byte fed". Told are the bytes and the frames of the replies, how many frames were judged bad, and the fault of
-- the first of them with its place (document 02, §4).
unfoldable pub engine_answered : Result Sent EngineRefusal → EngineLeft → List ℕ → List ℕ → EngineTold
engine_answered (Err (EngineRefusal.Refused r)) e told state = engine_told (number r) told state e.memory e.room
engine_answered (Err NoRoom) e told state = engine_told 12 told state e.memory e.room
engine_answered (Ok sent) e told state =
    engine_told 0 (sent.bytes ∷ sent.frames ∷ e.faults ∷ (fault_of e.first).number ∷ (fault_of e.first).place ∷ []) (chip_bytes e.chip) e.memory e.room

unfoldable pub engine_admitted : Result Unit Refusal → Part → List ℕ → List ℕ → List ℕ → Memory → List ℕ → EngineTold
engine_admitted (Err r) p bs told state m room = engine_told (number r) told state m room
engine_admitted (Ok _) p bs told state m room =
    let e = engine_of p bs (chip_in state) m room in
    engine_answered e.answer e told state

unfoldable pub engine_through : Part → List ℕ → List ℕ → List ℕ → Memory → List ℕ → EngineTold
engine_through p bs told state m room = engine_admitted (chip_admission p state (length m.flash.code_flash) (length m.flash.data_flash)) p bs told state m room
