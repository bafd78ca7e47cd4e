-- What the calls that play capture records, of either form, into a chip do and tell: document 01, "Replay" and "Refusal numbers", and 02, section 5.
use Rattle.std.specs.Prelude.{List, [], ◌∷◌, ℕ, length, Err, Ok, Result}
use Rattle.chip_layout.specs.Layout.{chip_bytes, chip_in}
use Rattle.chip_layout.specs.Admission.{chip_acceptance}
use Rattle.chip_core.specs.Effect.{Memory}
use Rattle.part.specs.Refusal.{number}
use Rattle.part.specs.declared.Part.{Part}
use Rattle.replay_records.specs.declared.Halt.TheVariants as Halt
use Rattle.replay_records.specs.declared.Halt.TheVariants.{AtBadRecord, OutputFull}
use Rattle.replay_records.specs.declared.Halt.{Halt}
use Rattle.part.specs.declared.refusal.Refusal.{Refusal}
use Rattle.replay_capture.specs.Capture.{bad_record_number}
use Rattle.replay_capture.specs.declared.Form.{Form}
use Rattle.replay_records.specs.Records.{replay_of}

-- A capture's records: 0 where all were played, 10 where one is not good, 17 where the output has no room for the next one's replies, else the refusal's number.
-- With 10 and 17 the records before that one are played, and told.
unfoldable pub end_number : Result Unit Halt → ℕ
end_number (Ok _) = 0
end_number (Err AtBadRecord) = bad_record_number
end_number (Err OutputFull) = 17
end_number (Err (Halt.Refused r)) = number r

-- Told are how many records were played, and how many bytes and frames of replies stand in the output.
pub record ReplayTold : Type 0 where
  pub ending : ℕ
  pub told : List ℕ
  pub state : List ℕ
  pub memory : Memory
  pub room : List ℕ
  pub output : List ℕ

abbrev pub replay_told : ℕ → List ℕ → List ℕ → Memory → List ℕ → List ℕ → ReplayTold
replay_told n told state m room output = record { ending = n; told = told; state = state; memory = m; room = room; output = output }

-- A refused call changes nothing, the numbers told included.
unfoldable pub replayed_by : Form → Result Unit Refusal → Part → List ℕ → List ℕ → List ℕ → Memory → List ℕ → List ℕ → ReplayTold
replayed_by form (Err r) p capture told state m room output = replay_told (number r) told state m room output
replayed_by form (Ok _) p capture told state m room output =
    let x = replay_of form p capture (chip_in state) m room output in
    replay_told (end_number x.ended) (x.records ∷ x.bytes ∷ x.frames ∷ []) (chip_bytes x.chip) x.memory x.room x.output

unfoldable pub replayed_through : Form → Part → List ℕ → List ℕ → List ℕ → Memory → List ℕ → List ℕ → ReplayTold
replayed_through form p capture told state m room output =
    replayed_by form (chip_acceptance p state (length m.flash.code_flash) (length m.flash.data_flash) (length room)) p capture told state m room output
