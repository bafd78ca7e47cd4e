-- Capture records and conversions of document 02, section 5, as tables: what a record is in its form, what a conversion answers, tells and leaves.
use Rattle.std.specs.Prelude.{List, [], ◌++◌, ◌∷◌, ℕ, replicate, Err, Ok, Result}
use Rattle.conversion_door.specs.Calls.{ConvertTold, convert_told}
use Rattle.replay_capture.specs.declared.Form.{Form}
use Rattle.replay_capture.specs.declared.Form.TheVariants.{New, Old}
use Rattle.replay_capture.specs.declared.Record.TheVariants.{BytesRecord, GapRecord, OtherSeat}
use Rattle.replay_capture.specs.declared.BadRecord.{BadRecord}
use Rattle.replay_capture.specs.declared.Record.{Record}

abbrev pub zeros : ℕ → List ℕ
zeros n = replicate n 0x00

-- The first four bytes of a new record, its tick, its eight data bytes.
abbrev pub new_record : ℕ → ℕ → ℕ → ℕ → List ℕ → List ℕ → List ℕ
new_record kind count seat spare tick bytes = kind ∷ count ∷ seat ∷ spare ∷ tick ++ bytes

abbrev pub six : List ℕ
six = 0x01 ∷ 0x03 ∷ 0x9A ∷ 0x00 ∷ 0x21 ∷ 0x42 ∷ []

abbrev pub eight : List ℕ
eight = six ++ 0x0A ∷ 0x0B ∷ []

abbrev pub tick_later : List ℕ
tick_later = 0x01 ∷ 0x02 ∷ 0x03 ∷ 0x04 ∷ []

abbrev pub old_six : List ℕ
old_six = 0x01 ∷ 0x06 ∷ 0x01 ∷ 0x03 ∷ 0x9A ∷ 0x00 ∷ 0x21 ∷ 0x42 ∷ []

abbrev pub new_six : List ℕ
new_six = 0x01 ∷ 0x06 ∷ 0x00 ∷ 0x00 ∷ 0x00 ∷ 0x00 ∷ 0x00 ∷ 0x00 ∷ 0x01 ∷ 0x03 ∷ 0x9A ∷ 0x00 ∷ 0x21 ∷ 0x42 ∷ 0x00 ∷ 0x00 ∷ []

pub record RecordExample : Type 0 where
  pub form : Form
  pub bytes : List ℕ
  pub is : Result Record BadRecord

abbrev pub old : List ℕ → Result Record BadRecord → RecordExample
old bs r = record { form = Old; bytes = bs; is = r }

abbrev pub new : List ℕ → Result Record BadRecord → RecordExample
new bs r = record { form = New; bytes = bs; is = r }

-- Good ones; then of no kind, with a wrong count, with a byte where there must be none, of no seat, with a byte between seat and tick, and of another size.
unfoldable pub record_table : List RecordExample
record_table =
    old (zeros 8) (Ok GapRecord)
    ∷ old (0x01 ∷ 0x01 ∷ 0x3A ∷ zeros 5) (Ok (BytesRecord 1))
    ∷ old old_six (Ok (BytesRecord 6))
    ∷ new (zeros 16) (Ok GapRecord)
    ∷ new (new_record 0x00 0x00 0x00 0x00 tick_later (zeros 8)) (Ok GapRecord)
    ∷ new (new_record 0x00 0x00 0x01 0x00 tick_later (zeros 8)) (Ok OtherSeat)
    ∷ new (new_record 0x01 0x01 0x00 0x00 (zeros 4) (0x3A ∷ zeros 7)) (Ok (BytesRecord 1))
    ∷ new new_six (Ok (BytesRecord 6))
    ∷ new (new_record 0x01 0x08 0x00 0x00 tick_later eight) (Ok (BytesRecord 8))
    ∷ new (new_record 0x01 0x08 0x01 0x00 tick_later eight) (Ok OtherSeat)
    ∷ old (0x02 ∷ 0x01 ∷ 0x3A ∷ zeros 5) (Err (record {}))
    ∷ new (new_record 0x02 0x01 0x00 0x00 (zeros 4) (0x3A ∷ zeros 7)) (Err (record {}))
    ∷ old (0x01 ∷ 0x07 ∷ six) (Err (record {}))
    ∷ new (new_record 0x01 0x09 0x00 0x00 (zeros 4) eight) (Err (record {}))
    ∷ old (0x01 ∷ zeros 7) (Err (record {}))
    ∷ new (new_record 0x01 0x00 0x00 0x00 (zeros 4) (zeros 8)) (Err (record {}))
    ∷ old (0x00 ∷ 0x01 ∷ zeros 6) (Err (record {}))
    ∷ new (new_record 0x00 0x01 0x00 0x00 (zeros 4) (zeros 8)) (Err (record {}))
    ∷ old (0x00 ∷ 0x00 ∷ 0x3A ∷ zeros 5) (Err (record {}))
    ∷ new (new_record 0x00 0x00 0x00 0x00 (zeros 4) (0x3A ∷ zeros 7)) (Err (record {}))
    ∷ old (0x01 ∷ 0x05 ∷ six) (Err (record {}))
    ∷ new (new_record 0x01 0x06 0x00 0x00 (zeros 4) (six ++ 0x0A ∷ 0x00 ∷ [])) (Err (record {}))
    ∷ new (new_record 0x01 0x07 0x00 0x00 (zeros 4) eight) (Err (record {}))
    ∷ new (new_record 0x01 0x08 0x02 0x00 (zeros 4) eight) (Err (record {}))
    ∷ new (new_record 0x01 0x08 0x01 0x01 (zeros 4) eight) (Err (record {}))
    ∷ old (zeros 7) (Err (record {}))
    ∷ old (zeros 9) (Err (record {}))
    ∷ old [] (Err (record {}))
    ∷ new (zeros 15) (Err (record {}))
    ∷ new (zeros 17) (Err (record {}))
    ∷ new (zeros 8) (Err (record {}))
    ∷ []

-- A conversion from a form into an output; what it answers and tells, [bytes written, record's number]; and the output after it.
pub record ConvertExample : Type 0 where
  pub from : Form
  pub capture : List ℕ
  pub output : List ℕ
  pub through : ConvertTold

abbrev pub refused : Form → List ℕ → List ℕ → ℕ → ℕ → ConvertExample
refused from capture output number at = record { from = from; capture = capture; output = output; through = convert_told number (0 ∷ at ∷ []) output }

abbrev pub written : Form → List ℕ → List ℕ → ℕ → List ℕ → ConvertExample
written from capture output n left = record { from = from; capture = capture; output = output; through = convert_told 0 (n ∷ 0 ∷ []) left }

abbrev pub other_seat : List ℕ
other_seat = new_record 0x01 0x06 0x01 0x00 (zeros 4) (six ++ zeros 2)

abbrev pub tick_one : List ℕ
tick_one = new_record 0x01 0x06 0x00 0x00 (0x01 ∷ zeros 3) (six ++ zeros 2)

abbrev pub seven_bytes : List ℕ
seven_bytes = new_record 0x01 0x07 0x00 0x00 (zeros 4) (six ++ 0x0A ∷ 0x00 ∷ [])

abbrev pub no_kind : List ℕ
no_kind = new_record 0x02 0x01 0x00 0x00 (zeros 4) (0x3A ∷ zeros 7)

-- Both ways, with room past the records; nothing of nothing; the first bad record before one that the old form cannot hold, whichever comes first; a short tail; and
-- room of one byte less.
unfoldable pub convert_table : List ConvertExample
convert_table =
    written Old old_six (replicate 18 0xEE) 16 (new_six ++ 0xEE ∷ 0xEE ∷ [])
    ∷ written New new_six (replicate 8 0xEE) 8 old_six
    ∷ written Old (zeros 8 ++ old_six) (replicate 32 0xEE) 32 (zeros 16 ++ new_six)
    ∷ written New (new_six ++ zeros 16) (replicate 17 0xEE) 16 (old_six ++ zeros 8 ++ 0xEE ∷ [])
    ∷ written Old [] (0xEE ∷ []) 0 (0xEE ∷ [])
    ∷ written New [] [] 0 []
    ∷ refused New (other_seat ++ no_kind) (replicate 32 0xEE) 10 1
    ∷ refused New (new_six ++ other_seat ++ new_six) (replicate 32 0xEE) 11 1
    ∷ refused New tick_one (replicate 8 0xEE) 11 0
    ∷ refused New (zeros 16 ++ seven_bytes ++ tick_one) (replicate 24 0xEE) 11 1
    ∷ refused New (new_six ++ new_six ++ zeros 8) (replicate 32 0xEE) 10 2
    ∷ refused Old (old_six ++ 0x00 ∷ []) (replicate 32 0xEE) 10 1
    ∷ refused Old (old_six ++ old_six) (replicate 31 0xEE) 12 0
    ∷ refused New new_six (replicate 7 0xEE) 12 0
    ∷ refused New tick_one [] 11 0
    ∷ refused New no_kind [] 10 0
    ∷ []
