-- Conversion of a capture from one form to the other: document 02, section 5.
use Rattle.std.specs.Prelude.{Bool, List, [], ◌++◌, ◌∷◌, ◌-◌, suc, ℕ, eqb, leb, ltb, drop, length, replicate, take, Err, None, Ok, Option, Result, Some}
use Rattle.conversion.specs.declared.Asked.{Asked}
use Rattle.conversion.specs.declared.Asked.TheVariants.{Good, Held}
use Rattle.conversion.specs.declared.ConvertError.TheVariants.{BadRecordAt, NoRoom, NotHeldAt}
use Rattle.conversion.specs.declared.ConvertError.{ConvertError}
use Rattle.replay_capture.specs.Capture.{bad_record_number, count, data_in, data_size, head_size, good_record, record_size, records_of, seat_of, tick_of}
use Rattle.replay_capture.specs.declared.Form.{Form}
use Rattle.replay_capture.specs.declared.Form.TheVariants.{New, Old}
use Rattle.words.specs.Words.{◌and◌, if◌then◌otherwise◌}

-- The form that a capture is converted to.
abbrev pub other : Form → Form
other Old = New
other New = Old

-- "new to old where the seat is 0, the tick 0 and the count at most 6": what the old form can hold. Every good old record is of that kind.
unfoldable pub held_by_old : Form → List ℕ → Bool
held_by_old form bs = eqb (seat_of form bs) 0 and eqb (tick_of form bs) 0 and leb (count bs) (data_size Old)

-- One record in the other form, "one record for one": kind and count; "seat 0, tick 0", where that form has them; then the six data bytes that both forms have,
-- and 00h for those that only the new form has.
unfoldable pub rewritten : Form → List ℕ → List ℕ
rewritten from bs =
    take (head_size Old) bs
    ++ replicate (head_size (other from) - head_size Old) 0x00
    ++ take (data_size Old) (data_in from bs)
    ++ replicate (data_size (other from) - data_size Old) 0x00

unfoldable pub rewritten_all : Form → List (List ℕ) → List ℕ
rewritten_all from [] = []
rewritten_all from (r ∷ rs) = rewritten from r ++ rewritten_all from rs

-- What is asked of every record.
unfoldable pub passes : Form → Asked → List ℕ → Bool
passes form Good bs = good_record form bs
passes form Held bs = held_by_old form bs

-- "with its number, the first such record in order": the first record that does not pass, counted from 0.
unfoldable pub one_later : Option ℕ → Option ℕ
one_later None = None
one_later (Some n) = Some (suc n)

unfoldable pub first_not : Form → Asked → List (List ℕ) → Option ℕ
first_not form a [] = None
first_not form a (r ∷ rs) = if passes form a r then one_later (first_not form a rs) otherwise Some 0

-- What a conversion leaves: its answer, and all of the output.
pub record Converting : Type 0 where
  pub converted : Result ℕ ConvertError
  pub output : List ℕ

abbrev pub converting : Result ℕ ConvertError → List ℕ → Converting
converting c output = record { converted = c; output = output }

-- "10 before 11 [..]; then 12 if the output room is too small. The output stays untouched." What is written stands at the start of the output, and the room past
-- it stays.
unfoldable pub written_into : List ℕ → List ℕ → Converting
written_into bs output =
    if ltb (length output) (length bs) then converting (Err NoRoom) output
    otherwise converting (Ok (length bs)) (bs ++ drop (length bs) output)

unfoldable pub convert_by : Option ℕ → Option ℕ → List ℕ → List ℕ → Converting
convert_by (Some n) held bs output = converting (Err (BadRecordAt n)) output
convert_by None (Some n) bs output = converting (Err (NotHeldAt n)) output
convert_by None None bs output = written_into bs output

unfoldable pub convert_of : Form → List ℕ → List ℕ → Converting
convert_of from capture output =
    let rs = records_of (record_size from) capture in
    convert_by (first_not from Good rs) (first_not from Held rs) (rewritten_all from rs) output

-- "10 for a bad record and 11 for one that the old form can't hold, with its number [..]; then 12": the number of the refusal, 0 where there is none; the record's
-- number, 0 where none is named; and how many bytes were written.
unfoldable pub refusal_number : Result ℕ ConvertError → ℕ
refusal_number (Ok n) = 0
refusal_number (Err (BadRecordAt n)) = bad_record_number
refusal_number (Err (NotHeldAt n)) = 11
refusal_number (Err NoRoom) = 12

unfoldable pub record_named : Result ℕ ConvertError → ℕ
record_named (Ok n) = 0
record_named (Err (BadRecordAt n)) = n
record_named (Err (NotHeldAt n)) = n
record_named (Err NoRoom) = 0

unfoldable pub bytes_written : Result ℕ ConvertError → ℕ
bytes_written (Ok n) = n
bytes_written (Err (BadRecordAt n)) = 0
bytes_written (Err (NotHeldAt n)) = 0
bytes_written (Err NoRoom) = 0
