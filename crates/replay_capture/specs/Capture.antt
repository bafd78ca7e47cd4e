-- Capture records, of the old form and of the new: document 01, "Replay", and 02, section 5. What a good record is, over its form and its bytes; its seat and its
-- tick; what it is to a replay, and what it carries.
use Rattle.std.specs.Prelude.{Bool, not, List, [], ◌∷◌, ◌+◌, ◌-◌, suc, zero, ℕ, eqb, leb, drop, get_or, length, take, Err, Ok, Result}
use Rattle.replay_capture.specs.declared.Form.{Form}
use Rattle.replay_capture.specs.declared.Form.TheVariants.{New, Old}
use Rattle.replay_capture.specs.declared.Record.TheVariants.{BytesRecord, GapRecord, OtherSeat}
use Rattle.replay_capture.specs.declared.BadRecord.{BadRecord}
use Rattle.replay_capture.specs.declared.Record.{Record}
use Rattle.lent.specs.Lent.{all_are}
use Rattle.numbers.specs.Numbers.{number_at}
use Rattle.words.specs.Words.{◌and◌, ◌from◌to◌, if◌then◌otherwise◌}

-- "Capture records are 8 bytes, no header: kind, count, six bytes." "New records are 16 bytes, no header: kind, count, seat (0 or 1), 00h, tick as four bytes
-- low first, eight data bytes"
abbrev pub record_size : Form → ℕ
record_size Old = 8
record_size New = 16

-- How many bytes come before the data, and how many data bytes there are.
abbrev pub head_size : Form → ℕ
head_size Old = 2
head_size New = 8

abbrev pub data_size : Form → ℕ
data_size form = record_size form - head_size form

abbrev pub kind : List ℕ → ℕ
kind bs = get_or bs 0 0

abbrev pub count : List ℕ → ℕ
count bs = get_or bs 1 0

-- An old record is seat 0's, and its tick is 0: "old to new (seat 0, tick 0, one record for one)". The byte between them is 00h.
unfoldable pub seat_of : Form → List ℕ → ℕ
seat_of Old bs = 0
seat_of New bs = get_or bs 2 0

unfoldable pub spare_of : Form → List ℕ → ℕ
spare_of Old bs = 0x00
spare_of New bs = get_or bs 3 0

unfoldable pub tick_of : Form → List ℕ → ℕ
tick_of Old bs = 0
tick_of New bs = number_at 4 4 bs

-- The data bytes, and which of them a record with so many does not use: "Unused bytes are 00h."
abbrev pub data_in : Form → List ℕ → List ℕ
data_in form bs = drop (head_size form) bs

unfoldable pub unused : Form → ℕ → List ℕ → Bool
unused form n bs = all_are 0x00 (drop n (data_in form bs))

-- "Kind 00h is a gap (count 0); 01h carries 1 to 6 bytes", in the new form 1 to 8. There is no other kind.
unfoldable pub good_count : Form → ℕ → ℕ → Bool
good_count form kind n = if eqb kind 0x00 then eqb n 0 otherwise eqb kind 0x01 and n from 1 to data_size form

-- A record of another size is not good, as the short one at a capture's end.
unfoldable pub good_record : Form → List ℕ → Bool
good_record form bs =
    eqb (length bs) (record_size form)
    and good_count form (kind bs) (count bs)
    and leb (seat_of form bs) 1
    and eqb (spare_of form bs) 0x00
    and unused form (count bs) bs

-- What a record is to a replay, which "skips seat 1".
unfoldable pub record_of : Form → List ℕ → Result Record BadRecord
record_of form bs =
    if not (good_record form bs) then Err (record {})
    otherwise if not (eqb (seat_of form bs) 0) then Ok OtherSeat
    otherwise if eqb (kind bs) 0x00 then Ok GapRecord
    otherwise Ok (BytesRecord (count bs))

-- "Refusals: 10 for a bad record": its number wherever one is told.
abbrev pub bad_record_number : ℕ
bad_record_number = 10

-- The bytes that a record carries, so many of its data bytes.
abbrev pub carried_bytes : Form → ℕ → List ℕ → List ℕ
carried_bytes form n bs = take n (data_in form bs)

-- The records of a capture in order, each of so many bytes but for the last, which may be short.
unfoldable pub records_in : ℕ → ℕ → List ℕ → List (List ℕ)
records_in size zero bs = []
records_in size (suc most) [] = []
records_in size (suc most) (b ∷ bs) = take size (b ∷ bs) ∷ records_in size most (drop size (b ∷ bs))

-- No capture has more records than bytes.
unfoldable pub records_of : ℕ → List ℕ → List (List ℕ)
records_of size bs = records_in size (length bs) bs

-- Where the record that begins at a place of a capture ends, for those who go through it where it lies: at the capture's own end, if that comes sooner.
unfoldable pub record_end : ℕ → ℕ → ℕ → ℕ
record_end size at len = if leb (at + size) len then at + size otherwise len
