-- The records of a capture, and what lies where in one: document 01, "Capture records are 8 bytes, no header", and 02, section 5, "New records are 16 bytes, no header:
-- kind, count, seat (0 or 1), 00h, tick as four bytes low first, eight data bytes, unused ones 00h; a gap has count 0". Over the size and over the form.
use Rattle.std.specs.Prelude.{false, true, List, [], ◌++◌, ◌∷◌, ◌≡◌, ◌%◌, ◌-◌, ◌<◌, ◌^◌, ◌≤◌, ℕ, get_or, length, replicate, Err, Ok, Result}
use Rattle.numbers.specs.Numbers.{low_first}
use Rattle.replay_capture.specs.Capture.{carried_bytes, count, data_size, good_record, kind, record_of, record_size, records_of, seat_of, tick_of}
use Rattle.replay_capture.specs.declared.Form.{Form}
use Rattle.replay_capture.specs.declared.Form.TheVariants.{New, Old}
use Rattle.replay_capture.specs.declared.Record.TheVariants.{BytesRecord, GapRecord, OtherSeat}
use Rattle.replay_capture.specs.declared.BadRecord.{BadRecord}
use Rattle.replay_capture.specs.declared.Record.{Record}

-- A capture cut into records: nothing, and there is none; what is left, not more than the size, is the last; or one of the size, and the rest is cut.
pub data Cut (size : ℕ) : List ℕ → List (List ℕ) → Type 0 where
  none : {capture : List ℕ} → capture ≡ [] → Cut size capture []
  last : {capture : List ℕ} → 1 ≤ length capture → length capture ≤ size → Cut size capture (capture ∷ [])
  next : {capture rest : List ℕ} {rs : List (List ℕ)} (r : List ℕ) → capture ≡ r ++ rest → length r ≡ size → Cut size rest rs → Cut size capture (r ∷ rs)

abbrev pub RecordsAre : Type 0
RecordsAre = (size : ℕ) (capture : List ℕ) → 1 ≤ size → Cut size capture (records_of size capture)

abbrev pub RecordsOnly : Type 0
RecordsOnly = (size : ℕ) (capture : List ℕ) (rs : List (List ℕ)) → 1 ≤ size → Cut size capture rs → records_of size capture ≡ rs

-- Whole records and then more: the records of each, one after the other.
abbrev pub RecordsAppend : Type 0
RecordsAppend =
    (form : Form) (a b : List ℕ) → length a % record_size form ≡ 0
    → records_of (record_size form) (a ++ b) ≡ records_of (record_size form) a ++ records_of (record_size form) b

-- Kind and count that go together: "a gap has count 0"; 01h carries 1 byte or more, as many as the form has data bytes at most.
pub data KindAndCount (form : Form) : ℕ → ℕ → Type 0 where
  gap : KindAndCount form 0x00 0
  bytes : (n : ℕ) → 1 ≤ n → n ≤ data_size form → KindAndCount form 0x01 n

-- The seats and ticks of a form.
abbrev pub SeatAndTick : Form → ℕ → ℕ → Type 0
SeatAndTick Old seat tick = (seat ≡ 0) × (tick ≡ 0)
SeatAndTick New seat tick = (seat ≤ 1) × (tick < 2 ^ 32)

-- What stands between the count and the data bytes.
abbrev pub between : Form → ℕ → ℕ → List ℕ
between Old seat tick = []
between New seat tick = seat ∷ 0x00 ∷ low_first 4 tick

-- The record that carries these bytes.
abbrev pub laid : Form → ℕ → ℕ → ℕ → List ℕ → List ℕ
laid form kind seat tick bs = kind ∷ length bs ∷ [] ++ between form seat tick ++ bs ++ replicate (data_size form - length bs) 0x00

pub record LaidAs (form : Form) (k seat tick : ℕ) (bs r : List ℕ) : Type 0 where
  pub good : good_record form r ≡ true
  pub kind_is : kind r ≡ k
  pub count_is : count r ≡ length bs
  pub seat_is : seat_of form r ≡ seat
  pub tick_is : tick_of form r ≡ tick
  pub carries : carried_bytes form (length bs) r ≡ bs

-- Each record so laid is good, and has what it was laid with; and each good record is laid so.
abbrev pub LaidIsGood : Type 0
LaidIsGood =
    (form : Form) (k seat tick : ℕ) (bs : List ℕ) → KindAndCount form k (length bs) → SeatAndTick form seat tick → LaidAs form k seat tick bs (laid form k seat tick bs)

pub record LaidFrom (form : Form) (r : List ℕ) : Type 0 where
  pub kind_and_count : KindAndCount form (kind r) (count r)
  pub seat_and_tick : SeatAndTick form (seat_of form r) (tick_of form r)
  pub is : laid form (kind r) (seat_of form r) (tick_of form r) (carried_bytes form (count r) r) ≡ r

abbrev pub GoodIsLaid : Type 0
GoodIsLaid = (form : Form) (r : List ℕ) → ((i : ℕ) → get_or r i 0 < 256) → good_record form r ≡ true → LaidFrom form r

-- "tick as four bytes low first", the bytes 4 to 7; the seat is byte 2.
abbrev pub TickLowFirst : Type 0
TickLowFirst = (tick : ℕ) (head rest : List ℕ) → tick < 2 ^ 32 → length head ≡ 4 → tick_of New (head ++ low_first 4 tick ++ rest) ≡ tick

abbrev pub marked : List ℕ
marked = 0x01 ∷ 0x08 ∷ 0x05 ∷ 0x00 ∷ 0x01 ∷ 0x02 ∷ 0x03 ∷ 0x04 ∷ replicate 8 0xFF

abbrev pub TickAndSeat : Type 0
TickAndSeat = (tick_of New marked ≡ 0x04030201) × (seat_of New marked ≡ 0x05) × (tick_of Old marked ≡ 0) × (seat_of Old marked ≡ 0)

-- What a record is to a replay, which "skips seat 1": not good; the other seat's; a gap; or so many bytes.
pub data RecordIs (form : Form) (r : List ℕ) : Result Record BadRecord → Type 0 where
  is_bad : good_record form r ≡ false → RecordIs form r (Err (record {}))
  is_other : good_record form r ≡ true → seat_of form r ≡ 1 → RecordIs form r (Ok OtherSeat)
  is_gap : good_record form r ≡ true → seat_of form r ≡ 0 → kind r ≡ 0x00 → RecordIs form r (Ok GapRecord)
  is_bytes : good_record form r ≡ true → seat_of form r ≡ 0 → kind r ≡ 0x01 → RecordIs form r (Ok (BytesRecord (count r)))

abbrev pub RecordOfIs : Type 0
RecordOfIs = (form : Form) (r : List ℕ) → RecordIs form r (record_of form r)
