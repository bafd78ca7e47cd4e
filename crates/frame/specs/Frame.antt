-- What a frame is: document 01, "Frames", first paragraph, and 000, chapter 2, table 2-1.
use Rattle.std.specs.Prelude.{ℕ, ◌+◌, ◌-◌, ◌%◌, Bool, leb, List, [], ◌∷◌, ◌++◌, length, take, drop, ◌==◌, nat_eq, nat_le, nat_lt, slice_index}
use Rattle.frame.specs.Sum.{sum_of}
use Rattle.frame.specs.declared.Footer.{Footer}
use Rattle.frame.specs.declared.Footer.TheVariants.{Last, More}
use Rattle.frame.specs.declared.Header.{Header}
use Rattle.frame.specs.declared.Header.TheVariants.{Command, Data}
use Rattle.words.specs.Words.{◌and◌, if◌then◌otherwise◌}

-- "Command: 01h, .. Data: 02h, .."
abbrev pub header_byte : Header → ℕ
header_byte Command = 0x01
header_byte Data = 0x02

-- ".. then 03h on the last frame, else 17h." A command frame ends with 03h.
abbrev pub footer_byte : Footer → ℕ
footer_byte Last = 0x03
footer_byte More = 0x17

-- "LEN counts COM plus information, or the data; 00h means 256.": the LEN of so many bytes, and how many bytes a LEN counts.
abbrev pub len_byte : ℕ → ℕ
len_byte n = n % 256

unfoldable pub counted : ℕ → ℕ
counted len = if len == 0x00 then 256 otherwise len

-- What surrounds a payload: header, LEN, SUM and footer. It begins after header and LEN. The longest frame carries 256 bytes.
abbrev pub overhead : ℕ
overhead = 4

abbrev pub payload_at : ℕ
payload_at = 2

abbrev pub longest : ℕ
longest = 260

-- "Command: 01h, LEN, COM, information, SUM, 03h. Data: 02h, LEN, data, SUM, then 03h .. else 17h."
unfoldable pub framed : Header → List ℕ → Footer → List ℕ
framed h ds f = header_byte h ∷ len_byte (length ds) ∷ ds ++ sum_of (len_byte (length ds) ∷ ds) ∷ footer_byte f ∷ []

abbrev pub data_frame : List ℕ → Footer → List ℕ
data_frame ds f = framed Data ds f

-- The payload of a complete frame, COM and information or the data: what lies between LEN and SUM.
unfoldable pub payload : List ℕ → List ℕ
payload bs = take (length bs - overhead) (drop payload_at bs)

-- "A frame is complete at LEN + 4 bytes.": so many bytes, LEN among them, are as many as the frame begun needs, or more.
unfoldable pub full : ℕ → ℕ → Bool
full count len = leb 2 count and leb (counted len + overhead) count

unfoldable pub complete : List ℕ → Bool
complete bs = full (length bs) (slice_index bs 1)

-- What a frame has beside its payload before its last byte comes.
abbrev pub before_last : ℕ
before_last = overhead - 1

-- Once header and LEN have come, so many of the bytes still to come are added without completing the frame.
unfoldable pub lacking_of : ℕ → ℕ → ℕ → ℕ
lacking_of count len rest =
    if nat_le 2 count then (if nat_lt rest (counted len + before_last - count) then rest otherwise counted len + before_last - count)
    otherwise 0

-- These bytes are one complete frame and nothing after it.
unfoldable pub is_frame : List ℕ → Bool
is_frame bs = leb 2 (length bs) and nat_eq (length bs) (counted (slice_index bs 1) + overhead)
