-- The judgement of a complete frame: document 01, "Frames", third paragraph; the faults that it tells apart, and where they lie: document 02, §4.
use Rattle.std.specs.Prelude.{ℕ, ◌+◌, ◌-◌, Bool, true, false, not, List, length, take, drop, ◌==◌, slice_index}
use Rattle.frame.specs.Frame.{footer_byte, is_frame, overhead}
use Rattle.frame.specs.Sum.{sum_of}
use Rattle.frame.specs.declared.Footer.{Footer}
use Rattle.frame.specs.declared.judgement.Fault.{Fault}
use Rattle.frame.specs.declared.judgement.Judgement.{Judgement}
use Rattle.frame.specs.declared.judgement.Judgement.TheVariants.{Good, UnfitLength, WrongFirst, WrongFooter, WrongSum}
use Rattle.words.specs.Words.{◌and◌, if◌then◌otherwise◌}

-- LEN and each byte after it, up to SUM.
unfoldable pub summed : List ℕ → List ℕ
summed bs = take (length bs - 3) (drop 1 bs)

-- "A complete frame is judged in this order: wrong footer 15h; wrong SUM 07h; ..": the footer is the last byte, SUM the one before it, and the judgement has the
-- place of the one that is wrong, "counted from the header". Bytes that are not one complete frame have an unfit length, and nothing else of them is judged.
unfoldable pub judge_of : Footer → List ℕ → Judgement
judge_of f bs =
    if not (is_frame bs) then UnfitLength
    otherwise if not (slice_index bs (length bs - 1) == footer_byte f) then WrongFooter (length bs - 1)
    otherwise if not (slice_index bs (length bs - 2) == sum_of (summed bs)) then WrongSum (length bs - 2)
    otherwise Good

abbrev pub is_good : Judgement → Bool
is_good Good = true
is_good (WrongFooter at) = false
is_good (WrongSum at) = false
is_good UnfitLength = false
is_good WrongFirst = false

-- "a data frame also needs the right LEN": where a length is expected, it is judged last.
unfoldable pub fitting : ℕ → List ℕ → Judgement → Judgement
fitting n bs j = if is_good j and not (length bs == n + overhead) then UnfitLength otherwise j

-- The status that a judgement has on the wire. A wrong first byte is a fault of replies alone, which are not answered: none is sent for it.
abbrev pub status_of : Judgement → ℕ
status_of Good = 0x06
status_of (WrongFooter at) = 0x15
status_of (WrongSum at) = 0x07
status_of UnfitLength = 0x15
status_of WrongFirst = 0x15

-- Each fault in numbers, ours, and its place: "wrong footer, wrong SUM, unfit LEN, each with the byte's place counted from the header (the footer's, the SUM's, or
-- 1)"; of a reply, "a missing or wrong first byte is a fourth fault at place 0". Where there is none, both are 0.
abbrev pub fault : ℕ → ℕ → Fault
fault n at = record { number = n; place = at }

abbrev pub fault_of : Judgement → Fault
fault_of Good = fault 0 0
fault_of (WrongFooter at) = fault 1 at
fault_of (WrongSum at) = fault 2 at
fault_of UnfitLength = fault 3 1
fault_of WrongFirst = fault 4 0
