-- Worked noise, on the part of document 01's examples: inputs that meet the premises of demand 3's claims, and one that does not.
use Rattle.std.specs.Prelude.{false, List, [], ◌++◌, ◌∷◌, map, ℕ, drop, replicate, set, take}
use Rattle.chip.specs.Run.{before, run}
use Rattle.chip.specs.Step.{Outcome}
use Rattle.chip.specs.declared.Event.TheVariants.{Byte}
use Rattle.claims_good.specs.Good.{Utterance}
use Rattle.claims_stars.specs.Table.{fresh_memory, ready_chip, the_part}
use Rattle.chip_core.specs.declared.Awaited.{Awaited}
use Rattle.chip_core.specs.declared.Phase.TheVariants.{Awaiting}
use Rattle.frame.specs.Collector.{fresh}
use Rattle.frame.specs.Frame.{data_frame}
use Rattle.frame.specs.Framing.{Sound, byte, gap}
use Rattle.frame.specs.declared.Footer.TheVariants.{More}
use Rattle.chip_options.specs.Options.{fresh_options}

-- Stray bytes; "Erase 0400h" with a wrong SUM; a Reset that ends with 17h; a begun command that a gap cuts off; "Erase 0400h" cut off by the noise's end.
unfoldable pub long_noise : List Sound
long_noise =
    map byte (0xFF ∷ 0x00 ∷ 0x3A ∷ 0x01 ∷ 0x04 ∷ 0x22 ∷ 0x00 ∷ 0x04 ∷ 0x00 ∷ 0xD7 ∷ 0x03 ∷ 0x01 ∷ 0x01 ∷ 0x00 ∷ 0xFF ∷ 0x17 ∷ 0x01 ∷ 0x07 ∷ 0xB0 ∷ [])
    ++ gap ∷ map byte (0x01 ∷ 0x04 ∷ 0x22 ∷ 0x00 ∷ 0x04 ∷ 0x00 ∷ 0xD6 ∷ [])

-- The chip of the examples while 40h over the block at 0400h awaits its second page.
abbrev pub second_page : Awaited
second_page = record { command = 0x40; next = 0x0500; last = 0x07FF; differed = false }

abbrev pub writing_chip : Outcome
writing_chip =
    before (record { core = record { options = fresh_options the_part; rate = 0x00; phase = Awaiting second_page }; collector = fresh }) fresh_memory (replicate 32 0x00)

-- A page cut short: header, LEN 00h and half of the 256 bytes.
unfoldable pub cut_page : List Sound
cut_page = map byte (0x02 ∷ 0x00 ∷ replicate 128 0xAA)

-- A whole page, right but for its footer, 03h where 17h is awaited; then a data frame that nobody awaits any more, and a command with a wrong footer.
unfoldable pub wrong_page : List Sound
wrong_page =
    map byte (0x02 ∷ 0x00 ∷ replicate 256 0xAA ++ 0x00 ∷ 0x03 ∷ [])
    ++ map byte (0x02 ∷ 0x02 ∷ 0x06 ∷ 0x06 ∷ 0xF2 ∷ 0x03 ∷ 0x01 ∷ 0x01 ∷ 0x00 ∷ 0xFF ∷ 0x17 ∷ [])

-- "With its first byte 11h, the inner 01 01 00 FF 03 is a good Reset: why demand 3 has its premise."
unfoldable pub inner_reset : List Sound
inner_reset = map byte (0x11 ∷ 0x07 ∷ 0xB0 ∷ 0x01 ∷ 0x01 ∷ 0x00 ∷ 0xFF ∷ 0x03 ∷ 0x00 ∷ 0x45 ∷ 0x03 ∷ [])

abbrev pub reset : List ℕ
reset = 0x01 ∷ 0x01 ∷ 0x00 ∷ 0xFF ∷ 0x03 ∷ []

-- "Erase 0400h", and a page that is not the last.
unfoldable pub erase_frame : List ℕ
erase_frame = 0x01 ∷ 0x04 ∷ 0x22 ∷ 0x00 ∷ 0x04 ∷ 0x00 ∷ 0xD6 ∷ 0x03 ∷ []

unfoldable pub page_frame : List ℕ
page_frame = data_frame (replicate 256 0xAA) More

-- Something collected already: the first three bytes of "Erase 0400h"; its rest, and the rest with a wrong SUM.
abbrev pub begun_erase : Outcome
begun_erase = run the_part (map Byte (take 3 erase_frame)) ready_chip

unfoldable pub rest_of_erase : List Sound
rest_of_erase = map byte (drop 3 erase_frame)

unfoldable pub damaged_rest : List Sound
damaged_rest = map byte (set (drop 3 erase_frame) 3 0xD7)

-- The first half of a page, and its rest with 03h where 17h is awaited.
abbrev pub begun_page : Outcome
begun_page = run the_part (map Byte (take 130 page_frame)) writing_chip

unfoldable pub damaged_half : List Sound
damaged_half = map byte (set (drop 130 page_frame) 129 0x03)

-- All that is said, one after the other.
unfoldable pub all_said : List Utterance → List ℕ
all_said [] = []
all_said (u ∷ us) = u.bytes ++ all_said us
