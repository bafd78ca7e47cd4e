-- The chip's refusals: document 01, "Refusal numbers" (chip), and which states are good.
use Rattle.std.specs.Prelude.{Bool, false, not, true, List, [], ◌∷◌, ◌%◌, ◌+◌, ℕ, eqb, leb, ltb, get_or, length, None, Option, Result, Some}
use Rattle.chip_state.specs.declared.Chip.{Chip}
use Rattle.chip_state.specs.declared.Handed.{Handed}
use Rattle.chip_core.specs.declared.Awaited.{Awaited}
use Rattle.chip_core.specs.declared.Core.{Core}
use Rattle.chip_core.specs.Hearing.{hearing}
use Rattle.chip_core.specs.declared.Hearing.{Hearing}
use Rattle.chip_core.specs.declared.Hearing.TheVariants.{HearsCommands, HearsData, HearsNothing}
use Rattle.chip_core.specs.declared.Phase.{Phase}
use Rattle.chip_core.specs.declared.Phase.TheVariants.{Awaiting, ModeByte, Ready, Setup}
use Rattle.frame.specs.Frame.{full, header_byte, longest}
use Rattle.frame.specs.declared.Header.{Header}
use Rattle.frame.specs.declared.Header.TheVariants.{Command, Data}
use Rattle.frame.specs.declared.collector.Collector.{Collector}
use Rattle.chip_options.specs.Options.{good_options}
use Rattle.part.specs.Part.{block_size, described, page_size, place_of, size}
use Rattle.part.specs.Refusal.{◌when◌, first_of}
use Rattle.part.specs.declared.Area.{Area}
use Rattle.part.specs.declared.Area.TheVariants.{CodeFlash, DataFlash}
use Rattle.part.specs.declared.Part.{Part}
use Rattle.part.specs.declared.refusal.Refusal.{Refusal}
use Rattle.part.specs.declared.Place.{Place}
use Rattle.part.specs.declared.refusal.Refusal.TheVariants.{BadPart, BadState, CodeLength, DataLength, ShortRoom}
use Rattle.words.specs.Words.{◌and◌, ◌or◌}

-- 9, phase 4: "another command than its three, or for 40h and 13h a next address that is no page start, a last address that is no block end, next past
-- last, or not both in one area of flash"
abbrev pub same_area : Area → Area → Bool
same_area CodeFlash CodeFlash = true
same_area CodeFlash DataFlash = false
same_area DataFlash CodeFlash = false
same_area DataFlash DataFlash = true

unfoldable pub good_places : Part → Option Place → Option Place → Bool
good_places p None None = false
good_places p None (Some place) = false
good_places p (Some place) None = false
good_places p (Some place) (Some other) = same_area place.area other.area and eqb (place.offset % page_size) 0 and eqb ((other.offset + 1) % block_size p other.area) 0

unfoldable pub good_awaited : Part → Awaited → Bool
good_awaited p w =
    eqb w.command 0xA0
    or (eqb w.command 0x40 or eqb w.command 0x13) and leb w.next w.last and good_places p (place_of p w.next) (place_of p w.last)

unfoldable pub good_phase : Part → Phase → Bool
good_phase p ModeByte = true
good_phase p Setup = true
good_phase p Ready = true
good_phase p (Awaiting w) = good_awaited p w

-- 9, what is collected: "collected bytes not begun by the awaited header, or as many as the frame begun needs or more (260 or more always is)"
unfoldable pub good_begun : Header → ℕ → ℕ → ℕ → Bool
good_begun h count head len = eqb count 0 or ltb count longest and eqb head (header_byte h) and not (full count len)

-- "anything collected in phase 1"
unfoldable pub good_collected : Hearing → ℕ → ℕ → ℕ → Bool
good_collected HearsNothing count head len = eqb count 0
good_collected HearsCommands count head len = good_begun Command count head len
good_collected (HearsData w) count head len = good_begun Data count head len

-- The same of the bytes that are collected.
abbrev pub good_heard : Phase → List ℕ → Bool
good_heard f hs = good_collected (hearing f) (length hs) (get_or hs 0 0) (get_or hs 1 0)

unfoldable pub good_core : Part → Core → Bool
good_core p k = leb k.rate 0x03 and good_options p k.options and good_phase p k.phase

unfoldable pub good_state : Part → Core → ℕ → ℕ → ℕ → Bool
good_state p k count head len = good_collected (hearing k.phase) count head len and good_core p k

-- "Order for the chip: 1, 2, 3, 9, 4".
unfoldable pub verdict_of : Part → Core → Handed → Result Unit Refusal
verdict_of p k h =
    first_of
    (BadPart when not (described p)
    ∷ CodeLength when not (eqb h.code (size p CodeFlash))
    ∷ DataLength when not (eqb h.«data» (size p DataFlash))
    ∷ BadState when not (good_state p k h.count h.head h.len)
    ∷ ShortRoom when ltb h.room 32
    ∷ [])

-- The verdict on a chip, with so many bytes of code flash, data flash and room lent.
abbrev pub handed_with : Collector → ℕ → ℕ → ℕ → Handed
handed_with c code «data» room = record { count = c.len; head = get_or c.bytes 0 0; len = get_or c.bytes 1 0; code = code; «data» = «data»; room = room }

abbrev pub verdict_on : Part → Chip → ℕ → ℕ → ℕ → Result Unit Refusal
verdict_on p c code «data» room = verdict_of p c.core (handed_with c.collector code «data» room)
