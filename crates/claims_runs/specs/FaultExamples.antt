-- Worked faults, on the part of document 01's examples: the status that is said to each frame, and what it hides, the fault's number and its place (document 02, §4).
use Rattle.std.specs.Prelude.{false, List, [], ◌∷◌, ◌-◌, ℕ, get_or, length, replicate, set, take}
use Rattle.chip.specs.Run.{before, bytes_said, onward}
use Rattle.chip.specs.Step.{Outcome}
use Rattle.chip.specs.declared.Event.TheVariants.{Byte}
use Rattle.chip_core.specs.Effect.{entered}
use Rattle.chip_core.specs.declared.Phase.TheVariants.{Awaiting}
use Rattle.claims_noise.specs.Examples.{page_frame, reset, writing_chip}
use Rattle.claims_stars.specs.Table.{Example, example, fresh_memory, ready_chip, the_part}
use Rattle.frame.specs.Collector.{fresh, holding}
use Rattle.frame.specs.Frame.{data_frame}
use Rattle.frame.specs.Judgement.{fault_of}
use Rattle.frame.specs.declared.Footer.TheVariants.{More}

-- A frame has come but for its last byte, and then that: the status that is said to it, and the fault told.
abbrev pub begun : Outcome → List ℕ → Outcome
begun o hs = before (record { core = o.chip.core; collector = holding o.chip.collector hs }) o.memory o.room

unfoldable pub told_by : Outcome → List ℕ → List ℕ
told_by chip f =
    let o = onward the_part (begun chip (take (length f - 1) f)) (Byte (get_or f (length f - 1) 0)) in
    get_or (bytes_said o.answer o.room) 2 0 ∷ (fault_of o.fault).number ∷ (fault_of o.fault).place ∷ []

-- The chip of the examples while A0h awaits its data.
abbrev pub setting_chip : Outcome
setting_chip =
    before (record { core = entered ready_chip.chip.core (Awaiting (record { command = 0xA0; next = 0; last = 0; differed = false })); collector = fresh })
    fresh_memory (replicate 32 0x00)

unfoldable pub faults : List Example
faults =
    -- Reset with the footer 17h, with the SUM FEh, and with LEN 2; 15h hides two faults
    example (told_by ready_chip (set reset 4 0x17)) (0x15 ∷ 1 ∷ 4 ∷ [])
    ∷ example (told_by ready_chip (set reset 3 0xFE)) (0x07 ∷ 2 ∷ 3 ∷ [])
    ∷ example (told_by ready_chip (0x01 ∷ 0x02 ∷ 0x00 ∷ 0x00 ∷ 0xFE ∷ 0x03 ∷ [])) (0x15 ∷ 3 ∷ 1 ∷ [])
    -- "judged in this order": Reset with the footer 17h and the SUM FEh; with LEN 2 and the SUM FFh
    ∷ example (told_by ready_chip (set (set reset 3 0xFE) 4 0x17)) (0x15 ∷ 1 ∷ 4 ∷ [])
    ∷ example (told_by ready_chip (0x01 ∷ 0x02 ∷ 0x00 ∷ 0x00 ∷ 0xFF ∷ 0x03 ∷ [])) (0x07 ∷ 2 ∷ 4 ∷ [])
    -- An unknown command, whatever its LEN, and 9Ah, which is known but not allowed here, with LEN 1: no fault
    ∷ example (told_by ready_chip (0x01 ∷ 0x03 ∷ 0x77 ∷ 0x00 ∷ 0x00 ∷ 0x86 ∷ 0x03 ∷ [])) (0x04 ∷ 0 ∷ 0 ∷ [])
    ∷ example (told_by ready_chip (0x01 ∷ 0x01 ∷ 0x9A ∷ 0x65 ∷ 0x03 ∷ [])) (0x04 ∷ 0 ∷ 0 ∷ [])
    -- A0h's data with the SUM E8h, and one byte too few
    ∷ example (told_by setting_chip (0x02 ∷ 0x08 ∷ 0xFF ∷ 0x03 ∷ 0x00 ∷ 0x00 ∷ 0x0F ∷ 0x00 ∷ 0xFF ∷ 0xFF ∷ 0xE8 ∷ 0x03 ∷ [])) (0x07 ∷ 2 ∷ 10 ∷ [])
    ∷ example (told_by setting_chip (0x02 ∷ 0x07 ∷ 0xFF ∷ 0x03 ∷ 0x00 ∷ 0x00 ∷ 0x0F ∷ 0x00 ∷ 0xFF ∷ 0xE9 ∷ 0x03 ∷ [])) (0x15 ∷ 3 ∷ 1 ∷ [])
    -- A page of 256 bytes, LEN 00h, with 03h where 17h is awaited, and with the SUM 01h where 00h is right; one of 255 bytes, right but for that
    ∷ example (told_by writing_chip (set page_frame 259 0x03)) (0x15 ∷ 1 ∷ 259 ∷ [])
    ∷ example (told_by writing_chip (set page_frame 258 0x01)) (0x07 ∷ 2 ∷ 258 ∷ [])
    ∷ example (told_by writing_chip (data_frame (replicate 255 0xAA) More)) (0x15 ∷ 3 ∷ 1 ∷ [])
    -- A good frame; and "Erase .. 0401h", a good frame whose parameter is refused
    ∷ example (told_by ready_chip reset) (0x06 ∷ 0 ∷ 0 ∷ [])
    ∷ example (told_by ready_chip (0x01 ∷ 0x04 ∷ 0x22 ∷ 0x01 ∷ 0x04 ∷ 0x00 ∷ 0xD5 ∷ 0x03 ∷ [])) (0x05 ∷ 0 ∷ 0 ∷ [])
    ∷ []
