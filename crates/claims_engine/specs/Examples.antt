-- Worked stretches for the plain engine, on the part of document 01's examples (document 02, §7): what each gives.
use Rattle.std.specs.Prelude.{List, [], ◌++◌, ◌∷◌, ℕ, drop, replicate, set, take, Err, Ok, Result}
use Rattle.chip.specs.Step.{fresh_chip}
use Rattle.chip_core.specs.Effect.{Memory, memory}
use Rattle.chip_state.specs.declared.Chip.{Chip}
use Rattle.claims_engine.specs.Claims.{replies_in}
use Rattle.claims_noise.specs.Examples.{erase_frame, reset}
use Rattle.claims_stars.specs.Table.{Example, acknowledged, example, fresh_memory, fresh_sums, ready_chip, the_part}
use Rattle.engine.specs.Engine.{EngineLeft, engine_of}
use Rattle.engine.specs.declared.EngineRefusal.TheVariants as EngineRefusal
use Rattle.engine.specs.declared.EngineRefusal.TheVariants.{NoRoom}
use Rattle.engine.specs.declared.EngineRefusal.{EngineRefusal}
use Rattle.chip_reply.specs.declared.Sent.{Sent}
use Rattle.frame.specs.Collector.{heard}
use Rattle.frame.specs.Judgement.{fault_of}
use Rattle.part.specs.Refusal.{number}
use Rattle.part.specs.declared.Part.{Part}

-- The refusal's number, 0 for none; then bytes and frames told.
abbrev pub answers_with : Result Sent EngineRefusal → List ℕ
answers_with (Ok sent) = 0 ∷ sent.bytes ∷ sent.frames ∷ []
answers_with (Err (EngineRefusal.Refused r)) = number r ∷ 0 ∷ 0 ∷ []
answers_with (Err NoRoom) = 12 ∷ 0 ∷ 0 ∷ []

-- The number of faults, and number and place of the first.
abbrev pub blamed : EngineLeft → List ℕ
blamed e = e.faults ∷ (fault_of e.first).number ∷ (fault_of e.first).place ∷ []

-- All of it, the replies, and what is held at the end.
abbrev pub what_is_left : EngineLeft → List ℕ
what_is_left e = answers_with e.answer ++ (blamed e ++ (replies_in e ++ heard e.chip.collector))

-- A stretch, with so much room.
abbrev pub playing : Part → Chip → ℕ → List ℕ → EngineLeft
playing p c n bs = engine_of p bs c fresh_memory (replicate n 0x00)

-- 9Ah with rate 00h and supply 21h, and its answer; A0h, and data for it.
abbrev pub rate_frame : List ℕ
rate_frame = 0x01 ∷ 0x03 ∷ 0x9A ∷ 0x00 ∷ 0x21 ∷ 0x42 ∷ 0x03 ∷ []

abbrev pub rate_reply : List ℕ
rate_reply = 0x02 ∷ 0x03 ∷ 0x06 ∷ 0x20 ∷ 0x00 ∷ 0xD7 ∷ 0x03 ∷ []

abbrev pub security_frame : List ℕ
security_frame = 0x01 ∷ 0x01 ∷ 0xA0 ∷ 0x5F ∷ 0x03 ∷ []

abbrev pub data_of_a0 : List ℕ
data_of_a0 = 0x02 ∷ 0x08 ∷ 0xFF ∷ 0x03 ∷ 0x00 ∷ 0x00 ∷ 0x0F ∷ 0x00 ∷ 0xFF ∷ 0xFF ∷ 0xE9 ∷ 0x03 ∷ []

-- The frame of document 01's examples that has a good Reset inside it, with the footer 17h: blamed with 15h.
abbrev pub around_reset : List ℕ
around_reset = 0x01 ∷ 0x07 ∷ 0xB0 ∷ 0x01 ∷ 0x01 ∷ 0x00 ∷ 0xFF ∷ 0x03 ∷ 0x00 ∷ 0x45 ∷ 0x17 ∷ []

abbrev pub wrong_footer : List ℕ
wrong_footer = 0x02 ∷ 0x01 ∷ 0x15 ∷ 0xEA ∷ 0x03 ∷ []

abbrev pub bad_sum : List ℕ
bad_sum = 0x02 ∷ 0x01 ∷ 0x07 ∷ 0xF8 ∷ 0x03 ∷ []

-- The first three bytes of Reset are held, and its rest is fed after them.
abbrev pub begun_reset : EngineLeft
begun_reset = playing the_part ready_chip.chip 96 (take 3 reset)

abbrev pub ended_reset : EngineLeft
ended_reset = engine_of the_part (drop 3 reset) begun_reset.chip begun_reset.memory (replicate 64 0x00)

-- Flash with 00h at 0400h and a wrong kept sum of that block; "Erase 0400h" works it out afresh, and B0h of that block tells it: 0400h.
abbrev pub stored_row : Memory
stored_row = memory (set (replicate 16384 0xFF) 0x0400 0x00) (replicate 4096 0xFF) (set fresh_sums 1 0)

abbrev pub checksum_frame : List ℕ
checksum_frame = 0x01 ∷ 0x07 ∷ 0xB0 ∷ 0x00 ∷ 0x04 ∷ 0x00 ∷ 0xFF ∷ 0x07 ∷ 0x00 ∷ 0x3F ∷ 0x03 ∷ []

abbrev pub checksum_reply : List ℕ
checksum_reply = 0x02 ∷ 0x02 ∷ 0x00 ∷ 0x04 ∷ 0xFA ∷ 0x03 ∷ []

abbrev pub undescribed : Part
undescribed =
    record {
      code_blocks = 7;
      data_blocks = 4;
      clock = 32;
      device = the_part.device;
      name = the_part.name;
      version = the_part.version;
    }

unfoldable pub stretches : List Example
stretches =
    -- One stretch from a fresh chip: the mode byte 00h, FFh before a header, 9Ah and Reset; two answers stand in the room
    example (what_is_left (playing the_part (fresh_chip the_part) 448 (0x00 ∷ 0xFF ∷ rate_frame ++ reset))) (0 ∷ 12 ∷ 2 ∷ 0 ∷ 0 ∷ 0 ∷ rate_reply ++ acknowledged)
    -- The header sought is 01h, then 02h, then 01h again: A0h, a byte before 02h, its data, Reset
    ∷ example (what_is_left (playing the_part ready_chip.chip 800 (security_frame ++ 0x01 ∷ (data_of_a0 ++ reset))))
    (0 ∷ 15 ∷ 3 ∷ 0 ∷ 0 ∷ 0 ∷ acknowledged ++ (acknowledged ++ acknowledged))
    -- A bad frame with a good one inside it is answered once: its bytes are not looked at again
    ∷ example (what_is_left (playing the_part ready_chip.chip 352 around_reset)) (0 ∷ 5 ∷ 1 ∷ 1 ∷ 1 ∷ 10 ∷ wrong_footer)
    -- Two bad frames, the SUM's fault first, and then Reset
    ∷ example (what_is_left (playing the_part ready_chip.chip 672 (set reset 3 0xFE ++ (around_reset ++ reset))))
    (0 ∷ 15 ∷ 3 ∷ 2 ∷ 2 ∷ 3 ∷ bad_sum ++ (wrong_footer ++ acknowledged))
    -- A frame sees the flash and the kept sums that the frame before it left
    ∷ example (what_is_left (engine_of the_part (erase_frame ++ checksum_frame) ready_chip.chip stored_row (replicate 608 0x00)))
    (0 ∷ 16 ∷ 3 ∷ 0 ∷ 0 ∷ 0 ∷ acknowledged ++ (acknowledged ++ checksum_reply))
    -- A stretch that ends within a frame, and the rest of that
    ∷ example (what_is_left begun_reset) (0 ∷ 0 ∷ 0 ∷ 0 ∷ 0 ∷ 0 ∷ take 3 reset)
    ∷ example (what_is_left ended_reset) (0 ∷ 5 ∷ 1 ∷ 0 ∷ 0 ∷ 0 ∷ acknowledged)
    -- The empty stretch in no room: taken, and refused by 1
    ∷ example (what_is_left (playing the_part ready_chip.chip 0 [])) (0 ∷ 0 ∷ 0 ∷ 0 ∷ 0 ∷ 0 ∷ [])
    ∷ example (what_is_left (playing undescribed ready_chip.chip 0 [])) (1 ∷ 0 ∷ 0 ∷ 0 ∷ 0 ∷ 0 ∷ [])
    -- One byte: in 31 bytes of room, in 32; and in none, where the part is bad
    ∷ example (what_is_left (playing the_part ready_chip.chip 31 (0x01 ∷ []))) (12 ∷ 0 ∷ 0 ∷ 0 ∷ 0 ∷ 0 ∷ [])
    ∷ example (what_is_left (playing the_part ready_chip.chip 32 (0x01 ∷ []))) (0 ∷ 0 ∷ 0 ∷ 0 ∷ 0 ∷ 0 ∷ 0x01 ∷ [])
    ∷ example (what_is_left (playing undescribed ready_chip.chip 0 (0x01 ∷ []))) (1 ∷ 0 ∷ 0 ∷ 0 ∷ 0 ∷ 0 ∷ [])
    ∷ []
