-- The ★ examples of document 01, "Examples, on that part": what the definitions give, and what the document prints, in the document's order.
use Rattle.std.specs.Prelude.{List, [], ◌++◌, ◌∷◌, map, ◌≡◌, ℕ, replicate, Ok}
use Rattle.chip.specs.Run.{answers, before, heard_back}
use Rattle.chip.specs.Step.{Outcome}
use Rattle.chip.specs.declared.Event.TheVariants.{Byte}
use Rattle.chip_core.specs.Effect.{Memory, memory}
use Rattle.chip_core.specs.declared.Phase.TheVariants.{Ready}
use Rattle.frame.specs.Collector.{fresh}
use Rattle.frame.specs.Judgement.{judge_of, status_of}
use Rattle.frame.specs.Sum.{sum_of}
use Rattle.frame.specs.declared.Footer.TheVariants.{Last}
use Rattle.chip_options.specs.Options.{fresh_options}
use Rattle.chip_options.specs.declared.Options.{Options}
use Rattle.chip_sums.specs.Sums.{slots, summing, worked_out}
use Rattle.part.specs.declared.Part.{Part}
use Rattle.replay_records.specs.Records.{replay_part}

-- "Examples, on that part": the part of the replay.
abbrev pub the_part : Part
the_part = replay_part

-- The sums of fresh flash: 0400h for each of its 16 code blocks and 4 data blocks; the slots of blocks that the part has not are 0.
abbrev pub fresh_sums : List ℕ
fresh_sums = replicate 16 0x0400 ++ (replicate 48 0 ++ (replicate 4 0x0400 ++ replicate 4 0))

-- Fresh flash, and its sums.
abbrev pub fresh_memory : Memory
fresh_memory = memory (replicate 16384 0xFF) (replicate 4096 0xFF) fresh_sums

-- They are what the call that works all sums out gives.
abbrev pub FreshSums : Type 0
FreshSums = worked_out the_part fresh_memory.flash (replicate slots 0) ≡ summing (Ok tt) fresh_sums

-- Ready, flash fresh, nothing collected; the room is the least that is accepted.
abbrev pub chip_with : Options → Outcome
chip_with o =
    before (record { core = record { options = o; rate = 0x00; phase = Ready }; collector = fresh }) fresh_memory (replicate 32 0x00)

abbrev pub ready_chip : Outcome
ready_chip = chip_with (fresh_options the_part)

unfoldable pub reply_by : Outcome → List ℕ → List ℕ
reply_by chip bs = heard_back (answers the_part (map Byte bs) chip)

abbrev pub reply_to : List ℕ → List ℕ
reply_to bs = reply_by ready_chip bs

pub record Example : Type 0 where
  pub gives : List ℕ
  pub printed : List ℕ

abbrev pub example : List ℕ → List ℕ → Example
example g p = record { gives = g; printed = p }

abbrev pub acknowledged : List ℕ
acknowledged = 0x02 ∷ 0x01 ∷ 0x06 ∷ 0xF9 ∷ 0x03 ∷ []

abbrev pub refused_parameter : List ℕ
refused_parameter = 0x02 ∷ 0x01 ∷ 0x05 ∷ 0xFA ∷ 0x03 ∷ []

abbrev pub refused_protection : List ℕ
refused_protection = 0x02 ∷ 0x01 ∷ 0x10 ∷ 0xEF ∷ 0x03 ∷ []

unfoldable pub table : List Example
table =
    -- 01 01 A1 has SUM 5Eh; 02 04 FF 80 40 22 has 1Bh, and 1Ah there is 07h
    example (sum_of (0x01 ∷ 0xA1 ∷ []) ∷ []) (0x5E ∷ [])
    ∷ example (sum_of (0x04 ∷ 0xFF ∷ 0x80 ∷ 0x40 ∷ 0x22 ∷ []) ∷ []) (0x1B ∷ [])
    ∷ example (status_of (judge_of Last (0x02 ∷ 0x04 ∷ 0xFF ∷ 0x80 ∷ 0x40 ∷ 0x22 ∷ 0x1A ∷ 0x03 ∷ [])) ∷ []) (0x07 ∷ [])
    -- Erase 0400h; 0401h
    ∷ example (reply_to (0x01 ∷ 0x04 ∷ 0x22 ∷ 0x00 ∷ 0x04 ∷ 0x00 ∷ 0xD6 ∷ 0x03 ∷ [])) acknowledged
    ∷ example (reply_to (0x01 ∷ 0x04 ∷ 0x22 ∷ 0x01 ∷ 0x04 ∷ 0x00 ∷ 0xD5 ∷ 0x03 ∷ [])) refused_parameter
    -- Erase 3C00h; 4000h
    ∷ example (reply_to (0x01 ∷ 0x04 ∷ 0x22 ∷ 0x00 ∷ 0x3C ∷ 0x00 ∷ 0x9E ∷ 0x03 ∷ [])) acknowledged
    ∷ example (reply_to (0x01 ∷ 0x04 ∷ 0x22 ∷ 0x00 ∷ 0x40 ∷ 0x00 ∷ 0x9A ∷ 0x03 ∷ [])) refused_parameter
    -- F1000h; F2000h
    ∷ example (reply_to (0x01 ∷ 0x04 ∷ 0x22 ∷ 0x00 ∷ 0x10 ∷ 0x0F ∷ 0xBB ∷ 0x03 ∷ [])) acknowledged
    ∷ example (reply_to (0x01 ∷ 0x04 ∷ 0x22 ∷ 0x00 ∷ 0x20 ∷ 0x0F ∷ 0xAB ∷ 0x03 ∷ [])) refused_parameter
    -- B0h on a fresh block: 06h, then 02 02 00 04 FA 03
    ∷ example (reply_to (0x01 ∷ 0x07 ∷ 0xB0 ∷ 0x00 ∷ 0x00 ∷ 0x00 ∷ 0xFF ∷ 0x03 ∷ 0x00 ∷ 0x47 ∷ 0x03 ∷ []))
    (0x02 ∷ 0x01 ∷ 0x06 ∷ 0xF9 ∷ 0x03 ∷ 0x02 ∷ 0x02 ∷ 0x00 ∷ 0x04 ∷ 0xFA ∷ 0x03 ∷ [])
    -- 01 07 B0 01 01 00 FF 03 00 45 03 is answered 05h. With its first byte 11h, the inner 01 01 00 FF 03 is a good Reset
    ∷ example (reply_to (0x01 ∷ 0x07 ∷ 0xB0 ∷ 0x01 ∷ 0x01 ∷ 0x00 ∷ 0xFF ∷ 0x03 ∷ 0x00 ∷ 0x45 ∷ 0x03 ∷ [])) refused_parameter
    ∷ example (reply_to (0x11 ∷ 0x07 ∷ 0xB0 ∷ 0x01 ∷ 0x01 ∷ 0x00 ∷ 0xFF ∷ 0x03 ∷ 0x00 ∷ 0x45 ∷ 0x03 ∷ [])) acknowledged
    ∷ []

-- "judged in this order ..: parameters 05h; protection 10h": while block erase is forbidden, 0401h is answered 05h, and 0400h 10h.
abbrev pub erase_forbidden : Outcome
erase_forbidden = chip_with (record { flags = 0xFB; boot = 0x03; start = 0; end = 15 })

unfoldable pub order : List Example
order =
    example (reply_by erase_forbidden (0x01 ∷ 0x04 ∷ 0x22 ∷ 0x01 ∷ 0x04 ∷ 0x00 ∷ 0xD5 ∷ 0x03 ∷ [])) refused_parameter
    ∷ example (reply_by erase_forbidden (0x01 ∷ 0x04 ∷ 0x22 ∷ 0x00 ∷ 0x04 ∷ 0x00 ∷ 0xD6 ∷ 0x03 ∷ [])) refused_protection
    ∷ []
