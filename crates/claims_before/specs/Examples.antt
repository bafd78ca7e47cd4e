-- Worked examples on the part of document 01's: ranges of one block and of two, and what B0h over them says to a chip whose sums of code block 1 and data block 0
-- are 1234h, which is wrong: all of its flash is FFh.
use Rattle.std.specs.Prelude.{List, [], ◌++◌, ◌∷◌, map, ◌≡◌, ℕ, replicate, set, take, Some}
use Rattle.chip.specs.Run.{before, heard_back, run}
use Rattle.chip.specs.Step.{Outcome}
use Rattle.chip.specs.declared.Event.TheVariants.{Byte}
use Rattle.chip_core.specs.Effect.{Memory}
use Rattle.claims_before.specs.Asked.{SumOver}
use Rattle.claims_before.specs.Before.{answers_before}
use Rattle.claims_before.specs.Said.{says_sum}
use Rattle.claims_stars.specs.Table.{Example, acknowledged, example, fresh_memory, fresh_sums, ready_chip, reply_by, the_part}
use Rattle.part.specs.Part.{range_of, range_at}
use Rattle.part.specs.declared.Area.TheVariants.{CodeFlash, DataFlash}

pub record Ranges : Type 0 where
  pub one_of_code : range_of the_part 0x000400 0x0007FF ≡ Some (range_at CodeFlash 1 1)
  pub one_of_data : range_of the_part 0x0F1000 0x0F13FF ≡ Some (range_at DataFlash 0 1)
  pub two : range_of the_part 0x000000 0x0007FF ≡ Some (range_at CodeFlash 0 2)

abbrev pub spoiled : Memory
spoiled = record { flash = fresh_memory.flash; sums = set (set fresh_sums 1 0x1234) 64 0x1234 }

abbrev pub spoiled_chip : Outcome
spoiled_chip = before ready_chip.chip spoiled (replicate 32 0x00)

-- B0h over code block 1; data block 0; code block 2, whose sum is right; code blocks 0 and 1.
abbrev pub code_one : List ℕ
code_one = 0x01 ∷ 0x07 ∷ 0xB0 ∷ 0x00 ∷ 0x04 ∷ 0x00 ∷ 0xFF ∷ 0x07 ∷ 0x00 ∷ 0x3F ∷ 0x03 ∷ []

abbrev pub data_one : List ℕ
data_one = 0x01 ∷ 0x07 ∷ 0xB0 ∷ 0x00 ∷ 0x10 ∷ 0x0F ∷ 0xFF ∷ 0x13 ∷ 0x0F ∷ 0x09 ∷ 0x03 ∷ []

abbrev pub code_right : List ℕ
code_right = 0x01 ∷ 0x07 ∷ 0xB0 ∷ 0x00 ∷ 0x08 ∷ 0x00 ∷ 0xFF ∷ 0x0B ∷ 0x00 ∷ 0x37 ∷ 0x03 ∷ []

abbrev pub code_two : List ℕ
code_two = 0x01 ∷ 0x07 ∷ 0xB0 ∷ 0x00 ∷ 0x00 ∷ 0x00 ∷ 0xFF ∷ 0x07 ∷ 0x00 ∷ 0x43 ∷ 0x03 ∷ []

-- 1234h, 0400h and 0800h, low first, each after 06h.
abbrev pub said1234h : List ℕ
said1234h = acknowledged ++ 0x02 ∷ 0x02 ∷ 0x34 ∷ 0x12 ∷ 0xB8 ∷ 0x03 ∷ []

abbrev pub said0400h : List ℕ
said0400h = acknowledged ++ 0x02 ∷ 0x02 ∷ 0x00 ∷ 0x04 ∷ 0xFA ∷ 0x03 ∷ []

abbrev pub said0800h : List ℕ
said0800h = acknowledged ++ 0x02 ∷ 0x02 ∷ 0x00 ∷ 0x08 ∷ 0xF6 ∷ 0x03 ∷ []

abbrev pub LowFirst : Type 0
LowFirst = (says_sum 0x1234).bytes ≡ said1234h

unfoldable pub sums_said : List Example
sums_said =
    example (reply_by spoiled_chip code_one) said1234h
    ∷ example (reply_by spoiled_chip data_one) said1234h
    ∷ example (reply_by spoiled_chip code_right) said0400h
    ∷ example (reply_by spoiled_chip code_two) said0800h
    ∷ []

-- The chip before document 02, §1 says the sum worked out, whatever is kept.
unfoldable pub reply_before : List ℕ → List ℕ
reply_before bs = heard_back (answers_before the_part (map Byte bs) spoiled_chip)

unfoldable pub sums_before : List Example
sums_before =
    example (reply_before code_one) said0400h
    ∷ example (reply_before data_one) said0400h
    ∷ example (reply_before code_right) said0400h
    ∷ example (reply_before code_two) said0800h
    ∷ []

-- The last byte of the first one asks for the sum of code block 1: the claims' premise is met.
abbrev pub OneAsked : Type 0
OneAsked = SumOver the_part (run the_part (map Byte (take 10 code_one)) spoiled_chip) (Byte 0x03) CodeFlash 1 1
