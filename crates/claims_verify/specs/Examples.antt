-- Worked pages of 13h, on the part of document 01's examples: document 02, §2, over code block 1, 0400h to 07FFh, where all is FFh.
use Rattle.std.specs.Prelude.{Bool, false, true, List, [], ◌++◌, ◌∷◌, map, ◌≡◌, ℕ, replicate}
use Rattle.chip.specs.Run.{before, run}
use Rattle.chip.specs.Step.{Outcome}
use Rattle.chip.specs.declared.Event.TheVariants.{Byte}
use Rattle.chip_core.specs.declared.Awaited.{Awaited}
use Rattle.chip_core.specs.declared.Phase.TheVariants.{Awaiting, Ready}
use Rattle.chip_options.specs.Options.{fresh_options}
use Rattle.claims_noise.specs.Examples.{cut_page}
use Rattle.claims_noise.specs.Noise.{then_gap}
use Rattle.claims_stars.specs.Table.{acknowledged, fresh_memory, ready_chip, reply_by, the_part}
use Rattle.claims_verify.specs.Told.{page_frames, verify_frame}
use Rattle.frame.specs.Collector.{fresh}
use Rattle.frame.specs.Frame.{data_frame}
use Rattle.frame.specs.declared.Footer.TheVariants.{More}

-- The chip of the examples while it awaits data.
abbrev pub chip_awaiting : Awaited → Outcome
chip_awaiting w =
    before (record { core = record { options = fresh_options the_part; rate = 0x00; phase = Awaiting w }; collector = fresh }) fresh_memory (replicate 32 0x00)

-- 13h over the block, at its first page; d is what it is handed in with.
abbrev pub block_awaited : Bool → Awaited
block_awaited d = record { command = 0x13; next = 0x0400; last = 0x07FF; differed = d }

abbrev pub verifying_chip : Bool → Outcome
verifying_chip d = chip_awaiting (block_awaited d)

-- A page as flash has it, and one whose first byte is 00h.
unfoldable pub equal_page : List ℕ
equal_page = replicate 256 0xFF

unfoldable pub different_page : List ℕ
different_page = 0x00 ∷ replicate 255 0xFF

abbrev pub all_equal : List (List ℕ)
all_equal = equal_page ∷ equal_page ∷ equal_page ∷ equal_page ∷ []

abbrev pub second_differs : List (List ℕ)
second_differs = equal_page ∷ different_page ∷ equal_page ∷ equal_page ∷ []

-- 06h 06h; 06h 0Fh; and 07h 07h.
abbrev pub acknowledged_twice : List ℕ
acknowledged_twice = 0x02 ∷ 0x02 ∷ 0x06 ∷ 0x06 ∷ 0xF2 ∷ 0x03 ∷ []

abbrev pub verify_failed : List ℕ
verify_failed = 0x02 ∷ 0x02 ∷ 0x06 ∷ 0x0F ∷ 0xE9 ∷ 0x03 ∷ []

abbrev pub sum_blamed : List ℕ
sum_blamed = 0x02 ∷ 0x02 ∷ 0x07 ∷ 0x07 ∷ 0xF0 ∷ 0x03 ∷ []

-- To four pages.
abbrev pub last_says : List ℕ → List ℕ
last_says s = acknowledged_twice ++ acknowledged_twice ++ acknowledged_twice ++ s

pub record ToldLate : Type 0 where
  pub none-differs : reply_by (verifying_chip false) (page_frames all_equal) ≡ last_says acknowledged_twice
  pub second-differs : reply_by (verifying_chip false) (page_frames second_differs) ≡ last_says verify_failed
  pub handed-in : reply_by (verifying_chip true) (page_frames all_equal) ≡ last_says verify_failed

-- The whole command from a ready chip.
pub record WholeTold : Type 0 where
  pub asked : verify_frame 0x0400 0x07FF ≡ 0x01 ∷ 0x07 ∷ 0x13 ∷ 0x00 ∷ 0x04 ∷ 0x00 ∷ 0xFF ∷ 0x07 ∷ 0x00 ∷ 0xDC ∷ 0x03 ∷ []
  pub none-differs : reply_by ready_chip (verify_frame 0x0400 0x07FF ++ page_frames all_equal) ≡ acknowledged ++ last_says acknowledged_twice
  pub second-differs : reply_by ready_chip (verify_frame 0x0400 0x07FF ++ page_frames second_differs) ≡ acknowledged ++ last_says verify_failed

-- The chip after a first page that differs; and a page as flash has it, with the SUM 01h where 00h is right.
abbrev pub differed_chip : Outcome
differed_chip = run the_part (map Byte (data_frame different_page More)) (verifying_chip false)

unfoldable pub wrong_sum : List ℕ
wrong_sum = 0x02 ∷ 0x00 ∷ equal_page ++ 0x01 ∷ 0x17 ∷ []

-- The difference is not told at once. A page cut short and a gap forget nothing. "A damaged page still ends the command at once."
pub record InBetween : Type 0 where
  pub at_first : reply_by (verifying_chip false) (data_frame different_page More) ≡ acknowledged_twice
  pub after_noise :
      reply_by (run the_part (then_gap cut_page) differed_chip) (page_frames (equal_page ∷ equal_page ∷ equal_page ∷ []))
      ≡ acknowledged_twice ++ acknowledged_twice ++ verify_failed
  pub damaged : reply_by differed_chip wrong_sum ≡ sum_blamed
  pub ends : (run the_part (map Byte wrong_sum) differed_chip).chip.core.phase ≡ Ready
