-- Worked sums, on the part of document 01's examples: a wrong sum stays until its block is touched.
use Rattle.std.specs.Prelude.{false, List, [], ◌∷◌, map, ◌≡◌, ℕ, replicate, set, Err, Ok}
use Rattle.chip.specs.Run.{before, run}
use Rattle.chip.specs.Step.{Outcome}
use Rattle.chip.specs.declared.Event.{Event}
use Rattle.chip.specs.declared.Event.TheVariants.{Byte, Gap, PowerOn}
use Rattle.chip_core.specs.Effect.{Effect, Memory, flash, memory}
use Rattle.chip_core.specs.declared.Awaited.{Awaited}
use Rattle.chip_pages.specs.Pages.{data_does}
use Rattle.chip_reply.specs.declared.Reply.TheVariants.{Pair}
use Rattle.chip_sums.specs.Sums.{slot, summing, worked_out}
use Rattle.claims_stars.specs.Table.{erase_forbidden, fresh_sums, ready_chip, the_part}
use Rattle.frame.specs.Frame.{data_frame}
use Rattle.frame.specs.declared.Footer.TheVariants.{More}
use Rattle.lent.specs.Lent.{put_at}
use Rattle.part.specs.declared.Area.TheVariants.{CodeFlash, DataFlash}
use Rattle.part.specs.declared.Part.{Part}
use Rattle.part.specs.declared.refusal.Refusal.TheVariants.{BadPart, CodeLength, DataLength}

-- The slots, from the first to the last: "Code flash: 8 to 64 blocks .. Data flash: 0 to 8 blocks".
pub record Slots : Type 0 where
  pub code-first : slot CodeFlash 0 ≡ 0
  pub code-last : slot CodeFlash 63 ≡ 63
  pub data-first : slot DataFlash 0 ≡ 64
  pub data-last : slot DataFlash 7 ≡ 71

-- The sums of fresh flash, block 2's spoiled; and a number in the slot of block 20, which the part has not.
abbrev pub spoiled_sums : List ℕ
spoiled_sums = set (set fresh_sums 2 0x1234) 20 0x5678

abbrev pub with_spoiled : Outcome → Outcome
with_spoiled o = before o.chip (record { flash = o.memory.flash; sums = spoiled_sums }) o.room

abbrev pub sums_after : Outcome → List Event → List ℕ
sums_after o vs = (run the_part vs (with_spoiled o)).memory.sums

-- "Erase 0800h", which is block 2; the same with a wrong SUM; "Erase 0C00h", which is block 3.
abbrev pub erase_two : List Event
erase_two = map Byte (0x01 ∷ 0x04 ∷ 0x22 ∷ 0x00 ∷ 0x08 ∷ 0x00 ∷ 0xD2 ∷ 0x03 ∷ [])

abbrev pub bad_erase : List Event
bad_erase = map Byte (0x01 ∷ 0x04 ∷ 0x22 ∷ 0x00 ∷ 0x08 ∷ 0x00 ∷ 0xD3 ∷ 0x03 ∷ [])

abbrev pub erase_three : List Event
erase_three = map Byte (0x01 ∷ 0x04 ∷ 0x22 ∷ 0x00 ∷ 0x0C ∷ 0x00 ∷ 0xCE ∷ 0x03 ∷ [])

-- A page of AAh for 0900h, in block 2, while 40h over that block awaits it. Its sum is 0000h less 768 times FFh and 256 times AAh.
abbrev pub page_in_block_two : Awaited
page_in_block_two = record { command = 0x40; next = 0x0900; last = 0x0BFF; differed = false }

abbrev pub sums_with_page : List ℕ
sums_with_page = (data_does the_part ready_chip.chip.core page_in_block_two (data_frame (replicate 256 0xAA) More) (with_spoiled ready_chip).memory).memory.sums

-- The same page where 0900h to 09FFh hold 55h: AAh AND 55h is 00h, so it is answered 1Ch, and the sum follows: 0000h less 768 times FFh.
abbrev pub with_old_page : Memory
with_old_page = memory (put_at ready_chip.memory.flash.code_flash 0x0900 (replicate 256 0x55)) ready_chip.memory.flash.data_flash spoiled_sums

abbrev pub page_over : Effect
page_over = data_does the_part ready_chip.chip.core page_in_block_two (data_frame (replicate 256 0xAA) More) with_old_page

pub record Spoiled : Type 0 where
  pub other_block : sums_after ready_chip erase_three ≡ spoiled_sums
  pub bad-frame : sums_after ready_chip bad_erase ≡ spoiled_sums
  pub forbidden : sums_after erase_forbidden erase_two ≡ spoiled_sums
  pub gap-and-power-on : sums_after ready_chip (Gap ∷ PowerOn ∷ []) ≡ spoiled_sums
  pub own_block : sums_after ready_chip erase_two ≡ set spoiled_sums 2 0x0400
  pub page : sums_with_page ≡ set spoiled_sums 2 0x5900
  pub mixed-status : page_over.reply ≡ Pair 0x06 0x1C
  pub mixed-page : page_over.memory.sums ≡ set spoiled_sums 2 0x0300
  pub taken-up : worked_out the_part ready_chip.memory.flash spoiled_sums ≡ summing (Ok tt) (set spoiled_sums 2 0x0400)

-- "Order for the chip: 1, 2, 3, ..": the call that works all sums out refuses by the first that holds, and leaves every slot.
abbrev pub no_part : Part
no_part = record { code_blocks = 7; data_blocks = 4; clock = 32; device = the_part.device; name = the_part.name; version = the_part.version }

pub record FirstRefusal : Type 0 where
  pub part : worked_out no_part (flash [] []) spoiled_sums ≡ summing (Err BadPart) spoiled_sums
  pub code : worked_out the_part (flash [] []) spoiled_sums ≡ summing (Err CodeLength) spoiled_sums
  pub «data» : worked_out the_part (flash ready_chip.memory.flash.code_flash []) spoiled_sums ≡ summing (Err DataLength) spoiled_sums
