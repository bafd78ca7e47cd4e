-- Worked examples of 40h's two rules, on the part of document 01's: 0400h to 04FFh, the first page of code block 1, hold 55h; all else of flash is FFh.
use Rattle.std.specs.Prelude.{List, [], ◌++◌, ◌∷◌, map, ◌≢◌, ◌≡◌, ℕ, get_or, replicate, set, take}
use Rattle.chip.specs.Run.{before, onward, run}
use Rattle.chip.specs.Step.{Outcome}
use Rattle.chip.specs.declared.Event.{Event}
use Rattle.chip.specs.declared.Event.TheVariants.{Byte}
use Rattle.chip_core.specs.Effect.{Memory, memory}
use Rattle.chip_core.specs.declared.Phase.TheVariants.{Awaiting}
use Rattle.chip_flash.specs.Flash.{programmed}
use Rattle.chip_options.specs.Options.{fresh_options}
use Rattle.chip_pages.specs.Pages.{page_written}
use Rattle.claims_before.specs.Rules.{onward_under}
use Rattle.claims_before.specs.Stored.{WritesOtherwise, rules_before_clearing}
use Rattle.claims_before.specs.VerifyExamples.{said_in}
use Rattle.claims_good.specs.Good.{Stands}
use Rattle.claims_pages.specs.Examples.{first_awaited, write_failed}
use Rattle.claims_pages.specs.Sent.{PageSent, old_page}
use Rattle.claims_stars.specs.Table.{fresh_sums, the_part}
use Rattle.claims_verify.specs.Examples.{acknowledged_twice}
use Rattle.frame.specs.Collector.{fresh}
use Rattle.lent.specs.Lent.{put_at}
use Rattle.part.specs.Part.{place_of}

-- The sums are right: block 1's is 0000h less 256 times 55h and 768 times FFh.
abbrev pub written_once : Memory
written_once = memory (put_at (replicate 16384 0xFF) 0x0400 (replicate 256 0x55)) (replicate 4096 0xFF) (set fresh_sums 1 0xAE00)

-- 40h over the block awaits its first page.
abbrev pub overwriting_chip : Outcome
overwriting_chip =
    before (record { core = record { options = fresh_options the_part; rate = 0x00; phase = Awaiting first_awaited }; collector = fresh }) written_once
    (replicate 32 0x00)

-- A page of one byte, 256 times; and the chip that has heard all of its frame but the footer, the 260th byte.
unfoldable pub frame_all : ℕ → List ℕ
frame_all b = 0x02 ∷ 0x00 ∷ replicate 256 b ++ 0x00 ∷ 0x17 ∷ []

abbrev pub writing_all : ℕ → Outcome
writing_all b = run the_part (map Byte (take 259 (frame_all b))) overwriting_chip

-- The same page again, and one of AAh, are inputs on which the rules differ, to a chip that stands: the premises of both claims are met.
pub record WritesMet (o : Outcome) (v : Event) : Type 0 where
  pub stands : Stands the_part o
  pub otherwise : WritesOtherwise the_part o v

abbrev pub ResentMet : Type 0
ResentMet = WritesMet (writing_all 0x55) (Byte 0x17)

abbrev pub MixedMet : Type 0
MixedMet = WritesMet (writing_all 0xAA) (Byte 0x17)

-- A page of FFh clears nothing: the premises of `UnchangedAsBefore` are met.
pub record UnchangedMet : Type 0 where
  pub stands : Stands the_part (writing_all 0xFF)
  pub sent : PageSent (writing_all 0xFF) (Byte 0x17) first_awaited (replicate 256 0xFF)
  pub unlike : programmed (old_page the_part first_awaited (writing_all 0xFF)) (replicate 256 0xFF) ≢ replicate 256 0xFF
  pub stays : page_written the_part (place_of the_part 0x0400) (replicate 256 0xFF) (writing_all 0xFF).memory ≡ (writing_all 0xFF).memory

abbrev pub after_all : ℕ → Outcome
after_all b = onward the_part (writing_all b) (Byte 0x17)

abbrev pub after_all_before : ℕ → Outcome
after_all_before b = onward_under rules_before_clearing the_part (writing_all b) (Byte 0x17)

-- The byte of code flash at an address, and the sum that is kept for a block of it.
abbrev pub code_at : ℕ → Outcome → ℕ
code_at i o = get_or o.memory.flash.code_flash i 0

abbrev pub sum_kept : ℕ → Outcome → ℕ
sum_kept block o = get_or o.memory.sums block 0

-- AAh AND 55h is 00h, and the sum of block 1 then 0000h less 768 times FFh.
pub record StoredSaid : Type 0 where
  pub resent : said_in (after_all 0x55) ≡ acknowledged_twice
  pub resent_before : said_in (after_all_before 0x55) ≡ write_failed
  pub mixed : said_in (after_all 0xAA) ≡ write_failed
  pub mixed_before : said_in (after_all_before 0xAA) ≡ write_failed
  pub mixed_byte : code_at 0x0400 (after_all 0xAA) ≡ 0x00
  pub byte_before : code_at 0x0400 (after_all_before 0xAA) ≡ 0x55
  pub mixed_sum : sum_kept 1 (after_all 0xAA) ≡ 0x0300
  pub sum_before : sum_kept 1 (after_all_before 0xAA) ≡ 0xAE00
