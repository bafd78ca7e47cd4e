-- Worked examples of 13h's two rules, on the part of document 01's: two pages of code block 1, 0400h to 07FFh, where all of flash is FFh.
use Rattle.std.specs.Prelude.{false, true, List, [], ◌++◌, ◌∷◌, map, ◌≡◌, ℕ, replicate, take}
use Rattle.chip.specs.Run.{bytes_said, onward, run}
use Rattle.chip.specs.Step.{Outcome}
use Rattle.chip.specs.declared.Event.{Event}
use Rattle.chip.specs.declared.Event.TheVariants.{Byte}
use Rattle.chip_core.specs.declared.Awaited.{Awaited}
use Rattle.claims_before.specs.Rules.{onward_under}
use Rattle.claims_before.specs.Verify.{TellsOtherwise, rules_before_verify}
use Rattle.claims_good.specs.Good.{Stands}
use Rattle.claims_stars.specs.Table.{the_part}
use Rattle.claims_verify.specs.Examples.{acknowledged_twice, block_awaited, chip_awaiting, verify_failed}

-- A chip that has heard all of a page's frame but its footer, the 260th byte.
abbrev pub at_footer : Awaited → List ℕ → Outcome
at_footer w frame = run the_part (map Byte (take 259 frame)) (chip_awaiting w)

-- The first page, and in it 00h for FFh.
abbrev pub first_compared : Awaited
first_compared = block_awaited false

unfoldable pub different_frame : List ℕ
different_frame = 0x02 ∷ 0x00 ∷ 0x00 ∷ replicate 255 0xFF ++ 0xFF ∷ 0x17 ∷ []

-- The last page, after one that differed: it is equal.
abbrev pub last_compared : Awaited
last_compared = record { command = 0x13; next = 0x0700; last = 0x07FF; differed = true }

unfoldable pub equal_frame : List ℕ
equal_frame = 0x02 ∷ 0x00 ∷ replicate 256 0xFF ++ 0x00 ∷ 0x03 ∷ []

-- Each footer is an input on which the rules differ, to a chip that stands: the premises of both claims are met.
pub record OtherwiseMet (o : Outcome) (v : Event) : Type 0 where
  pub stands : Stands the_part o
  pub otherwise : TellsOtherwise the_part o v

abbrev pub FirstMet : Type 0
FirstMet = OtherwiseMet (at_footer first_compared different_frame) (Byte 0x17)

abbrev pub LastMet : Type 0
LastMet = OtherwiseMet (at_footer last_compared equal_frame) (Byte 0x03)

abbrev pub said_in : Outcome → List ℕ
said_in o = bytes_said o.answer o.room

pub record VerifySaid : Type 0 where
  pub first : said_in (onward the_part (at_footer first_compared different_frame) (Byte 0x17)) ≡ acknowledged_twice
  pub first_before : said_in (onward_under rules_before_verify the_part (at_footer first_compared different_frame) (Byte 0x17)) ≡ verify_failed
  pub last : said_in (onward the_part (at_footer last_compared equal_frame) (Byte 0x03)) ≡ verify_failed
  pub last_before : said_in (onward_under rules_before_verify the_part (at_footer last_compared equal_frame) (Byte 0x03)) ≡ acknowledged_twice
