-- The chip before document 02, §1: the rules that it replaced, without the sums. None is read or written here; those that are lent pass through.
-- What §1 did not replace is the chip's own, used by its name: so is how a page of 40h is written, which is §6's matter (specs/Stored).
use Rattle.std.specs.Prelude.{not, List, ◌%◌, ℕ, eqb, None, Option, Some}
use Rattle.chip.specs.Run.{Spoken}
use Rattle.chip.specs.Step.{Outcome}
use Rattle.chip.specs.declared.Event.{Event}
use Rattle.chip_core.specs.Effect.{Effect, Flash, Memory, acknowledge, effect, parameter_error, protect_error, says, told, with_flash}
use Rattle.chip_core.specs.declared.Awaited.{Awaited}
use Rattle.chip_core.specs.declared.Core.{Core}
use Rattle.chip_core.specs.declared.Done.{Done}
use Rattle.chip_flash.specs.Flash.{sum_of_bytes}
use Rattle.chip_options.specs.Options.{boot_allowed, erase_allowed}
use Rattle.chip_pages.specs.Pages.{page_in, page_programmed, page_status, told_written, verify_page}
use Rattle.chip_reply.specs.declared.Reply.TheVariants.{Sum}
use Rattle.chip_sums.specs.Sums.{range_bytes}
use Rattle.chip_work.specs.Work.{erased_in, forbidden, is_boot}
use Rattle.claims_before.specs.Rules.{Rules, answers_under, onward_under, rules_now, run_under}
use Rattle.part.specs.Part.{block_size}
use Rattle.part.specs.declared.Part.{Part}
use Rattle.part.specs.declared.Range.{Range}
use Rattle.part.specs.declared.Place.{Place}
use Rattle.words.specs.Words.{if◌then◌otherwise◌}

-- B0h: "range; 06h, then a two-byte data frame, low first: 0000h less each byte, 16 bits", worked out from flash over every range.
unfoldable pub checksum_before : Part → Core → Option Range → Flash → Done
checksum_before p k None m = says parameter_error k
checksum_before p k (Some range) m = told (Sum (sum_of_bytes (range_bytes p range.area range.block range.count m))) k

-- 22h: the block is erased.
unfoldable pub block_erase_before : Part → Core → Option Place → Memory → Effect
block_erase_before p k None m = effect (says parameter_error k) m
block_erase_before p k (Some place) m =
    if not (eqb (place.offset % block_size p place.area) 0) then effect (says parameter_error k) m
    otherwise if forbidden (erase_allowed p k.options.flags) (is_boot place.area place.block) (boot_allowed p k.options.flags) then effect (says protect_error k) m
    otherwise effect (says acknowledge k) (with_flash m (erased_in place.area place.offset (block_size p place.area) m.flash))

-- 40h: a page is written; its block's sum is not.
unfoldable pub program_page_before : Core → Awaited → Option Place → List ℕ → Memory → Effect
program_page_before k w at ds m =
    effect (told_written (page_status (page_in at m.flash) ds) w k) (with_flash m (page_programmed at ds m.flash))

-- The rules of the chip before §1, which replaced neither 13h's nor how a bad frame is answered.
abbrev pub rules_before_sums : Rules
rules_before_sums =
    record {
      erases = block_erase_before;
      sums = λ p k r m. checksum_before p k r m.flash;
      stores = λ p. program_page_before;
      compares = verify_page;
      to_bad_frame = rules_now.to_bad_frame;
      to_bad_page = rules_now.to_bad_page;
    }

-- Runs of it.
abbrev pub onward_before : Part → Outcome → Event → Outcome
onward_before p o v = onward_under rules_before_sums p o v

abbrev pub run_before : Part → List Event → Outcome → Outcome
run_before p vs o = run_under rules_before_sums p vs o

abbrev pub answers_before : Part → List Event → Outcome → List Spoken
answers_before p vs o = answers_under rules_before_sums p vs o
