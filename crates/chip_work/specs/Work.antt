-- The work of each command: document 01, "Commands"; 000, chapter 3. Parameters before protection, then the work.
use Rattle.std.specs.Prelude.{Bool, false, not, ◌%◌, ℕ, eqb, ltb, None, Option, Some}
use Rattle.chip_core.specs.Effect.{Effect, Flash, Memory, awaiting, bytes_in, effect, says, told, with_bytes, with_flash}
use Rattle.chip_core.specs.Effect.{acknowledge, not_blank, parameter_error, protect_error}
use Rattle.chip_core.specs.declared.Core.{Core}
use Rattle.chip_core.specs.declared.Done.{Done}
use Rattle.chip_core.specs.declared.Phase.TheVariants.{Ready}
use Rattle.chip_flash.specs.Flash.{blank, erase_of, sum_of_bytes}
use Rattle.chip_sums.specs.Sums.{kept, range_bytes, resummed}
use Rattle.chip_options.specs.Options.{boot_allowed, erase_allowed, is_fresh, released, write_allowed}
use Rattle.part.specs.Part.{block_size}
use Rattle.part.specs.Rate.{accepts_rate, mode_of}
use Rattle.part.specs.declared.Area.{Area}
use Rattle.part.specs.declared.Area.TheVariants.{CodeFlash, DataFlash}
use Rattle.part.specs.declared.Part.{Part}
use Rattle.part.specs.declared.Range.{Range}
use Rattle.part.specs.declared.Place.{Place}
use Rattle.chip_reply.specs.declared.Reply.TheVariants.{Rate, Sum}
use Rattle.words.specs.Words.{◌and◌, ◌or◌, if◌then◌otherwise◌}

-- 9Ah: rate and supply, "else 05h. Reply holds 06h, clock, mode .. Then ready"
unfoldable pub rate_set : Part → Core → ℕ → ℕ → Done
rate_set p k rate supply =
    if not (accepts_rate p rate supply) then says parameter_error k
    otherwise told (Rate (mode_of p supply)) (record { options = k.options; rate = rate; phase = Ready })

-- "Boot blocks are code blocks 0 to 3."
abbrev pub is_boot : Area → ℕ → Bool
is_boot CodeFlash block = ltb block 4
is_boot DataFlash block = false

-- "0 forbids": what the work's own flag forbids, and for a boot block the boot flag.
unfoldable pub forbidden : Bool → Bool → Bool → Bool
forbidden allowed boot boot_flag = not allowed or boot and not boot_flag

-- 22h: "erases the block at the start address", which "must be the first of a block, else 05h";
-- 10h "if bit 2 is 0, or the block is a boot block and bit 1 is 0"
unfoldable pub erased_in : Area → ℕ → ℕ → Flash → Flash
erased_in a offset n m = with_bytes a m (erase_of (bytes_in a m) offset n).bytes

-- Its sum is worked out afresh (document 02, §1).
unfoldable pub block_erase : Part → Core → Option Place → Memory → Effect
block_erase p k None m = effect (says parameter_error k) m
block_erase p k (Some place) m =
    if not (eqb (place.offset % block_size p place.area) 0) then effect (says parameter_error k) m
    otherwise if forbidden (erase_allowed p k.options.flags) (is_boot place.area place.block) (boot_allowed p k.options.flags) then effect (says protect_error k) m
    otherwise effect (says acknowledge k) (resummed p (Some place) (with_flash m (erased_in place.area place.offset (block_size p place.area) m.flash)))

-- 32h: "range and D01. 00h: 1Bh unless all FFh. 01h: also unless flags and window are fresh. Other D01: 05h"
unfoldable pub blank_check : Part → Core → Option Range → ℕ → Flash → Done
blank_check p k None d01 m = says parameter_error k
blank_check p k (Some range) d01 m =
    if not (eqb d01 0x00 or eqb d01 0x01) then says parameter_error k
    otherwise if not (blank (range_bytes p range.area range.block range.count m)) then says not_blank k
    otherwise if eqb d01 0x01 and not (is_fresh p k.options) then says not_blank k
    otherwise says acknowledge k

-- 40h: "range; 06h, then pages"; 10h "if bit 4 is 0, or the range holds a boot block and bit 1 is 0"
unfoldable pub programming : Part → Core → Option Range → ℕ → ℕ → Done
programming p k None start end = says parameter_error k
programming p k (Some range) start end =
    if forbidden (write_allowed p k.options.flags) (is_boot range.area range.block) (boot_allowed p k.options.flags) then says protect_error k
    otherwise says acknowledge (awaiting 0x40 start end k)

-- 13h: "range; 06h, then pages"
unfoldable pub verify : Core → Option Range → ℕ → ℕ → Done
verify k None start end = says parameter_error k
verify k (Some range) start end = says acknowledge (awaiting 0x13 start end k)

-- B0h: "range; 06h, then a two-byte data frame, low first: 0000h less each byte, 16 bits"; "over one block .. the kept sum, right or wrong" (document 02, §1)
unfoldable pub checksum : Part → Core → Option Range → Memory → Done
checksum p k None m = says parameter_error k
checksum p k (Some range) m =
    if eqb range.count 1 then told (Sum (kept m.sums range.area range.block)) k
    otherwise told (Sum (sum_of_bytes (range_bytes p range.area range.block range.count m.flash))) k

-- A2h: "fresh flags and window"; 10h "if bit 1 or bit 2 is 0. Then A2h answers 1Bh unless all flash is blank."
unfoldable pub security_release : Part → Core → Flash → Done
security_release p k m =
    if not (boot_allowed p k.options.flags and erase_allowed p k.options.flags) then says protect_error k
    otherwise if not (blank m.code_flash and blank m.data_flash) then says not_blank k
    otherwise says acknowledge (record { options = released p k.options; rate = k.rate; phase = k.phase })
