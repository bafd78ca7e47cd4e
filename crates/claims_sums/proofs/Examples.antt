-- The worked sums come out, by computation.
-- Assumes nothing.
use mathlib.Core.Path.{refl}
use Rattle.chip.specs.Run.{run}
use Rattle.chip.specs.Step.{byte_in, heard_byte, react_to, settled, step_of}
use Rattle.chip_frame.specs.Does.{frame_does}
use Rattle.chip_commands.specs.Commands.{allowed_in, command_does, reading_does, work}
use Rattle.chip_core.specs.Hearing.{hearing}
use Rattle.chip_flash.specs.Flash.{blank, erase_of, lands, programmed, sum_of_bytes}
use Rattle.chip_options.specs.Options.{fixed_bits, fresh_options, good_options, last_block}
use Rattle.chip_pages.specs.Pages.{data_does, footer_of, good_data, is_last_page, length_of, page_in, page_status, page_stored, page_written, program_page, stored_reply, told_written}
use Rattle.chip_reply.specs.Reply.{frames_of, payloads, said_of}
use Rattle.chip_state.specs.Refusals.{good_begun, good_collected, good_core, good_phase, good_state, verdict_of}
use Rattle.chip_sums.specs.Sums.{all_summed, block_sum, flash_verdict, range_bytes, resummed, slot, summed_by, summed_to, worked_out}
use Rattle.chip_work.specs.Work.{block_erase, erased_in, forbidden}
use Rattle.claims_sums.specs.Examples.{FirstRefusal, Slots, Spoiled}
use Rattle.commands.specs.Commands.{command_table, fitted, read_command, read_in}
use Rattle.frame.specs.Collector.{fresh, hear, heard, holding}
use Rattle.frame.specs.Frame.{complete, counted, framed, full, is_frame, payload}
use Rattle.frame.specs.Judgement.{fitting, judge_of, summed}
use Rattle.frame.specs.Sum.{less, less_all, sum_of}
use Rattle.lent.specs.Lent.{all_are, put_at, put_of, same}
use Rattle.numbers.specs.Numbers.{low_first, number_at}
use Rattle.part.specs.Part.{block_of, block_size, described, lies_in, page_of, place_in, place_of}
use Rattle.part.specs.Refusal.{first_of}
use Rattle.words.specs.Words.{◌and◌, ◌from◌to◌, ◌or◌, if◌then◌otherwise◌}

pub slots-so : Slots
unfolding slot
slots-so = record { code-first = refl; code-last = refl; data-first = refl; data-last = refl }

pub spoiled-so : Spoiled
unfolding run byte_in frame_does heard_byte react_to settled step_of allowed_in command_does reading_does work hearing blank erase_of sum_of_bytes fixed_bits fresh_options
    good_options last_block data_does footer_of good_data is_last_page length_of page_in page_stored page_status page_written program_page stored_reply told_written lands programmed same frames_of payloads said_of good_begun good_collected good_core
    good_phase good_state verdict_of all_summed block_sum flash_verdict range_bytes resummed slot summed_by summed_to worked_out block_erase erased_in forbidden command_table fitted read_command read_in fresh hear heard holding
    complete counted framed full is_frame payload fitting judge_of summed less less_all sum_of all_are put_at put_of low_first number_at block_of block_size described lies_in
    page_of place_in place_of first_of ◌and◌ ◌from◌to◌ ◌or◌ if◌then◌otherwise◌
spoiled-so = record { other_block = refl; bad-frame = refl; forbidden = refl; gap-and-power-on = refl; own_block = refl; page = refl; mixed-status = refl; mixed-page = refl; taken-up = refl }

pub first-refusal : FirstRefusal
unfolding flash_verdict summed_by worked_out described block_size first_of ◌and◌ ◌from◌to◌ if◌then◌otherwise◌
first-refusal = record { part = refl; code = refl; «data» = refl }
