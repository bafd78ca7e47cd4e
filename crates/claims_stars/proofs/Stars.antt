-- Every ★ example comes out as the document prints it: one claim about the definitions, by computation.
-- Assumes nothing.
use mathlib.Core.List.{map}
use mathlib.Core.Path.{◌≡◌, refl}
use Rattle.chip.specs.Run.{answers, heard_back}
use Rattle.chip.specs.Step.{byte_in, heard_byte, react_to, settled, step_of}
use Rattle.chip_frame.specs.Does.{frame_does, mode_byte}
use Rattle.chip_state.specs.Refusals.{good_awaited, good_begun, good_collected, good_core, good_phase, good_places, good_state, verdict_of}
use Rattle.claims_stars.specs.Table.{Example, FreshSums, order, reply_by, table}
use Rattle.chip_commands.specs.Commands.{allowed_in, command_does, reading_does, work}
use Rattle.commands.specs.Commands.{command_table, fitted, read_command, read_in}
use Rattle.chip_work.specs.Work.{blank_check, block_erase, checksum, erased_in, forbidden, programming, rate_set, security_release, verify}
use Rattle.chip_sums.specs.Sums.{all_summed, block_sum, flash_verdict, kept, range_bytes, slot, summed_by, summed_to, worked_out}
use Rattle.chip_flash.specs.Flash.{blank, erase_of, lands, programmed, sum_of_bytes}
use Rattle.frame.specs.Collector.{fresh, hear, heard, holding}
use Rattle.frame.specs.Frame.{complete, counted, framed, full, is_frame, payload}
use Rattle.frame.specs.Judgement.{fitting, judge_of, summed}
use Rattle.frame.specs.Sum.{less, less_all, sum_of}
use Rattle.lent.specs.Lent.{all_are, put_at, put_of, same}
use Rattle.numbers.specs.Numbers.{low_first, number_at}
use Rattle.chip_options.specs.Options.{fixed_bits, fresh_options, good_options, is_fresh, last_block, option_bytes, options_in, raises, released, rises, security}
use Rattle.part.specs.Part.{block_of, block_size, described, ends_block, last_of, lies_in, page_of, place_in, place_of, range_of, starts_block, stretch, whole_blocks}
use Rattle.part.specs.Refusal.{first_of}
use Rattle.chip_reply.specs.Reply.{frames_of, payloads, said_of}
use Rattle.words.specs.Words.{◌and◌, ◌from◌to◌, ◌or◌, if◌then◌otherwise◌}
use Rattle.chip_pages.specs.Pages.{bad_data, compared, data_does, footer_of, good_data, is_last_page, length_of, next_page, page_in}
use Rattle.chip_pages.specs.Pages.{page_status, page_stored, page_written, program_page, security_data, stored_reply, told_written, verify_page, verify_status}
use Rattle.frame.specs.Framing.{frames, framing}
use Rattle.part.specs.Rate.{accepts_rate, mode_of}
use Rattle.part.specs.Signature.{signature}
use Rattle.chip_core.specs.Hearing.{hearing}

pub stars : map (λ (x : Example). x.gives) table ≡ map (λ (x : Example). x.printed) table
unfolding answers heard_back byte_in frame_does heard_byte mode_byte react_to settled step_of allowed_in command_does reading_does work hearing blank erase_of sum_of_bytes
    fixed_bits fresh_options good_options is_fresh last_block option_bytes options_in raises released rises security bad_data data_does footer_of good_data is_last_page
    length_of next_page page_in page_stored page_status page_written told_written lands programmed program_page security_data stored_reply compared verify_status
    verify_page frames_of payloads said_of good_awaited good_begun good_collected good_core good_phase good_places good_state verdict_of blank_check block_erase checksum
    erased_in forbidden programming range_bytes rate_set security_release verify reply_by table command_table fitted read_command read_in fresh hear heard holding
    complete counted framed full is_frame payload frames framing fitting judge_of summed less less_all sum_of all_are put_at put_of same low_first number_at block_of
    block_size described ends_block last_of lies_in page_of place_in place_of range_of starts_block stretch whole_blocks accepts_rate mode_of first_of signature ◌and◌
    ◌from◌to◌ ◌or◌ if◌then◌otherwise◌ kept slot
stars = refl

pub in_order : map (λ (x : Example). x.gives) order ≡ map (λ (x : Example). x.printed) order
unfolding answers heard_back byte_in frame_does heard_byte mode_byte react_to settled step_of allowed_in command_does reading_does work hearing blank erase_of sum_of_bytes
    fixed_bits good_options is_fresh last_block option_bytes options_in raises released rises security bad_data data_does footer_of good_data is_last_page length_of
    next_page page_in page_stored page_status page_written told_written lands programmed program_page security_data stored_reply compared verify_status verify_page
    frames_of payloads said_of good_awaited good_begun good_collected good_core good_phase good_places good_state verdict_of blank_check block_erase checksum erased_in
    forbidden programming range_bytes rate_set security_release verify order reply_by command_table fitted read_command read_in fresh hear heard holding complete
    counted framed full is_frame payload frames framing fitting judge_of summed less less_all sum_of all_are put_at put_of same low_first number_at block_of block_size
    described ends_block last_of lies_in page_of place_in place_of range_of starts_block stretch whole_blocks accepts_rate mode_of first_of signature ◌and◌ ◌from◌to◌ ◌or◌
    if◌then◌otherwise◌
in_order = refl

-- The sums of fresh flash are those of the examples.
pub fresh-sums : FreshSums
unfolding sum_of_bytes all_summed block_sum flash_verdict range_bytes slot summed_by summed_to worked_out less less_all block_size described first_of ◌and◌ ◌from◌to◌
    if◌then◌otherwise◌
fresh-sums = refl
