-- The rehearsal, by plain computation on the definitions: the dock's frames, fed to the chip byte by byte after a gap, and the chip's replies, handed to
-- the dock, finish the job; the image is in place, all other flash as it was, the kept sums are those of flash, and the frames are counted.
-- Assumes nothing.
use mathlib.Core.Bool.{true}
use mathlib.Core.List.{◌++◌}
use mathlib.Core.Path.{◌≡◌, ap, refl}
use lib.ListN.{replicate}
use Rattle.dock_answer.specs.Answer.{deciding, judge_answer, judge_frames, matching, rate_matches, read_answer, shape, signature_matches, statuses}
use Rattle.chip.specs.Step.{byte_in, heard_byte, react_to, settled, step_of}
use Rattle.chip_frame.specs.Does.{frame_does, mode_byte}
use Rattle.chip_state.specs.Refusals.{good_awaited, good_begun, good_collected, good_core, good_phase, good_places, good_state, verdict_of}
use Rattle.claims_rehearsal.specs.Cable.{cable, exchange, speaks}
use Rattle.claims_rehearsal.specs.Rehearsal.{OldSums, finished_after, holds, is_summed, Remains, remains, remains_of, mixed, old_code, old_data, ready_at, rehearsal_image, rehearsed, rehearsed_data, the_chip, the_data_image}
use Rattle.dock.specs.Calls.{ask_of, asked, begin_of, fresh_dock, hear_of, standing, starting, turning}
use Rattle.chip_commands.specs.Commands.{allowed_in, command_does, reading_does, work}
use Rattle.commands.specs.Commands.{com_of, command_table, fitted, information_of, payload_of, read_command, read_in}
use Rattle.chip_work.specs.Work.{blank_check, block_erase, checksum, erased_in, forbidden, programming, rate_set, security_release, verify}
use Rattle.chip_sums.specs.Sums.{all_summed, block_sum, flash_verdict, range_bytes, resummed, slot, summed_by, summed_to, worked_out}
use Rattle.chip_pages.specs.Pages.{bad_data, compared, data_does, footer_of, good_data, is_last_page, length_of, next_page, page_in}
use Rattle.chip_pages.specs.Pages.{page_status, page_stored, page_written, program_page, security_data, stored_reply, told_written, verify_page, verify_status}
use Rattle.chip_flash.specs.Flash.{blank, erase_of, lands, programmed, sum_of_bytes}
use Rattle.dock_flow.specs.Flow.{after_answer, after_heard, after_setup, after_status, after_work, block_from, in_block, next, retried, says_not_blank, setup_from}
use Rattle.dock_flow.specs.Frames.{first_of_block, frame_at, hand_of, handed, last_of_block, last_page, page_footer, query_with, stored_form, work_frame}
use Rattle.frame.specs.Collector.{fresh, hear, heard, holding}
use Rattle.frame.specs.Frame.{complete, counted, framed, full, is_frame, payload}
use Rattle.frame.specs.Judgement.{fitting, judge_of, summed}
use Rattle.frame.specs.Sum.{less, less_all, sum_of}
use Rattle.frame.specs.Wire.{judge_reply, unfit_reply}
use Rattle.dock_job.specs.Job.{area_in, blocks_in, bound, is_over, setup}
use Rattle.dock_job.specs.Refusals.{bad_job, bad_state, call_verdict, due, good_block, good_dock, good_ending, good_failure, good_named_block, good_named_page, good_page, good_stage, good_work, is_bad, out_of_turn, short_room, spent}
use Rattle.lent.specs.Lent.{all_are, put_at, put_of, same}
use Rattle.chip_options.specs.Options.{fixed_bits, fresh_options, good_options, is_fresh, last_block, option_bytes, options_in, raises, released, rises, security}
use Rattle.numbers.specs.Numbers.{low_first, number_at}
use Rattle.part.specs.Part.{block_of, block_size, described, ends_block, last_of, lies_in, page_of, place_in, place_of, range_of, starts_block, stretch, whole_blocks}
use Rattle.part.specs.Rate.{accepts_rate, mode_of}
use Rattle.part.specs.Refusal.{first_of}
use Rattle.part.specs.Signature.{signature}
use Rattle.chip_reply.specs.Reply.{frames_of, payloads, said_of}
use Rattle.words.specs.Words.{◌and◌, ◌from◌to◌, ◌or◌, if◌then◌otherwise◌}
use Rattle.frame.specs.Framing.{frames, framing}
use Rattle.chip_core.specs.Hearing.{hearing}

pub old-sums : OldSums
unfolding sum_of_bytes all_summed block_sum flash_verdict range_bytes slot summed_by summed_to worked_out less less_all block_size described first_of ◌and◌ ◌from◌to◌
    if◌then◌otherwise◌
old-sums = refl

-- Each rehearsal is computed once. Two blocks that were not blank: 3 + 2 * 12 frames. The chip is ready at the job's rate, the image in place, and all other flash
-- as it was.
rehearsal : remains_of rehearsed (replicate 2048 0x42 ++ rehearsal_image ++ replicate 4096 0x42) old_data ≡ remains (finished_after 27) (ready_at 0x03)
unfolding byte_in frame_does heard_byte mode_byte react_to settled step_of allowed_in command_does reading_does work hearing blank erase_of sum_of_bytes fixed_bits
    fresh_options good_options is_fresh last_block option_bytes options_in raises released rises security bad_data data_does footer_of good_data is_last_page length_of
    next_page page_in page_stored page_status page_written told_written lands programmed program_page security_data stored_reply compared verify_status verify_page
    frames_of payloads said_of good_awaited good_begun good_collected good_core good_phase good_places good_state verdict_of blank_check block_erase checksum erased_in
    forbidden programming all_summed block_sum range_bytes resummed slot summed_to rate_set security_release verify cable exchange speaks holds is_summed remains_of
    mixed rehearsal_image rehearsed the_chip com_of command_table fitted information_of payload_of read_command read_in ask_of asked begin_of fresh_dock hear_of standing
    starting turning deciding judge_answer judge_frames matching rate_matches read_answer shape signature_matches statuses after_answer after_heard after_setup
    after_status after_work block_from in_block next retried says_not_blank setup_from first_of_block frame_at hand_of handed last_of_block last_page page_footer query_with
    stored_form work_frame area_in blocks_in bound is_over setup bad_job bad_state call_verdict due good_block good_dock good_ending good_failure good_named_block
    good_named_page good_page good_stage good_work is_bad out_of_turn short_room spent fresh hear heard holding complete counted framed full is_frame payload frames
    framing fitting judge_of summed less less_all sum_of judge_reply unfit_reply all_are put_at put_of same low_first number_at block_of block_size described ends_block
    last_of lies_in page_of place_in place_of range_of starts_block stretch whole_blocks accepts_rate mode_of first_of signature ◌and◌ ◌from◌to◌ ◌or◌ if◌then◌otherwise◌
rehearsal = refl

pub rehearsal-dock : rehearsed.dock ≡ finished_after 27
unfolding remains_of
rehearsal-dock = ap (λ (x : Remains). x.dock) rehearsal

pub rehearsal-chip : rehearsed.chip.chip.core ≡ ready_at 0x03
unfolding remains_of
rehearsal-chip = ap (λ (x : Remains). x.core) rehearsal

pub rehearsal-flash : holds rehearsed.chip.memory (replicate 2048 0x42 ++ rehearsal_image ++ replicate 4096 0x42) old_data ≡ true
unfolding remains_of
rehearsal-flash = ap (λ (x : Remains). x.flash) rehearsal

pub rehearsal-sums : is_summed rehearsed.chip.memory ≡ true
unfolding remains_of
rehearsal-sums = ap (λ (x : Remains). x.sums) rehearsal

-- One block of data flash: 3 + 12 frames, and no byte of code flash changed.
data-rehearsal : remains_of rehearsed_data old_code the_data_image ≡ remains (finished_after 15) (ready_at 0x00)
unfolding byte_in frame_does heard_byte mode_byte react_to settled step_of allowed_in command_does reading_does work hearing blank erase_of sum_of_bytes fixed_bits
    fresh_options good_options is_fresh last_block option_bytes options_in raises released rises security bad_data data_does footer_of good_data is_last_page length_of
    next_page page_in page_stored page_status page_written told_written lands programmed program_page security_data stored_reply compared verify_status verify_page
    frames_of payloads said_of good_awaited good_begun good_collected good_core good_phase good_places good_state verdict_of blank_check block_erase checksum erased_in
    forbidden programming all_summed block_sum range_bytes resummed slot summed_to rate_set security_release verify cable exchange speaks holds is_summed remains_of
    mixed rehearsed_data the_chip the_data_image com_of command_table fitted information_of payload_of read_command read_in ask_of asked begin_of fresh_dock hear_of
    standing starting turning deciding judge_answer judge_frames matching rate_matches read_answer shape signature_matches statuses after_answer after_heard
    after_setup after_status after_work block_from in_block next retried says_not_blank setup_from first_of_block frame_at hand_of handed last_of_block last_page page_footer
    query_with stored_form work_frame area_in blocks_in bound is_over setup bad_job bad_state call_verdict due good_block good_dock good_ending good_failure good_named_block
    good_named_page good_page good_stage good_work is_bad out_of_turn short_room spent fresh hear heard holding complete counted framed full is_frame payload frames
    framing fitting judge_of summed less less_all sum_of judge_reply unfit_reply all_are put_at put_of same low_first number_at block_of block_size described ends_block
    last_of lies_in page_of place_in place_of range_of starts_block stretch whole_blocks accepts_rate mode_of first_of signature ◌and◌ ◌from◌to◌ ◌or◌ if◌then◌otherwise◌
data-rehearsal = refl

pub rehearsal-data : rehearsed_data.dock ≡ finished_after 15
unfolding remains_of
rehearsal-data = ap (λ (x : Remains). x.dock) data-rehearsal

pub rehearsal-data-flash : holds rehearsed_data.chip.memory old_code the_data_image ≡ true
unfolding remains_of
rehearsal-data-flash = ap (λ (x : Remains). x.flash) data-rehearsal

pub rehearsal-data-sums : is_summed rehearsed_data.chip.memory ≡ true
unfolding remains_of
rehearsal-data-sums = ap (λ (x : Remains). x.sums) data-rehearsal
