-- Document 01's whole case, an empty, a short and a bad capture, and two seats in the new form, computed on the definitions: the characters that their replay prints.
-- Assumes nothing.
use mathlib.Core.List.{[]}
use mathlib.Core.Path.{◌≡◌, refl}
use Rattle.replay_capture.specs.Capture.{good_count, good_record, record_of, records_in, records_of, seat_of, spare_of, unused}
use Rattle.replay_capture.specs.declared.Form.TheVariants.{New, Old}
use Rattle.chip.specs.Step.{byte_in, fresh_chip, heard_byte, react_to, settled, step_of}
use Rattle.chip_frame.specs.Does.{frame_does, mode_byte}
use Rattle.chip_state.specs.Refusals.{good_awaited, good_begun, good_collected, good_core, good_phase, good_places, good_state, verdict_of}
use Rattle.claims_replay.specs.Cases.{bad_first, bad_second, end_none, other_bad, short_case, stopped_case, two_seats, whole_case, whole_printed}
use Rattle.claims_replay.specs.Printed.{digits_in, last_line, lines_in, printed}
use Rattle.chip_commands.specs.Commands.{allowed_in, command_does, reading_does, work}
use Rattle.commands.specs.Commands.{command_table, fitted, read_command, read_in}
use Rattle.chip_work.specs.Work.{blank_check, block_erase, checksum, erased_in, forbidden, programming, rate_set, security_release, verify}
use Rattle.frame.specs.Collector.{fresh, hear, heard, holding}
use Rattle.frame.specs.Frame.{complete, counted, framed, full, is_frame, payload}
use Rattle.frame.specs.Judgement.{fitting, judge_of, summed}
use Rattle.frame.specs.Sum.{less, less_all, sum_of}
use Rattle.replay_hex.specs.Hex.{digit_of, line_of, separator}
use Rattle.lent.specs.Lent.{all_are, put_at, put_of, same}
use Rattle.numbers.specs.Numbers.{low_first, number_at}
use Rattle.chip_options.specs.Options.{fixed_bits, fresh_options, good_options, is_fresh, last_block, option_bytes, options_in, raises, released, rises, security}
use Rattle.part.specs.Part.{block_of, block_size, described, ends_block, last_of, lies_in, page_of, place_in, place_of, range_of, starts_block, stretch, whole_blocks}
use Rattle.part.specs.Rate.{accepts_rate, mode_of}
use Rattle.part.specs.Refusal.{first_of}
use Rattle.replay_records.specs.Records.{next_by, replay_of, replayed_from, while_whole}
use Rattle.replay_play.specs.Play.{answering, ended_by, events_of, goes_on, play_by, play_of, play_with, played, played_into}
use Rattle.chip_reply.specs.Reply.{frames_of, payloads, said_of}
use Rattle.words.specs.Words.{◌and◌, ◌from◌to◌, ◌or◌, if◌then◌otherwise◌}
use Rattle.chip_flash.specs.Flash.{blank, erase_of, lands, programmed, sum_of_bytes}
use Rattle.chip_pages.specs.Pages.{bad_data, compared, data_does, footer_of, good_data, is_last_page, length_of, next_page, page_in}
use Rattle.chip_pages.specs.Pages.{page_status, page_stored, page_written, program_page, security_data, stored_reply, told_written, verify_page, verify_status}
use Rattle.frame.specs.Framing.{frames, framing}
use Rattle.part.specs.Signature.{signature}
use Rattle.chip_core.specs.Hearing.{hearing}

-- All by one computation.
record Computed : Type 0 where
  whole : printed Old whole_case ≡ whole_printed
  empty : printed Old [] ≡ end_none
  short : printed Old short_case ≡ bad_first
  stopped : printed Old stopped_case ≡ bad_first
  seats : printed New two_seats ≡ whole_printed
  other : printed New other_bad ≡ bad_second

computed : Computed
unfolding byte_in frame_does fresh_chip heard_byte mode_byte react_to settled step_of allowed_in command_does reading_does work hearing blank erase_of sum_of_bytes
    fixed_bits fresh_options good_options is_fresh last_block option_bytes options_in raises released rises security bad_data data_does footer_of good_data is_last_page
    length_of next_page page_in page_stored page_status page_written told_written lands programmed program_page security_data stored_reply compared verify_status
    verify_page frames_of payloads said_of good_awaited good_begun good_collected good_core good_phase good_places good_state verdict_of blank_check block_erase checksum
    erased_in forbidden programming rate_set security_release verify digits_in last_line lines_in printed command_table fitted read_command read_in fresh hear heard
    holding complete counted framed full is_frame payload frames framing fitting judge_of summed less less_all sum_of all_are put_at put_of same low_first number_at
    block_of block_size described ends_block last_of lies_in page_of place_in place_of range_of starts_block stretch whole_blocks accepts_rate mode_of first_of signature
    good_count good_record record_of records_in records_of seat_of spare_of unused digit_of line_of separator answering ended_by events_of goes_on next_by play_by play_of
    play_with played played_into replay_of replayed_from while_whole ◌and◌ ◌from◌to◌ ◌or◌ if◌then◌otherwise◌
computed = record { whole = refl; empty = refl; short = refl; stopped = refl; seats = refl; other = refl }

pub whole-case : printed Old whole_case ≡ whole_printed
whole-case = computed.whole

pub empty-case : printed Old [] ≡ end_none
empty-case = computed.empty

pub short-case : printed Old short_case ≡ bad_first
short-case = computed.short

pub stopped-case : printed Old stopped_case ≡ bad_first
stopped-case = computed.stopped

pub two-seats : printed New two_seats ≡ whole_printed
two-seats = computed.seats

pub other-bad : printed New other_bad ≡ bad_second
other-bad = computed.other
