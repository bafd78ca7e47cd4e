-- The examples come out as the documents' rules have them: by computation.
-- Assumes nothing.
use mathlib.Core.List.{map}
use mathlib.Core.Path.{◌≡◌, refl}
use Rattle.chip.specs.Run.{answers, heard_back, run}
use Rattle.chip.specs.Step.{byte_in, heard_byte, react_to, settled, step_of}
use Rattle.chip_frame.specs.Does.{frame_does}
use Rattle.chip_commands.specs.Commands.{allowed_in, command_does, reading_does, work}
use Rattle.chip_core.specs.Hearing.{hearing}
use Rattle.chip_flash.specs.Flash.{sum_of_bytes}
use Rattle.chip_options.specs.Options.{fixed_bits, fresh_options, good_options, last_block}
use Rattle.chip_reply.specs.Reply.{frames_of, payloads, said_of}
use Rattle.chip_state.specs.Refusals.{good_begun, good_collected, good_core, good_phase, good_state, verdict_of}
use Rattle.chip_sums.specs.Sums.{kept, range_bytes, slot}
use Rattle.chip_work.specs.Work.{checksum}
use Rattle.claims_before.specs.Before.{checksum_before}
use Rattle.claims_before.specs.Examples.{LowFirst, OneAsked, Ranges, code_one, reply_before, sums_before, sums_said}
use Rattle.claims_before.specs.Rules.{answers_under, byte_in_under, command_does_under, frame_does_under, react_to_under, reading_does_under, step_under, work_under}
use Rattle.claims_before.specs.Said.{says_sum}
use Rattle.claims_frame.specs.Collecting.{collects_on, take-up}
use Rattle.claims_runs.specs.Taken.{taken_as, taken_in}
use Rattle.claims_stars.specs.Table.{Example, reply_by}
use Rattle.commands.specs.Commands.{command_table, fitted, read_command, read_in}
use Rattle.frame.specs.Collector.{fresh, hear, heard, holding}
use Rattle.frame.specs.Frame.{complete, counted, framed, full, is_frame, payload}
use Rattle.frame.specs.Judgement.{judge_of, summed}
use Rattle.frame.specs.Sum.{less, less_all, sum_of}
use Rattle.numbers.specs.Numbers.{low_first, number_at}
use Rattle.part.specs.Part.{block_of, block_size, described, ends_block, lies_in, range_of, starts_block, stretch, whole_blocks}
use Rattle.part.specs.Refusal.{first_of}
use Rattle.words.specs.Words.{◌and◌, ◌from◌to◌, ◌or◌, if◌then◌otherwise◌}

pub ranges : Ranges
unfolding block_of block_size ends_block lies_in range_of starts_block stretch whole_blocks ◌and◌ if◌then◌otherwise◌
ranges = record { one_of_code = refl; one_of_data = refl; two = refl }

pub low-first : LowFirst
unfolding says_sum framed sum_of less less_all if◌then◌otherwise◌
low-first = refl

pub sums-said : map (λ (x : Example). x.gives) sums_said ≡ map (λ (x : Example). x.printed) sums_said
unfolding answers heard_back byte_in frame_does heard_byte react_to settled step_of allowed_in command_does reading_does work hearing sum_of_bytes fixed_bits fresh_options
    good_options last_block frames_of payloads said_of good_begun good_collected good_core good_phase good_state verdict_of kept range_bytes slot checksum sums_said reply_by
    command_table fitted read_command read_in fresh hear heard holding complete counted framed full is_frame payload judge_of summed less less_all sum_of low_first number_at
    block_of block_size described ends_block lies_in range_of starts_block stretch whole_blocks first_of ◌and◌ ◌from◌to◌ ◌or◌ if◌then◌otherwise◌
sums-said = refl

pub sums-before : map (λ (x : Example). x.gives) sums_before ≡ map (λ (x : Example). x.printed) sums_before
unfolding answers_under heard_back byte_in_under frame_does_under heard_byte react_to_under settled step_under allowed_in command_does_under reading_does_under
    work_under hearing sum_of_bytes fixed_bits fresh_options good_options last_block frames_of payloads said_of good_begun good_collected good_core good_phase good_state
    verdict_of range_bytes checksum_before sums_before reply_before command_table fitted read_command read_in fresh hear heard holding complete counted framed full
    is_frame payload judge_of summed less less_all sum_of low_first number_at block_of block_size described ends_block lies_in range_of starts_block stretch whole_blocks
    first_of ◌and◌ ◌from◌to◌ ◌or◌ if◌then◌otherwise◌
sums-before = refl

pub one-asked : OneAsked
unfolding run byte_in heard_byte react_to settled step_of hearing fixed_bits fresh_options good_options last_block payloads said_of good_begun good_collected good_core
    good_phase good_state verdict_of command_table fitted read_command read_in fresh hear heard holding complete counted full is_frame payload judge_of summed less
    less_all sum_of number_at block_of block_size described ends_block lies_in range_of starts_block stretch whole_blocks first_of ◌and◌ ◌from◌to◌ if◌then◌otherwise◌ ◌or◌
    frames_of taken_in taken_as collects_on take-up
one-asked = record { frame = code_one; start = 0x0400; end = 0x07FF; phase = refl; taken = refl; good = refl; command = refl; range = refl }
