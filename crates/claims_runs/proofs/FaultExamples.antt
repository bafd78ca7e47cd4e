-- The worked faults come out as the documents' rules have them: by computation.
-- Assumes nothing.
use mathlib.Core.List.{map}
use mathlib.Core.Path.{◌≡◌, refl}
use Rattle.chip.specs.Step.{byte_in, heard_byte, react_to, settled, step_of}
use Rattle.chip_frame.specs.Does.{frame_does}
use Rattle.chip_commands.specs.Commands.{allowed_in, command_does, reading_does, work}
use Rattle.chip_core.specs.Hearing.{hearing}
use Rattle.chip_options.specs.Options.{fixed_bits, fresh_options, good_options, last_block}
use Rattle.chip_pages.specs.Pages.{bad_data, data_does, footer_of, is_last_page, length_of}
use Rattle.chip_reply.specs.Reply.{fault_in, frames_of, payloads, said_of}
use Rattle.chip_state.specs.Refusals.{good_awaited, good_begun, good_collected, good_core, good_phase, good_places, good_state, verdict_of}
use Rattle.chip_work.specs.Work.{block_erase}
use Rattle.claims_noise.specs.Examples.{page_frame}
use Rattle.claims_runs.specs.FaultExamples.{faults, told_by}
use Rattle.claims_stars.specs.Table.{Example}
use Rattle.commands.specs.Commands.{command_table, fitted, read_command, read_in}
use Rattle.frame.specs.Collector.{fresh, hear, heard, holding}
use Rattle.frame.specs.Frame.{complete, counted, framed, full, is_frame, payload}
use Rattle.frame.specs.Judgement.{fitting, judge_of, summed}
use Rattle.frame.specs.Sum.{less, less_all, sum_of}
use Rattle.numbers.specs.Numbers.{number_at}
use Rattle.part.specs.Part.{block_of, block_size, described, lies_in, page_of, place_in, place_of}
use Rattle.part.specs.Refusal.{first_of}
use Rattle.words.specs.Words.{◌and◌, ◌from◌to◌, ◌or◌, if◌then◌otherwise◌}

pub faults-told : map (λ (x : Example). x.gives) faults ≡ map (λ (x : Example). x.printed) faults
unfolding faults told_by byte_in frame_does heard_byte react_to settled step_of allowed_in command_does reading_does work hearing fixed_bits fresh_options good_options
    last_block bad_data data_does footer_of is_last_page length_of fault_in frames_of payloads said_of good_awaited good_begun good_collected good_core good_phase good_places
    good_state verdict_of block_erase page_frame command_table fitted read_command read_in fresh hear heard holding complete counted framed full is_frame payload
    fitting judge_of summed less less_all sum_of number_at block_of block_size described lies_in page_of place_in place_of first_of ◌and◌ ◌from◌to◌ ◌or◌ if◌then◌otherwise◌
faults-told = refl
