-- The worked stretches come out as document 02, §7, has them: by computation.
-- Assumes nothing.
use mathlib.Core.List.{map}
use mathlib.Core.Path.{◌≡◌, refl}
use Prim.Native.Nat.{ℕ}
use native.Mathlib.Omega.{arith}
use lib.ListN.{drop, length-replicate, replicate, take}
use Rattle.chip.specs.Run.{answers, run}
use Rattle.chip.specs.Step.{fresh_chip}
use Rattle.chip_commands.specs.Commands.{allowed_in, command_does, reading_does, work}
use Rattle.chip_core.specs.Hearing.{hearing}
use Rattle.chip_frame.specs.Does.{frame_does, mode_byte}
use Rattle.chip_options.specs.Options.{fixed_bits, fresh_options, good_options, last_block, option_bytes, options_in, raises, rises}
use Rattle.chip_pages.specs.Pages.{bad_data, data_does, footer_of, good_data, is_last_page, length_of, security_data as takes_data}
use Rattle.chip_reply.specs.Reply.{fault_in, frames_of, payloads}
use Rattle.chip_state.specs.Refusals.{good_awaited, good_begun, good_collected, good_core, good_phase, good_places, good_state, verdict_of}
use Rattle.chip_flash.specs.Flash.{erase_of, sum_of_bytes}
use Rattle.chip_sums.specs.Sums.{block_sum, kept, range_bytes, resummed, slot}
use Rattle.chip_work.specs.Work.{block_erase, checksum, erased_in, forbidden, rate_set}
use Rattle.claims_noise.specs.Examples.{erase_frame, reset}
use Rattle.lent.specs.Lent.{put_at, put_of}
use Rattle.chip.specs.declared.Event.TheVariants.{Byte}
use Rattle.claims_engine.proofs.Append.{engine-append}
use Rattle.claims_engine.proofs.Claims.{engine-is-feeding}
use Rattle.claims_engine.specs.Claims.{Feeds, Joined}
use Rattle.claims_engine.specs.Examples.{begun_reset, ended_reset, playing, stretches}
use Rattle.claims_noise.proofs.Examples.{ready-stands}
use Rattle.claims_stars.specs.Table.{Example, fresh_memory, ready_chip, the_part}
use Rattle.frame.proofs.Laws.Sum.{more, none}
use Rattle.commands.specs.Commands.{command_table, fitted, read_command, read_in}
use Rattle.engine.specs.Engine.{after_frame, engine_by, engine_of, front_for, front_of, leaves, played_out, turn, turn_by, turns}
use Rattle.frame.specs.Collector.{fresh, heard, holding}
use Rattle.frame.specs.Frame.{complete, counted, framed, full, is_frame, payload}
use Rattle.frame.specs.Judgement.{fitting, judge_of, summed}
use Rattle.frame.specs.Sum.{less, less_all, sum_of}
use Rattle.numbers.specs.Numbers.{low_first, number_at}
use Rattle.part.specs.Part.{block_of, block_size, described, ends_block, last_of, lies_in, page_of, place_in, place_of, range_of, starts_block, stretch, whole_blocks}
use Rattle.part.specs.Rate.{accepts_rate, mode_of}
use Rattle.part.specs.Refusal.{first_of}
use Rattle.words.specs.Words.{◌and◌, ◌from◌to◌, ◌or◌, if◌then◌otherwise◌}

pub stretches-play : map (λ (x : Example). x.gives) stretches ≡ map (λ (x : Example). x.printed) stretches
unfolding stretches after_frame engine_by engine_of front_for front_of leaves played_out turn turn_by turns fresh_chip allowed_in command_does reading_does work hearing
    frame_does mode_byte fixed_bits fresh_options good_options last_block option_bytes options_in raises rises bad_data data_does footer_of good_data is_last_page length_of
    takes_data fault_in frames_of payloads good_awaited good_begun good_collected good_core good_phase good_places good_state verdict_of rate_set command_table fitted
    read_command read_in fresh heard holding complete counted framed full is_frame payload fitting judge_of summed less less_all sum_of number_at block_of block_size
    described ends_block last_of lies_in page_of place_in place_of range_of starts_block stretch whole_blocks erase_of sum_of_bytes block_sum kept range_bytes resummed slot
    block_erase checksum erased_in forbidden erase_frame put_at put_of low_first accepts_rate mode_of first_of ◌and◌ ◌from◌to◌ ◌or◌ if◌then◌otherwise◌
stretches-play = refl

-- The claims' premises are met: of Reset cut after three bytes, the first part and both.
pub begun-feeds : Feeds begun_reset (run the_part (map Byte (take 3 reset)) ready_chip) (answers the_part (map Byte (take 3 reset)) ready_chip) ready_chip.chip
    (replicate 96 0x00) (replicate 32 0x00)
begun-feeds =
    engine-is-feeding the_part (take 3 reset) ready_chip.chip fresh_memory (replicate 96 0x00) (replicate 32 0x00) ready-stands
    (more (omega arith) (more (omega arith) (more (omega arith) none))) (omega (arith, length-replicate {A = ℕ} 96 0x00))

pub reset-cut : Joined begun_reset ended_reset (playing the_part ready_chip.chip 160 reset)
reset-cut =
    engine-append the_part (take 3 reset) (drop 3 reset) ready_chip.chip fresh_memory (replicate 160 0x00) (replicate 96 0x00) (replicate 64 0x00) (replicate 32 0x00)
    ready-stands (more (omega arith) (more (omega arith) (more (omega arith) none))) (more (omega arith) (more (omega arith) none))
    (omega (arith, length-replicate {A = ℕ} 96 0x00)) (omega (arith, length-replicate {A = ℕ} 64 0x00)) (omega (arith, length-replicate {A = ℕ} 160 0x00))
