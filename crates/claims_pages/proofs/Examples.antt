-- The worked pages come out, by computation; what noise leaves after one, by the claim.
-- Assumes nothing.
use mathlib.Core.List.{List}
use mathlib.Core.Logic.{◌≢◌}
use mathlib.Core.Path.{◌∙◌, ◌≡◌, ap, refl, sym}
use Prim.Native.Nat.{ℕ}
use native.Mathlib.Omega.{arith}
use lib.ListN.{get_or, length-replicate, replicate}
use Rattle.chip.specs.Run.{run}
use Rattle.chip.specs.Step.{byte_in, heard_byte, react_to, settled, step_of}
use Rattle.chip.specs.declared.Event.TheVariants.{Byte}
use Rattle.chip_core.specs.Hearing.{hearing}
use Rattle.chip_core.specs.declared.Core.{Core}
use Rattle.chip_core.specs.declared.Phase.TheVariants.{Ready}
use Rattle.chip_flash.specs.Flash.{lands, programmed, sum_of_bytes}
use Rattle.chip_options.proofs.Laws.{fresh-good}
use Rattle.chip_options.specs.Options.{fixed_bits, fresh_options, good_options, last_block}
use Rattle.chip_pages.specs.Pages.{data_does, footer_of, good_data, is_last_page, length_of, next_page, page_in, page_status, page_stored, page_written, program_page, stored_reply, told_written}
use Rattle.chip_reply.specs.Reply.{frames_of, payloads, said_of}
use Rattle.chip_state.specs.Refusals.{good_awaited, good_begun, good_collected, good_core, good_phase, good_places, good_state, verdict_of}
use Rattle.chip_sums.specs.Sums.{block_sum, range_bytes, resummed, slot}
use Rattle.claims_fed.proofs.Frames.{bytes-proper}
use Rattle.claims_fed.specs.Awaits.{good_for}
use Rattle.claims_frame.specs.Collecting.{collects_on, take-up}
use Rattle.claims_good.proofs.Fresh.{new-stands, the-part-is}
use Rattle.claims_good.proofs.Stays.{run-stands, stays}
use Rattle.claims_good.specs.Good.{Stands, a_byte}
use Rattle.claims_noise.proofs.Examples.{long-noise}
use Rattle.claims_noise.specs.Examples.{long_noise}
use Rattle.claims_pages.proofs.Written.{noise-after-mixed, page-mixed}
use Rattle.claims_pages.specs.Examples.{BytesOver, NoiseLeaves, NoiseMet, PagesOver, at_last_byte, crossed_frame, first_awaited, mixed_chip, over_chip}
use Rattle.claims_pages.specs.Sent.{PageSent, old_page}
use Rattle.claims_runs.specs.Taken.{taken_as, taken_in}
use Rattle.claims_stars.specs.Table.{the_part}
use Rattle.claims_verify.proofs.Examples.{below_all}
use Rattle.claims_verify.proofs.Told.{framed-below}
use Rattle.frame.proofs.Laws.Sum.{Below, below-take}
use Rattle.frame.specs.Collector.{fresh, hear, heard, holding}
use Rattle.frame.specs.Frame.{complete, counted, framed, full, is_frame, payload}
use Rattle.frame.specs.Judgement.{fitting, judge_of, summed}
use Rattle.frame.specs.Sum.{less, less_all, sum_of}
use Rattle.frame.specs.declared.Footer.TheVariants.{More}
use Rattle.frame.specs.declared.Header.TheVariants.{Data}
use Rattle.lent.specs.Lent.{put_at, put_of, same}
use Rattle.part.specs.Part.{block_of, block_size, described, lies_in, page_of, place_in, place_of}
use Rattle.part.specs.Refusal.{first_of}
use Rattle.words.specs.Words.{◌and◌, ◌from◌to◌, ◌or◌, if◌then◌otherwise◌}

pub bytes-over : BytesOver
unfolding programmed page_status lands same ◌and◌ if◌then◌otherwise◌
bytes-over =
    record {
      blank = refl;
      again = refl;
      more_zeros = refl;
      all_zeros = refl;
      crossed = refl;
      shared = refl;
      nothing = refl;
      lowest_bit = refl;
      highest_bit = refl;
    }

pub pages-over : PagesOver
unfolding data_does footer_of good_data is_last_page length_of next_page page_in page_status page_stored page_written program_page stored_reply told_written lands programmed sum_of_bytes
    frames_of payloads block_sum range_bytes resummed slot counted framed is_frame payload fitting judge_of summed less less_all sum_of put_at put_of same block_of block_size lies_in
    page_of place_in place_of described ◌and◌ ◌from◌to◌ ◌or◌ if◌then◌otherwise◌
pages-over =
    record {
      again = record { said = refl; holds = refl; summed = refl; phase-is = refl };
      more_zeros = record { said = refl; holds = refl; summed = refl; phase-is = refl };
      crossed = record { said = refl; holds = refl; summed = refl; phase-is = refl };
      nothing = record { said = refl; holds = refl; summed = refl; phase-is = refl };
      last_again = record { said = refl; holds = refl; summed = refl; phase-is = refl };
      last_crossed = record { said = refl; holds = refl; summed = refl; phase-is = refl };
    }

-- The chip at the page's footer stands, and hears a page of 40h there.
frame_below : Below 256 crossed_frame
unfolding crossed_frame
frame_below = framed-below Data (replicate 256 0xAA) More (below_all 256 (omega arith))

at-footer-stands : Stands the_part at_last_byte
unfolding good_phase good_awaited good_places place_of place_in lies_in block_of page_of block_size put_at ◌and◌ ◌or◌ if◌then◌otherwise◌
at-footer-stands =
    run-stands the_part _ over_chip
    (new-stands the_part _ _ (replicate 32 0x00) the-part-is (record { device_long = refl; name_long = refl; version_long = refl })
    (record { rate = omega arith; options = fresh-good the_part the-part-is; phase = refl }) refl (length-replicate {A = ℕ} 4096 0xFF) (omega (arith, length-replicate {A = ℕ} 32 0x00)))
    (bytes-proper (below-take 256 259 frame_below))

record Footer : Type 0 where
  sent : PageSent at_last_byte (Byte 0x17) first_awaited (replicate 256 0xAA)
  mixes : programmed (old_page the_part first_awaited at_last_byte) (replicate 256 0xAA) ≡ replicate 256 0x00

at-footer : Footer
unfolding crossed_frame good_for run step_of settled verdict_of first_of described good_state good_collected good_begun good_core good_options fixed_bits good_phase
    good_awaited good_places last_block fresh_options fresh heard holding hear complete full counted is_frame payload framed react_to byte_in hearing heard_byte fitting footer_of
    length_of is_last_page page_in programmed judge_of summed sum_of less_all less place_of lies_in place_in block_of page_of block_size put_at said_of frames_of payloads taken_in taken_as
    collects_on take-up ◌from◌to◌ ◌and◌ ◌or◌ if◌then◌otherwise◌
at-footer = record { sent = record { frame = crossed_frame; phase = refl; command = refl; taken = refl; good = refl; carries = refl }; mixes = refl }

mixed : programmed (old_page the_part first_awaited at_last_byte) (replicate 256 0xAA) ≢ replicate 256 0xAA
mixed e = let z : ◌≡◌ {A = ℕ} 0x00 0xAA = ap (λ (bs : List ℕ). get_or bs 0 0) (sym at-footer.mixes ∙ e) in omega arith

pub noise-met : NoiseMet
noise-met =
    let t = page-mixed the_part at_last_byte (Byte 0x17) first_awaited (replicate 256 0xAA) at-footer-stands at-footer.sent mixed in
    let ph : mixed_chip.chip.core.phase ≡ Ready = ap (λ (k : Core). k.phase) t.record_is in
    record {
      stands = stays the_part at_last_byte (Byte 0x17) at-footer-stands (a_byte (omega arith));
      nothing = t.count;
      bytes = long-noise.bytes;
      quiet = rw ph long-noise.quiet;
    }

pub noise-leaves : NoiseLeaves
noise-leaves =
    let x = noise-after-mixed the_part at_last_byte (Byte 0x17) first_awaited (replicate 256 0xAA) long_noise at-footer-stands at-footer.sent mixed noise-met in
    record { gap = x.gap_holds ∙ at-footer.mixes; power_on = x.power_on_holds ∙ at-footer.mixes }
