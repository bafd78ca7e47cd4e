-- The premises of demand 3's claims can be met, and their conclusions say something: worked examples, by computation.
-- Assumes nothing.
use mathlib.Core.Bool.{Bool, false, true}
use mathlib.Core.List.{List, [], ◌∷◌, map}
use mathlib.Core.Path.{◌≡◌, ap, refl, sym}
use Prim.Native.Nat.{ℕ}
use native.Mathlib.Omega.{arith}
use lib.Dec.{ltb}
use lib.ListN.{get_or, length-replicate, replicate, set, take}
use borrow.Author.Tests.{ltb-true}
use Rattle.chip.specs.Run.{run}
use Rattle.chip.specs.Step.{Outcome, byte_in, heard_byte, react_to, settled, step_of}
use Rattle.chip_frame.specs.Does.{frame_does}
use Rattle.chip_state.specs.Refusals.{good_awaited, good_begun, good_collected, good_core, good_phase, good_places, good_state, verdict_of}
use Rattle.chip.specs.declared.Event.TheVariants.{Byte}
use Rattle.claims_frame.proofs.Framing.{header, nothing}
use Rattle.claims_fed.proofs.Frames.{bytes-proper}
use Rattle.claims_good.proofs.Fresh.{new-stands, the-part-is}
use Rattle.claims_good.proofs.Stays.{run-stands}
use Rattle.part.specs.Part.{Arrays, block_of, block_size, described, lies_in, page_of, place_in, place_of}
use Rattle.claims_good.specs.Good.{AllProper, Stands, a_byte, a_gap, and_event, no_event}
use Rattle.claims_noise.proofs.Claims.{noise-at-command, noise-branches}
use Rattle.claims_noise.proofs.OneByte.{one-byte-changed}
use Rattle.claims_frame.specs.OneByte.{fault_changed}
use Rattle.claims_noise.specs.Claims.{AsIf, IsBad, Noise, NoiseAfter, OneByte, command_over, run_by, says_by, with_collected}
use Rattle.claims_fed.specs.Awaits.{a_command, event_of, good_for, in_ready, page}
use Rattle.claims_noise.specs.Examples.{all_said, begun_erase, begun_page, cut_page, damaged_half, damaged_rest, erase_frame, inner_reset, long_noise, page_frame, reset, rest_of_erase, second_page, writing_chip, wrong_page}
use Rattle.claims_noise.specs.Noise.{allows, completes_only, data_completed, empty, no_frame, only, permitted, then_awaits, then_gap}
use Rattle.claims_stars.specs.Table.{ready_chip, the_part}
use Rattle.chip_commands.specs.Commands.{command_does}
use Rattle.chip_core.specs.Hearing.{hearing}
use Rattle.chip_core.specs.Effect.{Memory}
use Rattle.chip_core.specs.declared.Phase.{Phase}
use Rattle.chip_core.specs.declared.Phase.TheVariants.{Awaiting, Ready}
use Rattle.chip_pages.specs.Pages.{bad_data, data_does, footer_of, good_data, is_last_page, length_of, next_page, page_in, page_status, page_stored, page_written, program_page, stored_reply, told_written}
use Rattle.chip_sums.specs.Sums.{resummed}
use Rattle.chip_flash.specs.Flash.{blank, lands, programmed}
use Rattle.frame.proofs.Laws.Sum.{Below, more, none}
use Rattle.frame.specs.Collector.{fresh, hear, heard, holding}
use Rattle.frame.specs.Frame.{complete, counted, framed, full, is_frame, payload}
use Rattle.frame.specs.Framing.{Sound, byte, frames, framing, gap, idle, inside, quiet}
use Rattle.frame.specs.Judgement.{fitting, judge_of, summed}
use Rattle.frame.specs.declared.judgement.Judgement.TheVariants.{WrongFooter}
use Rattle.frame.specs.Sum.{less, less_all, sum_of}
use Rattle.frame.specs.declared.Header.TheVariants.{Command}
use Rattle.lent.specs.Lent.{all_are, put_at, put_of, same}
use Rattle.chip_options.proofs.Laws.{fresh-good}
use Rattle.chip_options.specs.Options.{fixed_bits, fresh_options, good_options, last_block}
use Rattle.part.specs.Refusal.{first_of}
use Rattle.chip_reply.specs.Reply.{frames_of, payloads, said_of}
use Rattle.words.proofs.Laws.{and_left, and_right}
use Rattle.words.specs.Words.{◌and◌, ◌from◌to◌, ◌or◌, if◌then◌otherwise◌}

-- Tests that the checker computes, for bytes.
all_below : List ℕ → Bool
all_below [] = true
all_below (b ∷ bs) = ltb b 256 and all_below bs

below_by : (bs : List ℕ) → all_below bs ≡ true → Below 256 bs
unfolding all_below
below_by [] e = none
below_by (b ∷ bs) e = more (ltb-true b 256 (and_left _ _ e)) (below_by bs (and_right (ltb b 256) _ e))

bytes_only : List Sound → Bool
bytes_only [] = true
bytes_only (byte b ∷ vs) = ltb b 256 and bytes_only vs
bytes_only (gap ∷ vs) = bytes_only vs

proper-by : (vs : List Sound) → bytes_only vs ≡ true → AllProper (map event_of vs)
unfolding bytes_only
proper-by [] e = no_event
proper-by (byte b ∷ vs) e = and_event (a_byte (ltb-true b 256 (and_left _ _ e))) (proper-by vs (and_right (ltb b 256) _ e))
proper-by (gap ∷ vs) e = and_event a_gap (proper-by vs e)

the-arrays : Arrays the_part
the-arrays = record { device_long = refl; name_long = refl; version_long = refl }

-- The two chips stand.
pub ready-stands : Stands the_part ready_chip
unfolding good_phase block_size
ready-stands =
    new-stands the_part _ _ (replicate 32 0x00) the-part-is the-arrays (record { rate = omega arith; options = fresh-good the_part the-part-is; phase = refl })
    (length-replicate {A = ℕ} 16384 0xFF) (length-replicate {A = ℕ} 4096 0xFF) (omega (arith, length-replicate {A = ℕ} 32 0x00))

pub writing-stands : Stands the_part writing_chip
unfolding good_phase block_size good_awaited good_places place_of place_in lies_in block_of page_of ◌and◌ ◌or◌ if◌then◌otherwise◌
writing-stands =
    new-stands the_part _ _ (replicate 32 0x00) the-part-is the-arrays (record { rate = omega arith; options = fresh-good the_part the-part-is; phase = refl })
    (length-replicate {A = ℕ} 16384 0xFF) (length-replicate {A = ℕ} 4096 0xFF) (omega (arith, length-replicate {A = ℕ} 32 0x00))

-- Noise with two bad frames in it, while a command is awaited.
pub long-noise : Noise no_frame the_part ready_chip long_noise
unfolding fresh long_noise bytes_only completes_only permitted then_awaits framing good_for allows empty counted judge_of is_frame summed sum_of less_all less ◌and◌
    ◌or◌ if◌then◌otherwise◌
long-noise = record { stands = ready-stands; nothing = refl; bytes = proper-by long_noise refl; quiet = refl }

-- In it the chip does answer: 07h, then 15h.
pub long-noise-said : all_said (says_by step_of the_part (then_gap long_noise) ready_chip) ≡ 0x02 ∷ 0x01 ∷ 0x07 ∷ 0xF8 ∷ 0x03 ∷ 0x02 ∷ 0x01 ∷ 0x15 ∷ 0xEA ∷ 0x03 ∷ []
unfolding all_said says_by then_gap long_noise step_of settled verdict_of first_of described ◌from◌to◌ ◌and◌ ◌or◌ if◌then◌otherwise◌ good_state good_collected good_begun
    good_core good_options fixed_bits good_phase last_block fresh_options fresh heard holding hear complete full counted is_frame react_to byte_in hearing heard_byte
    frame_does command_does judge_of summed sum_of less_all less place_of lies_in place_in block_of page_of block_size said_of frames_of framed payloads
long-noise-said = refl

-- So the chip is as before it, though it has answered.
pub long-noise-harmless : AsIf step_of the_part ready_chip (run_by step_of the_part (then_gap long_noise) ready_chip)
long-noise-harmless = noise-at-command the_part ready_chip long_noise in_ready long-noise

-- A page cut short leaves the chip awaiting the page.
pub cut-page : Noise no_frame the_part writing_chip cut_page
unfolding fresh cut_page bytes_only completes_only permitted then_awaits framing good_for empty counted footer_of length_of is_last_page ◌and◌ ◌or◌ if◌then◌otherwise◌
cut-page = record { stands = writing-stands; nothing = refl; bytes = proper-by cut_page refl; quiet = refl }

pub cut-page-completes-none : data_completed cut_page ≡ false
unfolding data_completed cut_page frames framing empty counted if◌then◌otherwise◌
cut-page-completes-none = refl

-- A page with the wrong footer ends the command, and what follows is framed as for a command.
pub wrong-page : Noise no_frame the_part writing_chip wrong_page
unfolding fresh wrong_page bytes_only completes_only permitted then_awaits framing good_for allows empty counted footer_of length_of is_last_page fitting judge_of
    is_frame summed sum_of less_all less ◌and◌ ◌or◌ if◌then◌otherwise◌
wrong-page = record { stands = writing-stands; nothing = refl; bytes = proper-by wrong_page refl; quiet = refl }

pub wrong-page-completes-one : data_completed wrong_page ≡ true
unfolding data_completed wrong_page frames framing empty counted if◌then◌otherwise◌
wrong-page-completes-one = refl

-- In it the page is blamed twice over, 15h 15h, and then the command with the wrong footer.
pub wrong-page-said : all_said (says_by step_of the_part (then_gap wrong_page) writing_chip) ≡ 0x02 ∷ 0x02 ∷ 0x15 ∷ 0x15 ∷ 0xD4 ∷ 0x03 ∷ 0x02 ∷ 0x01 ∷ 0x15 ∷ 0xEA ∷ 0x03 ∷ []
unfolding all_said says_by then_gap wrong_page data_does bad_data fitting footer_of length_of is_last_page good_awaited good_places step_of settled verdict_of first_of
    described ◌from◌to◌ ◌and◌ ◌or◌ if◌then◌otherwise◌ good_state good_collected good_begun good_core good_options fixed_bits good_phase last_block fresh_options fresh heard
    holding hear complete full counted is_frame react_to byte_in hearing heard_byte frame_does command_does judge_of summed sum_of less_all less place_of lies_in place_in
    block_of page_of block_size said_of frames_of framed payloads
wrong-page-said = refl

-- The inner Reset: the premise fails, because the rule completes a good frame. It is met with that frame allowed, where nothing follows it.
pub inner-reset-is-no-noise : completes_only no_frame a_command idle inner_reset ≡ false
unfolding inner_reset completes_only permitted then_awaits framing good_for allows empty counted judge_of is_frame summed sum_of less_all less ◌and◌ ◌or◌
    if◌then◌otherwise◌
inner-reset-is-no-noise = refl

pub inner-reset-completes : frames Command idle inner_reset ≡ reset ∷ []
unfolding inner_reset frames framing counted if◌then◌otherwise◌
inner-reset-completes = refl

pub inner-reset-is-good : good_for a_command reset ≡ true
unfolding good_for counted judge_of is_frame summed sum_of less_all less ◌and◌ if◌then◌otherwise◌
inner-reset-is-good = refl

pub inner-reset-allowed : completes_only (only reset) a_command idle (take 8 inner_reset) ≡ true
unfolding inner_reset completes_only permitted then_awaits framing good_for allows same empty counted judge_of is_frame summed sum_of less_all less ◌and◌ ◌or◌
    if◌then◌otherwise◌
inner-reset-allowed = refl

pub reset-carried : Noise (only reset) the_part ready_chip (take 8 inner_reset)
unfolding fresh inner_reset bytes_only ◌and◌
reset-carried = record { stands = ready-stands; nothing = refl; bytes = proper-by (take 8 inner_reset) refl; quiet = inner-reset-allowed }

-- One byte: the erase command whose footer becomes 17h, and the page whose footer, 17h, becomes 03h.
pub erase-changed : OneByte the_part ready_chip erase_frame 7 0x17
unfolding fresh erase_frame all_below good_for counted judge_of is_frame summed sum_of less_all less ◌and◌ if◌then◌otherwise◌
erase-changed =
    record {
      stands = ready-stands;
      nothing = refl;
      header = refl;
      good = refl;
      bytes = below_by erase_frame refl;
      after = omega arith;
      inside = omega arith;
      small = omega arith;
      changed = λ e. let z : ◌≡◌ {A = ℕ} 0x03 0x17 = e in omega arith;
    }

pub page-changed : OneByte the_part writing_chip page_frame 259 0x03
unfolding fresh page_frame framed footer_of length_of is_last_page fitting all_below good_for counted judge_of is_frame summed sum_of less_all less ◌and◌ ◌or◌
    if◌then◌otherwise◌
page-changed =
    record {
      stands = writing-stands;
      nothing = refl;
      header = refl;
      good = refl;
      bytes = below_by page_frame refl;
      after = omega arith;
      inside = omega arith;
      small = omega arith;
      changed = λ e. let z : ◌≡◌ {A = ℕ} 0x17 0x03 = e in omega arith;
    }

-- So the one changed byte keeps the page out: unchanged it is stored at 0500h, changed it is not, and it is blamed.
pub page-stored : get_or (run_by step_of the_part (map Byte page_frame) writing_chip).memory.flash.code_flash 0x0500 0 ≡ 0xAA
unfolding run_by page_frame data_does good_data payload page_status page_written told_written lands programmed same program_page page_in page_stored resummed blank
    all_are put_of put_at next_page stored_reply bad_data fitting footer_of length_of is_last_page good_awaited good_places step_of settled verdict_of first_of described
    ◌from◌to◌ ◌and◌ ◌or◌ if◌then◌otherwise◌ good_state good_collected good_begun good_core good_options fixed_bits good_phase last_block fresh_options fresh heard holding
    hear complete full counted is_frame react_to byte_in hearing heard_byte frame_does command_does judge_of summed sum_of less_all less place_of lies_in place_in block_of
    page_of block_size said_of frames_of framed payloads
page-stored = refl

pub page-changed-is-bad : IsBad step_of the_part writing_chip (set page_frame 259 0x03) (WrongFooter 259)
unfolding fault_changed page_frame framed if◌then◌otherwise◌
page-changed-is-bad = one-byte-changed the_part writing_chip page_frame 259 0x03 (page second_page) page-changed

pub page-changed-not-stored : get_or (run_by step_of the_part (map Byte (set page_frame 259 0x03)) writing_chip).memory.flash.code_flash 0x0500 0 ≡ 0xFF
unfolding command_over
page-changed-not-stored = ap (λ (m : Memory). get_or m.flash.code_flash 0x0500 0) (sym page-changed-is-bad.leaves.now.memory)

-- Something was collected: three bytes of a frame, half of a page.
record Begun (o : Outcome) (f : Phase) (bs : List ℕ) : Type 0 where
  phase : o.chip.core.phase ≡ f
  heard-so : heard o.chip.collector ≡ bs

record BegunFrames : Type 0 where
  erase : Begun begun_erase Ready (take 3 erase_frame)
  page : Begun begun_page (Awaiting second_page) (take 130 page_frame)

begun-frames : BegunFrames
unfolding run erase_frame page_frame good_awaited good_places step_of settled verdict_of first_of described ◌from◌to◌ ◌and◌ ◌or◌ if◌then◌otherwise◌ good_state good_collected
    good_begun good_core good_options fixed_bits good_phase last_block fresh_options fresh heard holding hear complete full counted is_frame react_to byte_in hearing
    heard_byte frame_does sum_of less_all less place_of lies_in place_in block_of page_of block_size said_of frames_of framed payloads
begun-frames = record { erase = record { phase = refl; heard-so = refl }; page = record { phase = refl; heard-so = refl } }

-- With the rest of the frame damaged it is noise.
pub damaged-rest : NoiseAfter the_part begun_erase damaged_rest
unfolding erase_frame damaged_rest all_below bytes_only completes_only permitted then_awaits framing good_for allows empty counted judge_of is_frame summed sum_of less_all
    less ◌and◌ ◌or◌ if◌then◌otherwise◌
damaged-rest =
    record {
      stands = run-stands the_part (map Byte (take 3 erase_frame)) ready_chip ready-stands (bytes-proper (below_by (take 3 erase_frame) refl));
      bytes = proper-by damaged_rest refl;
      quiet = rw (begun-frames.erase.phase, begun-frames.erase.heard-so);
    }

-- With the rest undamaged it is not, though the rest alone completes nothing: what is collected belongs to the premise.
pub rest-alone : completes_only no_frame a_command idle rest_of_erase ≡ true
unfolding erase_frame rest_of_erase completes_only permitted then_awaits framing empty counted ◌and◌ if◌then◌otherwise◌
rest-alone = refl

pub rest-completes : completes_only no_frame a_command idle (with_collected begun_erase rest_of_erase) ≡ false
unfolding erase_frame rest_of_erase completes_only permitted then_awaits framing good_for allows empty counted judge_of is_frame summed sum_of less_all less ◌and◌ ◌or◌
    if◌then◌otherwise◌
rest-completes = rw begun-frames.erase.heard-so

-- The rest of the page, with 03h where 17h is awaited, completes a data frame, and the command is over.
pub damaged-half : NoiseAfter the_part begun_page damaged_half
unfolding page_frame damaged_half all_below bytes_only completes_only permitted then_awaits framing good_for allows empty footer_of length_of is_last_page fitting counted
    judge_of is_frame summed framed sum_of less_all less ◌and◌ ◌or◌ if◌then◌otherwise◌
damaged-half =
    record {
      stands = run-stands the_part (map Byte (take 130 page_frame)) writing_chip writing-stands (bytes-proper (below_by (take 130 page_frame) refl));
      bytes = proper-by damaged_half refl;
      quiet = rw (begun-frames.page.phase, begun-frames.page.heard-so);
    }

pub damaged-half-completes : data_completed (with_collected begun_page damaged_half) ≡ true
unfolding page_frame damaged_half data_completed frames framing empty counted framed sum_of less_all less if◌then◌otherwise◌
damaged-half-completes = rw begun-frames.page.heard-so

pub damaged-half-ends : (run_by step_of the_part (then_gap damaged_half) begun_page).chip.core.phase ≡ Ready
damaged-half-ends = (noise-branches the_part begun_page second_page damaged_half begun-frames.page.phase damaged-half).ends damaged-half-completes
