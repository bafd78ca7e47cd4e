-- The examples of 13h's two rules: the premises of the claims by computation, and by the claims what is said.
-- Assumes nothing.
use mathlib.Core.Bool.{false, true}
use mathlib.Core.List.{List}
use mathlib.Core.Path.{◌≡◌, ap, refl}
use Prim.Native.Nat.{ℕ}
use native.Mathlib.Omega.{arith}
use lib.ListN.{length-replicate, replicate}
use Rattle.chip.specs.Run.{run}
use Rattle.chip.specs.Step.{byte_in, heard_byte, react_to, settled, step_of}
use Rattle.chip.specs.declared.Event.TheVariants.{Byte}
use Rattle.chip_core.specs.Hearing.{hearing}
use Rattle.chip_core.specs.declared.Awaited.{Awaited}
use Rattle.chip_options.proofs.Laws.{fresh-good}
use Rattle.chip_options.specs.Options.{fixed_bits, fresh_options, good_options, last_block}
use Rattle.chip_pages.specs.Pages.{footer_of, is_last_page, length_of, page_in}
use Rattle.chip_reply.specs.Reply.{frames_of, payloads, said_of}
use Rattle.chip_state.specs.Refusals.{good_awaited, good_begun, good_collected, good_core, good_phase, good_places, good_state, verdict_of}
use Rattle.claims_before.proofs.Verify.{tells-early, tells-late}
use Rattle.claims_before.specs.Verify.{early, late}
use Rattle.claims_before.specs.VerifyExamples.{FirstMet, LastMet, VerifySaid, at_footer, different_frame, equal_frame, first_compared, last_compared}
use Rattle.claims_fed.proofs.Frames.{bytes-proper}
use Rattle.claims_fed.specs.Awaits.{good_for}
use Rattle.claims_frame.specs.Collecting.{collects_on, take-up}
use Rattle.claims_good.proofs.Fresh.{new-stands, the-part-is}
use Rattle.claims_good.proofs.Stays.{run-stands}
use Rattle.claims_good.specs.Good.{Stands, Utterance}
use Rattle.claims_runs.specs.Taken.{taken_as, taken_in}
use Rattle.claims_stars.specs.Table.{the_part}
use Rattle.claims_verify.proofs.Examples.{below_all}
use Rattle.claims_verify.specs.Compared.{PageCompared}
use Rattle.claims_verify.specs.Examples.{chip_awaiting}
use Rattle.frame.proofs.Laws.Sum.{Below, below-append, below-take, more, none}
use Rattle.frame.specs.Collector.{fresh, hear, heard, holding}
use Rattle.frame.specs.Frame.{complete, counted, framed, full, is_frame, payload}
use Rattle.frame.specs.Judgement.{fitting, judge_of, summed}
use Rattle.frame.specs.Sum.{less, less_all, sum_of}
use Rattle.lent.specs.Lent.{same}
use Rattle.part.specs.Part.{block_of, block_size, described, lies_in, page_of, place_in, place_of}
use Rattle.part.specs.Refusal.{first_of}
use Rattle.words.specs.Words.{◌and◌, ◌from◌to◌, ◌or◌, if◌then◌otherwise◌}

-- The pages are bytes, so the chip at their footers stands.
at-footer-stands : (w : Awaited) (page : List ℕ) → good_awaited the_part w ≡ true → Below 256 page → Stands the_part (at_footer w page)
unfolding good_phase block_size
at-footer-stands w page g b =
    run-stands the_part _ (chip_awaiting w)
    (new-stands the_part _ _ (replicate 32 0x00) the-part-is (record { device_long = refl; name_long = refl; version_long = refl })
    (record { rate = omega arith; options = fresh-good the_part the-part-is; phase = g })
    (length-replicate {A = ℕ} 16384 0xFF) (length-replicate {A = ℕ} 4096 0xFF) (omega (arith, length-replicate {A = ℕ} 32 0x00)))
    (bytes-proper (below-take 256 259 b))

first-stands : Stands the_part (at_footer first_compared different_frame)
unfolding different_frame good_awaited good_places place_of place_in lies_in block_of page_of block_size ◌and◌ ◌or◌ if◌then◌otherwise◌
first-stands =
    at-footer-stands first_compared different_frame refl
    (more (omega arith) (more (omega arith) (more (omega arith) (below-append (below_all 255 (omega arith)) (more (omega arith) (more (omega arith) none))))))

last-stands : Stands the_part (at_footer last_compared equal_frame)
unfolding equal_frame good_awaited good_places place_of place_in lies_in block_of page_of block_size ◌and◌ ◌or◌ if◌then◌otherwise◌
last-stands =
    at-footer-stands last_compared equal_frame refl
    (more (omega arith) (more (omega arith) (below-append (below_all 256 (omega arith)) (more (omega arith) (more (omega arith) none)))))

record Pages : Type 0 where
  first : PageCompared the_part (at_footer first_compared different_frame) (Byte 0x17) first_compared false
  last : PageCompared the_part (at_footer last_compared equal_frame) (Byte 0x03) last_compared true

pages : Pages
unfolding different_frame equal_frame good_for run step_of settled verdict_of first_of described good_state good_collected good_begun good_core good_options fixed_bits good_phase
    good_awaited good_places last_block fresh_options fresh heard holding hear complete full counted is_frame payload react_to byte_in hearing heard_byte fitting footer_of
    length_of is_last_page page_in same judge_of summed sum_of less_all less place_of lies_in place_in block_of page_of block_size said_of frames_of payloads taken_in taken_as
    collects_on take-up ◌from◌to◌ ◌and◌ ◌or◌ if◌then◌otherwise◌
pages =
    record {
      first = record { frame = different_frame; phase = refl; command = refl; taken = refl; good = refl; result = refl };
      last = record { frame = equal_frame; phase = refl; command = refl; taken = refl; good = refl; result = refl };
    }

pub first-met : FirstMet
unfolding is_last_page
first-met = record { stands = first-stands; otherwise = early first_compared pages.first refl }

pub last-met : LastMet
unfolding is_last_page
last-met = record { stands = last-stands; otherwise = late last_compared pages.last refl refl }

pub verify-said : VerifySaid
unfolding is_last_page framed sum_of less_all less if◌then◌otherwise◌
verify-said =
    let f = tells-early the_part _ (Byte 0x17) first_compared first-stands pages.first refl in
    let l = tells-late the_part _ (Byte 0x03) last_compared last-stands pages.last refl refl in
    record {
      first = ap (λ (u : Utterance). u.bytes) f.now.says;
      first_before = ap (λ (u : Utterance). u.bytes) f.was.says;
      last = ap (λ (u : Utterance). u.bytes) l.now.says;
      last_before = ap (λ (u : Utterance). u.bytes) l.was.says;
    }
