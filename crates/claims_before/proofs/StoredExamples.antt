-- The examples of 40h's two rules: the premises of the claims by computation, and by the claims what is said and left.
-- Assumes nothing.
use mathlib.Core.Bool.{false}
use mathlib.Core.List.{List}
use mathlib.Core.Logic.{◌≢◌}
use mathlib.Core.Path.{◌∙◌, ◌≡◌, ap, refl, sym}
use Prim.Native.Nat.{◌+◌, ◌<◌, ◌≤◌, ℕ}
use native.Mathlib.Omega.{arith}
use lib.ListN.{drop, get_or, length, length-drop, length-replicate, replicate, take, take-append-drop}
use lib.Seq.{length-take-le}
use Rattle.chip.specs.Run.{run}
use Rattle.chip.specs.Step.{byte_in, heard_byte, react_to, settled, step_of}
use Rattle.chip.specs.declared.Event.TheVariants.{Byte}
use Rattle.chip_core.specs.Effect.{Flash, Memory, flash, with_flash}
use Rattle.chip_core.specs.Hearing.{hearing}
use Rattle.chip_flash.specs.Flash.{blank, programmed, sum_of_bytes}
use Rattle.chip_options.proofs.Laws.{fresh-good}
use Rattle.chip_options.specs.Options.{fixed_bits, fresh_options, good_options, last_block}
use Rattle.chip_pages.specs.Pages.{footer_of, is_last_page, length_of, page_in, page_stored, page_written}
use Rattle.chip_reply.specs.Reply.{frames_of, payloads, said_of}
use Rattle.chip_state.specs.Refusals.{good_awaited, good_begun, good_collected, good_core, good_phase, good_places, good_state, verdict_of}
use Rattle.chip_sums.specs.Sums.{block_sum, range_bytes, resummed, slot}
use Rattle.claims_before.proofs.Stored.{mixed-now, taken-now}
use Rattle.claims_before.specs.Stored.{mixed, taken}
use Rattle.claims_before.specs.StoredExamples.{MixedMet, ResentMet, StoredSaid, UnchangedMet, frame_all, writing_all, overwriting_chip, written_once}
use Rattle.claims_fed.proofs.Frames.{bytes-proper}
use Rattle.claims_fed.specs.Awaits.{good_for}
use Rattle.claims_frame.specs.Collecting.{collects_on, take-up}
use Rattle.claims_good.proofs.Fresh.{new-stands, the-part-is}
use Rattle.claims_good.proofs.Stays.{run-stands}
use Rattle.claims_good.specs.Good.{Stands, Utterance}
use Rattle.claims_pages.specs.Examples.{first_awaited}
use Rattle.claims_pages.specs.Sent.{PageSent, old_page}
use Rattle.claims_pages.specs.Written.{says_stored}
use Rattle.claims_runs.specs.Taken.{taken_as, taken_in}
use Rattle.claims_stars.specs.Table.{the_part}
use Rattle.claims_verify.proofs.Examples.{below_all}
use Rattle.frame.proofs.Laws.Sum.{Below, below-append, below-take, more, none}
use Rattle.frame.specs.Collector.{fresh, hear, heard, holding}
use Rattle.frame.specs.Frame.{complete, counted, framed, full, is_frame, payload}
use Rattle.frame.specs.Judgement.{fitting, judge_of, summed}
use Rattle.frame.specs.Sum.{less, less_all, sum_of}
use Rattle.lent.proofs.Laws.{part-put}
use Rattle.lent.specs.Lent.{Left, all_are, put_at, put_of}
use Rattle.part.specs.Part.{block_of, block_size, described, lies_in, page_of, place_in, place_of}
use Rattle.part.specs.Refusal.{first_of}
use Rattle.part.specs.declared.Place.{Place}
use Rattle.std.specs.Prelude.{Option}
use Rattle.words.specs.Words.{◌and◌, ◌from◌to◌, ◌or◌, if◌then◌otherwise◌}

-- The pages are bytes, so the chip at their footers stands.
frame_below : (b : ℕ) → b < 256 → Below 256 (frame_all b)
unfolding frame_all
frame_below b h =
    more {b = 0x02} (omega arith) (more {b = 0x00} (omega arith) (below-append (below_all 256 h) (more {b = 0x00} (omega arith) (more {b = 0x17} (omega arith) none))))

writing-stands : (b : ℕ) → b < 256 → Stands the_part (writing_all b)
unfolding put_at good_phase good_awaited good_places place_of place_in lies_in block_of page_of block_size ◌and◌ ◌or◌ if◌then◌otherwise◌
writing-stands b h =
    run-stands the_part _ overwriting_chip
    (new-stands the_part _ _ (replicate 32 0x00) the-part-is (record { device_long = refl; name_long = refl; version_long = refl })
    (record { rate = omega arith; options = fresh-good the_part the-part-is; phase = refl })
    refl (length-replicate {A = ℕ} 4096 0xFF) (omega (arith, length-replicate {A = ℕ} 32 0x00)))
    (bytes-proper (below-take 256 259 (frame_below b h)))

-- What is sent, and what stood there.
record Sent (b : ℕ) : Type 0 where
  page : PageSent (writing_all b) (Byte 0x17) first_awaited (replicate 256 b)
  old : old_page the_part first_awaited (writing_all b) ≡ replicate 256 0x55

record AllSent : Type 0 where
  same : Sent 0x55
  other : Sent 0xAA
  erased : Sent 0xFF

all-sent : AllSent
unfolding frame_all good_for run step_of settled verdict_of first_of described good_state good_collected good_begun good_core good_options fixed_bits good_phase good_awaited
    good_places last_block fresh_options fresh heard holding hear complete full counted is_frame payload react_to byte_in hearing heard_byte fitting footer_of length_of
    is_last_page page_in judge_of summed sum_of less_all less place_of lies_in place_in block_of page_of block_size said_of frames_of payloads taken_in taken_as collects_on take-up
    put_at ◌from◌to◌ ◌and◌ ◌or◌ if◌then◌otherwise◌
all-sent =
    record {
      same = record { page = record { frame = frame_all 0x55; phase = refl; command = refl; taken = refl; good = refl; carries = refl }; old = refl };
      other = record { page = record { frame = frame_all 0xAA; phase = refl; command = refl; taken = refl; good = refl; carries = refl }; old = refl };
      erased = record { page = record { frame = frame_all 0xFF; phase = refl; command = refl; taken = refl; good = refl; carries = refl }; old = refl };
    }

-- What programming makes of the old page, and of what is lent.
record Programmed : Type 0 where
  blank-not : blank (replicate 256 0x55) ≡ false
  same : programmed (replicate 256 0x55) (replicate 256 0x55) ≡ replicate 256 0x55
  other : programmed (replicate 256 0x55) (replicate 256 0xAA) ≡ replicate 256 0x00
  erased : programmed (replicate 256 0x55) (replicate 256 0xFF) ≡ replicate 256 0x55

programmed-so : Programmed
unfolding blank all_are programmed ◌and◌
programmed-so = record { blank-not = refl; same = refl; other = refl; erased = refl }

-- Two pages of one byte each that are equal have the same byte.
first_byte : {b c : ℕ} → replicate 256 b ≡ replicate 256 c → b ≡ c
first_byte e = ap (λ (bs : List ℕ). get_or bs 0 0) e

not-blank : (b : ℕ) → Sent b → blank (old_page the_part first_awaited (writing_all b)) ≡ false
not-blank b s = rw s.old programmed-so.blank-not

lands-again : programmed (old_page the_part first_awaited (writing_all 0x55)) (replicate 256 0x55) ≡ replicate 256 0x55
lands-again = rw all-sent.same.old programmed-so.same

mixes : programmed (old_page the_part first_awaited (writing_all 0xAA)) (replicate 256 0xAA) ≢ replicate 256 0xAA
mixes e =
    let z : ◌≡◌ {A = ℕ} 0x00 0xAA = first_byte (sym programmed-so.other ∙ ap (λ (old : List ℕ). programmed old (replicate 256 0xAA)) (sym all-sent.other.old) ∙ e) in
    omega arith

unlike : programmed (old_page the_part first_awaited (writing_all 0xFF)) (replicate 256 0xFF) ≢ replicate 256 0xFF
unlike e =
    let z : ◌≡◌ {A = ℕ} 0x55 0xFF = first_byte (sym programmed-so.erased ∙ ap (λ (old : List ℕ). programmed old (replicate 256 0xFF)) (sym all-sent.erased.old) ∙ e) in
    omega arith

-- What is lent stays until the footer comes; and what the page then leaves.
abbrev left : ℕ → Memory
left b = page_written the_part (place_of the_part 0x0400) (replicate 256 b) (writing_all b).memory

record After : Type 0 where
  byte-now : get_or (left 0xAA).flash.code_flash 0x0400 0 ≡ 0x00
  byte-before : get_or (writing_all 0xAA).memory.flash.code_flash 0x0400 0 ≡ 0x55
  sum-now : get_or (left 0xAA).sums 1 0 ≡ 0x0300
  sum-before : get_or (writing_all 0xAA).memory.sums 1 0 ≡ 0xAE00
  lent : (writing_all 0xFF).memory ≡ written_once

left_so : After
unfolding frame_all run step_of settled verdict_of first_of described good_state good_collected good_begun good_core good_options fixed_bits good_phase good_awaited good_places
    last_block fresh_options fresh heard holding hear complete full counted is_frame react_to byte_in hearing heard_byte is_last_page page_in page_stored page_written
    programmed resummed block_sum range_bytes sum_of_bytes slot less_all less place_of lies_in place_in block_of page_of block_size said_of frames_of payloads put_at put_of
    ◌from◌to◌ ◌and◌ ◌or◌ if◌then◌otherwise◌
left_so = record { byte-now = refl; byte-before = refl; sum-now = refl; sum-before = refl; lent = refl }

-- FFh over the page: each byte is put back, and the sum that is worked out afresh is the one that was kept.
put_back : (l : List ℕ) (at n : ℕ) → at + n ≤ length l → (put_of l at (take n (drop at l))).bytes ≡ l
put_back l at n h =
    sym (ap (λ (x : Left). x.bytes) (part-put l at n (take n (drop at l)) h (length-take-le n (drop at l) (rw length-drop (omega arith)))))
    ∙ rw (take-append-drop, take-append-drop)

abbrev there : Option Place
there = place_of the_part 0x0400

code-long : length written_once.flash.code_flash ≡ 16384
unfolding put_at
code-long = refl

fits : {n : ℕ} → n ≡ 16384 → 0x0400 + 256 ≤ n
fits e = omega arith

flash-back : page_stored there (page_in there written_once.flash) written_once.flash ≡ written_once.flash
unfolding page_stored page_in place_of lies_in place_in block_of page_of block_size ◌and◌ if◌then◌otherwise◌
flash-back = ap (λ (l : List ℕ). flash l written_once.flash.data_flash) (put_back written_once.flash.code_flash 0x0400 256 (fits code-long))

sum_back : resummed the_part there written_once ≡ written_once
unfolding resummed block_sum range_bytes sum_of_bytes slot less_all less place_of lies_in place_in block_of page_of block_size ◌and◌ if◌then◌otherwise◌ put_at
sum_back = ap {B = Memory} (λ (s : List ℕ). record { flash = written_once.flash; sums = s }) refl

none-cleared : programmed (page_in there written_once.flash) (replicate 256 0xFF) ≡ page_in there written_once.flash
none-cleared =
    let old : page_in there written_once.flash ≡ replicate 256 0x55 = ap (λ (m : Memory). page_in there m.flash) (sym left_so.lent) ∙ all-sent.erased.old in
    rw old programmed-so.erased

nothing-new : left 0xFF ≡ (writing_all 0xFF).memory
unfolding page_written
nothing-new =
    ap (page_written the_part there (replicate 256 0xFF)) left_so.lent
    ∙ ap (λ (ds : List ℕ). resummed the_part there (with_flash written_once (page_stored there ds written_once.flash))) none-cleared
    ∙ ap (λ (f : Flash). resummed the_part there (with_flash written_once f)) flash-back ∙ sum_back ∙ sym left_so.lent

pub resent-met : ResentMet
resent-met =
    record { stands = writing-stands 0x55 (omega arith); otherwise = taken first_awaited (replicate 256 0x55) all-sent.same.page (not-blank 0x55 all-sent.same) lands-again }

pub mixed-met : MixedMet
mixed-met =
    record {
      stands = writing-stands 0xAA (omega arith);
      otherwise =
          mixed first_awaited (replicate 256 0xAA) all-sent.other.page (not-blank 0xAA all-sent.other) mixes
          (λ e. let z : ◌≡◌ {A = ℕ} 0x00 0x55 = sym left_so.byte-now ∙ ap (λ (m : Memory). get_or m.flash.code_flash 0x0400 0) e ∙ left_so.byte-before in omega arith);
    }

pub unchanged-met : UnchangedMet
unchanged-met = record { stands = writing-stands 0xFF (omega arith); sent = all-sent.erased.page; unlike = unlike; stays = nothing-new }

pub stored-said : StoredSaid
unfolding says_stored is_last_page framed sum_of less_all less if◌then◌otherwise◌
stored-said =
    let r = taken-now the_part _ (Byte 0x17) first_awaited _ (writing-stands 0x55 (omega arith)) all-sent.same.page (not-blank 0x55 all-sent.same) lands-again in
    let m = mixed-now the_part _ (Byte 0x17) first_awaited _ (writing-stands 0xAA (omega arith)) all-sent.other.page (not-blank 0xAA all-sent.other) mixes in
    record {
      resent = ap (λ (u : Utterance). u.bytes) r.now.said;
      resent_before = ap (λ (u : Utterance). u.bytes) r.was.said;
      mixed = ap (λ (u : Utterance). u.bytes) m.now.said;
      mixed_before = ap (λ (u : Utterance). u.bytes) m.was.said;
      mixed_byte = ap (λ (n : Memory). get_or n.flash.code_flash 0x0400 0) m.now.memory ∙ left_so.byte-now;
      byte_before = ap (λ (n : Memory). get_or n.flash.code_flash 0x0400 0) m.was.memory ∙ left_so.byte-before;
      mixed_sum = ap (λ (n : Memory). get_or n.sums 1 0) m.now.memory ∙ left_so.sum-now;
      sum_before = ap (λ (n : Memory). get_or n.sums 1 0) m.was.memory ∙ left_so.sum-before;
    }
