-- The worked pages come out, by the claims: no byte of a page is fed here, only flash is compared and the replies are put together.
-- Assumes nothing.
use mathlib.Core.Bool.{Bool, false, not, true}
use mathlib.Core.List.{List, [], ◌++◌, ◌∷◌, map}
use mathlib.Core.Path.{◌∙◌, ◌≡◌, ap, refl, subst}
use Prim.Native.Nat.{◌-◌, ◌<◌, suc, zero, ℕ}
use native.Mathlib.Omega.{arith}
use lib.ListN.{length, length-replicate, replicate}
use Rattle.chip.specs.Run.{Spoken, answers, bytes_said, heard_back}
use Rattle.chip.specs.Step.{Outcome}
use Rattle.chip.specs.declared.Event.TheVariants.{Byte}
use Rattle.chip_core.specs.Effect.{acknowledge}
use Rattle.chip_core.specs.declared.Awaited.{Awaited}
use Rattle.chip_core.specs.declared.Core.{Core}
use Rattle.chip_core.specs.declared.Phase.{Phase}
use Rattle.chip_core.specs.declared.Phase.TheVariants.{Awaiting}
use Rattle.chip_options.proofs.Laws.{fresh-good}
use Rattle.chip_pages.specs.Pages.{footer_of, is_last_page, length_of}
use Rattle.chip_state.specs.Refusals.{good_awaited, good_phase, good_places}
use Rattle.chip_sums.specs.Sums.{range_bytes}
use Rattle.claims_fed.specs.Awaits.{awaits_in, good_for, judged_in}
use Rattle.claims_fed.specs.Fed.{blames_twice, says_frame, silence}
use Rattle.claims_good.proofs.Fresh.{new-stands, the-part-is}
use Rattle.claims_good.specs.Good.{Stands, Utterance, utterances, uttered}
use Rattle.claims_noise.proofs.Examples.{cut-page, cut-page-completes-none, ready-stands}
use Rattle.claims_noise.specs.Claims.{Noise}
use Rattle.claims_noise.specs.Examples.{all_said, cut_page}
use Rattle.claims_noise.specs.Noise.{completes_only, empty, no_frame, permitted, then_awaits}
use Rattle.claims_stars.specs.Table.{acknowledged, fresh_memory, ready_chip, reply_by, the_part}
use Rattle.claims_verify.proofs.Told.{earlier-told, verify-told}
use Rattle.claims_verify.proofs.Whole.{command-told, damaged-ends, told-after-noise}
use Rattle.claims_verify.specs.Examples.{InBetween, ToldLate, WholeTold, acknowledged_twice, all_equal, block_awaited, differed_chip, different_page, equal_page, last_says, second_differs, sum_blamed, verify_failed, verifying_chip, wrong_sum}
use Rattle.claims_verify.specs.Told.{AllPages, Damaged, GoesOn, Page, Told, VerifyAsked, Verifying, and_page, any_differs, flash_from, joined_pages, no_page, page_frames, page_seen, to_page, to_pages, verify_frame}
use Rattle.commands.specs.Commands.{com_of, information_of, payload_of}
use Rattle.frame.proofs.Laws.Sum.{Below, below-append, more, none}
use Rattle.frame.specs.Collector.{fresh}
use Rattle.frame.specs.Frame.{counted, framed, is_frame}
use Rattle.frame.specs.Framing.{framing, idle}
use Rattle.frame.specs.Judgement.{fitting, judge_of, summed}
use Rattle.frame.specs.Sum.{less, less_all, sum_of}
use Rattle.lent.specs.Lent.{same}
use Rattle.numbers.specs.Numbers.{low_first}
use Rattle.part.specs.Part.{block_of, block_size, ends_block, lies_in, page_of, place_in, place_of, range_of, starts_block, stretch, whole_blocks}
use Rattle.part.specs.declared.Area.TheVariants.{CodeFlash}
use Rattle.words.specs.Words.{◌and◌, ◌or◌, if◌then◌otherwise◌}

-- What comes back is all that is said.
said_all : (ss : List Spoken) → heard_back ss ≡ all_said (map (λ s. uttered s) ss)
unfolding heard_back all_said
said_all [] = refl
said_all (s ∷ ss) = ap (λ (bs : List ℕ). bytes_said s.answer s.room ++ bs) (said_all ss)

replies : (o : Outcome) (bs : List ℕ) {us : List Utterance} → utterances the_part (map Byte bs) o ≡ us → reply_by o bs ≡ all_said us
unfolding reply_by utterances
replies o bs e = said_all (answers the_part (map Byte bs) o) ∙ ap all_said e

-- The pages, and the chip.
pub below_all : {m b : ℕ} (n : ℕ) → b < m → Below m (replicate n b)
below_all zero h = none
below_all (suc n) h = more h (below_all n h)

equal-page : Page equal_page
unfolding equal_page
equal-page = record { long = length-replicate {A = ℕ} 256 0xFF; bytes = below_all 256 (omega arith) }

different-page : Page different_page
unfolding different_page
different-page = record { long = ap suc (length-replicate {A = ℕ} 255 0xFF); bytes = more {b = 0x00} (omega arith) (below_all {b = 0xFF} 255 (omega arith)) }

equal-pages : AllPages all_equal
equal-pages = and_page equal-page (and_page equal-page (and_page equal-page (and_page equal-page no_page)))

second-pages : AllPages second_differs
second-pages = and_page equal-page (and_page different-page (and_page equal-page (and_page equal-page no_page)))

verifying-stands : (d : Bool) → Stands the_part (verifying_chip d)
unfolding good_phase block_size good_awaited good_places place_of place_in lies_in block_of page_of ◌and◌ ◌or◌ if◌then◌otherwise◌
verifying-stands d =
    new-stands the_part _ _ (replicate 32 0x00) the-part-is (record { device_long = refl; name_long = refl; version_long = refl })
    (record { rate = omega arith; options = fresh-good the_part the-part-is; phase = refl })
    (length-replicate {A = ℕ} 16384 0xFF) (length-replicate {A = ℕ} 4096 0xFF) (omega (arith, length-replicate {A = ℕ} 32 0x00))

verifying : (d : Bool) (a b c e : List ℕ) → AllPages (a ∷ b ∷ c ∷ e ∷ []) → Verifying the_part (verifying_chip d) (block_awaited d) (a ∷ b ∷ c ∷ e ∷ [])
unfolding fresh
verifying d a b c e ps = record { stands = verifying-stands d; nothing = refl; phase = refl; command = refl; pages = ps; all = refl }

-- What the flash of the block makes of them.
record Compared : Type 0 where
  equal : any_differs the_part (block_awaited false) all_equal fresh_memory.flash ≡ false
  different : any_differs the_part (block_awaited false) second_differs fresh_memory.flash ≡ true
  remembered : any_differs the_part (block_awaited true) all_equal fresh_memory.flash ≡ true

compared-so : Compared
unfolding flash_from joined_pages equal_page different_page same block_size place_of place_in lies_in block_of page_of ◌and◌ ◌or◌ if◌then◌otherwise◌
compared-so = record { equal = refl; different = refl; remembered = refl }

-- The replies to four pages.
record FourReplies (a b c e : List ℕ) : Type 0 where
  well : all_said (to_pages false (a ∷ b ∷ c ∷ e ∷ [])) ≡ last_says acknowledged_twice
  failed : all_said (to_pages true (a ∷ b ∷ c ∷ e ∷ [])) ≡ last_says verify_failed

four-replies : (a b c e : List ℕ) → FourReplies a b c e
unfolding all_said to_pages to_page framed sum_of less_all less if◌then◌otherwise◌
four-replies a b c e = record { well = refl; failed = refl }

told-by : (d : Bool) (a b c e : List ℕ) (t : Bool) → AllPages (a ∷ b ∷ c ∷ e ∷ []) → any_differs the_part (block_awaited d) (a ∷ b ∷ c ∷ e ∷ []) fresh_memory.flash ≡ t
    → reply_by (verifying_chip d) (page_frames (a ∷ b ∷ c ∷ e ∷ [])) ≡ all_said (to_pages t (a ∷ b ∷ c ∷ e ∷ []))
told-by d a b c e t ps x =
    let u = verify-told the_part (verifying_chip d) (block_awaited d) (a ∷ b ∷ c ∷ e ∷ []) (verifying d a b c e ps) in
    replies (verifying_chip d) (page_frames (a ∷ b ∷ c ∷ e ∷ [])) (u.says ∙ ap (λ (t : Bool). to_pages t (a ∷ b ∷ c ∷ e ∷ [])) x)

pub told-late : ToldLate
told-late =
    let r = four-replies equal_page equal_page equal_page equal_page in
    let s = four-replies equal_page different_page equal_page equal_page in
    record {
      none-differs = told-by false _ _ _ _ false equal-pages compared-so.equal ∙ r.well;
      second-differs = told-by false _ _ _ _ true second-pages compared-so.different ∙ s.failed;
      handed-in = told-by true _ _ _ _ true equal-pages compared-so.remembered ∙ r.failed;
    }

-- The whole command.
asked : (a b c e : List ℕ) → AllPages (a ∷ b ∷ c ∷ e ∷ []) → VerifyAsked the_part ready_chip 0x0400 0x07FF CodeFlash 1 1 (a ∷ b ∷ c ∷ e ∷ [])
unfolding fresh range_of whole_blocks starts_block ends_block stretch block_of lies_in block_size ◌and◌ if◌then◌otherwise◌
asked a b c e ps = record { stands = ready-stands; nothing = refl; phase = refl; range = refl; pages = ps; all = refl }

record ComparedRange : Type 0 where
  equal : not (same (range_bytes the_part CodeFlash 1 1 fresh_memory.flash) (joined_pages all_equal)) ≡ false
  different : not (same (range_bytes the_part CodeFlash 1 1 fresh_memory.flash) (joined_pages second_differs)) ≡ true

range-so : ComparedRange
unfolding range_bytes joined_pages equal_page different_page same block_size ◌and◌
range-so = record { equal = refl; different = refl }

asked-replies : (us : List Utterance) → all_said (replicate 10 silence ++ says_frame (acknowledge ∷ []) ∷ us) ≡ acknowledged ++ all_said us
unfolding all_said framed sum_of less_all less if◌then◌otherwise◌
asked-replies us = refl

whole_by : (a b c e : List ℕ) (t : Bool) → AllPages (a ∷ b ∷ c ∷ e ∷ [])
    → not (same (range_bytes the_part CodeFlash 1 1 fresh_memory.flash) (joined_pages (a ∷ b ∷ c ∷ e ∷ []))) ≡ t
    → reply_by ready_chip (verify_frame 0x0400 0x07FF ++ page_frames (a ∷ b ∷ c ∷ e ∷ [])) ≡ acknowledged ++ all_said (to_pages t (a ∷ b ∷ c ∷ e ∷ []))
whole_by a b c e t ps x =
    replies ready_chip (verify_frame 0x0400 0x07FF ++ page_frames (a ∷ b ∷ c ∷ e ∷ []))
    (command-told the_part ready_chip 0x0400 0x07FF CodeFlash 1 1 (a ∷ b ∷ c ∷ e ∷ []) (asked a b c e ps)).says
    ∙ asked-replies _
    ∙ ap (λ (t : Bool). acknowledged ++ all_said (to_pages t (a ∷ b ∷ c ∷ e ∷ []))) x

pub whole-told : WholeTold
unfolding verify_frame payload_of com_of information_of low_first framed sum_of less_all less if◌then◌otherwise◌
whole-told =
    let r = four-replies equal_page equal_page equal_page equal_page in
    let s = four-replies equal_page different_page equal_page equal_page in
    record {
      asked = refl;
      none-differs = whole_by _ _ _ _ false equal-pages range-so.equal ∙ ap (λ (bs : List ℕ). acknowledged ++ bs) r.well;
      second-differs = whole_by _ _ _ _ true second-pages range-so.different ∙ ap (λ (bs : List ℕ). acknowledged ++ bs) s.failed;
    }

-- A difference at 0400h, and what comes before the page for 0500h or in its place.
abbrev after_difference : Awaited
after_difference = record { command = 0x13; next = 0x0500; last = 0x07FF; differed = true }

abbrev three_equal : List (List ℕ)
three_equal = equal_page ∷ equal_page ∷ equal_page ∷ []

first-told : GoesOn the_part (verifying_chip false) (block_awaited false) different_page three_equal
first-told =
    earlier-told the_part (verifying_chip false) (block_awaited false) different_page equal_page (equal_page ∷ equal_page ∷ [])
    (verifying false different_page equal_page equal_page equal_page (and_page different-page (and_page equal-page (and_page equal-page (and_page equal-page no_page)))))

seen-so : page_seen the_part (block_awaited false) different_page fresh_memory.flash ≡ after_difference
unfolding flash_from joined_pages different_page same block_size place_of place_in lies_in block_of page_of ◌and◌ ◌or◌ if◌then◌otherwise◌
seen-so = refl

goes_on : Verifying the_part differed_chip after_difference three_equal
goes_on = subst (λ (w : Awaited). Verifying the_part differed_chip w three_equal) seen-so first-told.verifies

cut-quiet : completes_only no_frame (awaits_in (Awaiting after_difference)) idle cut_page ≡ true
unfolding cut_page completes_only permitted then_awaits framing good_for empty counted footer_of length_of is_last_page ◌and◌ ◌or◌ if◌then◌otherwise◌
cut-quiet = refl

cut-noise : Noise no_frame the_part differed_chip cut_page
cut-noise =
    record {
      stands = goes_on.stands;
      nothing = goes_on.nothing;
      bytes = cut-page.bytes;
      quiet = ap (λ (f : Phase). completes_only no_frame (awaits_in f) idle cut_page) goes_on.phase ∙ cut-quiet;
    }

remembered-so : any_differs the_part after_difference three_equal differed_chip.memory.flash ≡ true
unfolding ◌or◌
remembered-so = refl

sum-damaged : Damaged the_part differed_chip after_difference wrong_sum
unfolding wrong_sum equal_page good_for footer_of length_of is_last_page fitting judge_of is_frame counted summed sum_of less_all less ◌and◌ ◌or◌ if◌then◌otherwise◌
sum-damaged =
    record {
      stands = goes_on.stands;
      nothing = goes_on.nothing;
      phase = goes_on.phase;
      command = refl;
      frame = refl;
      header = refl;
      bytes = more {b = 0x02} (omega arith) (more {b = 0x00} (omega arith) (below-append (below_all {b = 0xFF} 256 (omega arith)) (more {b = 0x01} (omega arith) (more {b = 0x17} (omega arith) none))));
      bad = refl;
    }

damaged-told : Told the_part differed_chip wrong_sum (replicate (length wrong_sum - 1) silence ++ blames_twice (judged_in (awaits_in (Awaiting after_difference)) wrong_sum) ∷ [])
damaged-told = damaged-ends the_part differed_chip after_difference wrong_sum sum-damaged

record OtherReplies : Type 0 where
  first : all_said (to_page acknowledge acknowledge) ≡ acknowledged_twice
  three : all_said (to_pages true three_equal) ≡ acknowledged_twice ++ acknowledged_twice ++ verify_failed
  blamed : all_said (replicate (length wrong_sum - 1) silence ++ blames_twice (judged_in (awaits_in (Awaiting after_difference)) wrong_sum) ∷ []) ≡ sum_blamed

other-replies : OtherReplies
unfolding all_said to_pages to_page wrong_sum equal_page framed footer_of length_of is_last_page fitting judge_of is_frame counted summed sum_of less_all less ◌and◌ ◌or◌ if◌then◌otherwise◌
other-replies = record { first = refl; three = refl; blamed = refl }

pub in_between : InBetween
in_between =
    record {
      at_first = replies _ _ first-told.says ∙ other-replies.first;
      after_noise =
          replies _ _
          ((told-after-noise the_part differed_chip after_difference three_equal cut_page goes_on cut-noise cut-page-completes-none).says
          ∙ ap (λ (t : Bool). to_pages t three_equal) remembered-so)
          ∙ other-replies.three;
      damaged = replies _ _ damaged-told.says ∙ other-replies.blamed;
      ends = ap (λ (k : Core). k.phase) damaged-told.core;
    }
