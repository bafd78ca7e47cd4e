-- What a complete frame does keeps the record good and both flashes as long as they were.
-- Assumes nothing.
use mathlib.Core.Bool.{false, true}
use mathlib.Core.List.{List}
use mathlib.Core.Path.{◌≡◌, refl}
use Prim.Native.Nat.{ℕ}
use lib.Dec.{eqb}
use lib.ListN.{length}
use borrow.Author.Tests.{leb-true, not-false}
use Rattle.chip_flash.specs.Flash.{programmed}
use Rattle.chip_pages.proofs.Laws.{told-either}
use Rattle.chip_state.specs.Refusals.{good_awaited, good_phase}
use Rattle.claims_good.proofs.Awaited.{next-awaited, pages_of, range-awaited, security-awaited}
use Rattle.claims_good.proofs.Core.{GoodCore, enters, made-ready}
use Rattle.chip_work.specs.Work.{blank_check, block_erase, checksum, erased_in, programming, rate_set, security_release, verify}
use Rattle.chip_commands.specs.Commands.{command_does, reading_does, work}
use Rattle.chip_core.specs.Effect.{Effect, Flash, Memory, bytes_in, effect, entered, with_bytes, with_flash}
use Rattle.chip_sums.proofs.Laws.{resummed-flash}
use Rattle.chip_sums.specs.Sums.{resummed}
use Rattle.chip_pages.specs.Pages.{bad_data, compared, data_does, good_data, next_page, page_in, page_stored, page_written, program_page, security_data, verify_page}
use Rattle.commands.specs.declared.Command.{Command}
use Rattle.commands.specs.declared.Command.TheVariants.{BlankCheck, BlockErase, Checksum, Programming, RateSet, Reset, SecurityGet, SecurityRelease, SecuritySet, SignatureGet, Verify}
use Rattle.part.specs.declared.Range.{Range}
use Rattle.part.specs.declared.Place.{Place}
use Rattle.commands.specs.declared.Misread.TheVariants.{UnfitLen, Unknown}
use Rattle.commands.specs.declared.Misread.{Misread}
use Rattle.std.specs.Prelude.{Err, None, Ok, Option, Result, Some}
use Rattle.chip_core.specs.declared.Awaited.{Awaited}
use Rattle.chip_core.specs.declared.Core.{Core}
use Rattle.chip_core.specs.declared.Done.{Done}
use Rattle.chip_core.specs.declared.Phase.TheVariants.{Awaiting}
use Rattle.chip_flash.proofs.Laws.{erase-of-long}
use Rattle.frame.specs.declared.judgement.Judgement.{Judgement}
use Rattle.lent.proofs.Laws.{put-long}
use Rattle.lent.specs.Lent.{same}
use Rattle.chip_options.proofs.Laws.{released-good}
use Rattle.part.specs.Part.{block_size, described, range_of, place_at}
use Rattle.part.specs.Rate.{accepts_rate}
use Rattle.part.specs.declared.Area.{Area}
use Rattle.part.specs.declared.Area.TheVariants.{CodeFlash, DataFlash}
use Rattle.part.specs.declared.Part.{Part}
use Rattle.words.proofs.Laws.{and_left, if-all}
use Rattle.words.specs.Words.{◌or◌}

pub record Keeps (p : Part) (m : Memory) (x : Effect) : Type 0 where
  pub good : GoodCore p x.core
  pub code : length x.memory.flash.code_flash ≡ length m.flash.code_flash
  pub extra : length x.memory.flash.data_flash ≡ length m.flash.data_flash

-- Flash stays, and the record is good.
pub stays-so : {p : Part} (m : Memory) {d : Done} → GoodCore p d.core → Keeps p m (effect d m)
stays-so m g = record { good = g; code = refl; extra = refl }

record GoodDone (p : Part) (d : Done) : Type 0 where
  good : GoodCore p d.core

done-so : {p : Part} {d : Done} → GoodCore p d.core → GoodDone p d
done-so g = record { good = g }

done-keeps : {p : Part} (m : Memory) {d : Done} → GoodDone p d → Keeps p m (effect d m)
done-keeps m g = stays-so m g.good

with-bytes : {p : Part} {d : Done} (a : Area) (m : Memory) (l : List ℕ) → GoodCore p d.core → length l ≡ length (bytes_in a m.flash)
    → Keeps p m (effect d (with_flash m (with_bytes a m.flash l)))
with-bytes CodeFlash m l g e = record { good = g; code = e; extra = refl }
with-bytes DataFlash m l g e = record { good = g; code = refl; extra = e }

sum-keeps : {p : Part} {m n : Memory} {d : Done} (at : Option Place) → Keeps p m (effect d n) → Keeps p m (effect d (resummed p at n))
sum-keeps {p} {m} {n} at g = record { good = g.good; code = rw (resummed-flash p at n) g.code; extra = rw (resummed-flash p at n) g.extra }

module _ (p : Part) (k : Core) (part : described p ≡ true) (good : GoodCore p k) where
  rate-set : (rate supply : ℕ) → GoodDone p (rate_set p k rate supply)
  unfolding rate_set accepts_rate good_phase
  rate-set rate supply =
      if-all (GoodDone p) _ (λ t. done-so good)
      (λ t. done-so (record { rate = leb-true _ _ (and_left _ _ (not-false _ t)); options = good.options; phase = refl }))

  erase : (at : Option Place) (m : Memory) → Keeps p m (block_erase p k at m)
  unfolding block_erase erased_in
  erase None m = stays-so m good
  erase (Some place) m =
      if-all (Keeps p m) _ (λ t. stays-so m good)
      (λ t. if-all (Keeps p m) _ (λ u. stays-so m good)
      (λ u. sum-keeps (Some (place_at place.area place.offset place.block place.page)) (with-bytes place.area m _ good (erase-of-long (bytes_in place.area m.flash) place.offset (block_size p place.area)))))

  check : (r : Option Range) (d01 : ℕ) (m : Flash) → GoodDone p (blank_check p k r d01 m)
  unfolding blank_check
  check None d01 m = done-so good
  check (Some range) d01 m =
      if-all (GoodDone p) _ (λ t. done-so good) (λ t. if-all (GoodDone p) _ (λ u. done-so good) (λ u. if-all (GoodDone p) _ (λ v. done-so good) (λ v. done-so good)))

  awaits : (w : Awaited) → good_awaited p w ≡ true → GoodCore p (entered k (Awaiting w))
  unfolding good_phase
  awaits w g = enters (Awaiting w) good g

  program : (r : Option Range) (start end : ℕ) → range_of p start end ≡ r → GoodDone p (programming p k r start end)
  unfolding programming ◌or◌
  program None start end e = done-so good
  program (Some range) start end e =
      if-all (GoodDone p) _ (λ t. done-so good) (λ t. done-so (awaits (pages_of 0x40 start end) (range-awaited p 0x40 start end range.area range.block range.count part refl e)))

  verifies : (r : Option Range) (start end : ℕ) → range_of p start end ≡ r → GoodDone p (verify k r start end)
  unfolding verify ◌or◌
  verifies None start end e = done-so good
  verifies (Some range) start end e = done-so (awaits (pages_of 0x13 start end) (range-awaited p 0x13 start end range.area range.block range.count part refl e))

  sums : (r : Option Range) (m : Memory) → GoodDone p (checksum p k r m)
  unfolding checksum
  sums None m = done-so good
  sums (Some range) m = if-all (GoodDone p) _ (λ t. done-so good) (λ t. done-so good)

  releases : (m : Flash) → GoodDone p (security_release p k m)
  unfolding security_release
  releases m =
      if-all (GoodDone p) _ (λ t. done-so good)
      (λ t. if-all (GoodDone p) _ (λ u. done-so good)
      (λ u. done-so (record { rate = good.rate; options = released-good p k.options part good.options; phase = good.phase })))

  works : (c : Command) (m : Memory) → Keeps p m (work c p k m)
  unfolding work
  works (RateSet rate supply) m = done-keeps m (rate-set _ _)
  works Reset m = stays-so m good
  works (BlockErase start) m = erase _ m
  works (BlankCheck start end d01) m = done-keeps m (check _ _ m.flash)
  works (Programming start end) m = done-keeps m (program _ _ _ refl)
  works (Verify start end) m = done-keeps m (verifies _ _ _ refl)
  works (Checksum start end) m = done-keeps m (sums _ m)
  works SignatureGet m = stays-so m good
  works SecurityGet m = stays-so m good
  works SecuritySet m = stays-so m (awaits (pages_of 0xA0 0 0) (security-awaited p))
  works SecurityRelease m = done-keeps m (releases m.flash)

  reading-keeps : (r : Result Command Misread) (m : Memory) → Keeps p m (reading_does r p k m)
  unfolding reading_does
  reading-keeps (Err Unknown) m = stays-so m good
  reading-keeps (Err UnfitLen) m = stays-so m good
  reading-keeps (Ok c) m = works c m

  pub command-keeps : (f : List ℕ) (m : Memory) → Keeps p m (command_does p k f m)
  unfolding command_does
  command-keeps f m = if-all (Keeps p m) _ (λ t. stays-so m good) (λ t. if-all (Keeps p m) _ (λ u. stays-so m good) (λ u. reading-keeps _ m))

  -- The pages and A0h's data.
  goes_on : (w : Awaited) → good_awaited p w ≡ true → eqb w.command 0xA0 ≡ false → GoodCore p (next_page w k)
  unfolding next_page
  goes_on w g n = if-all (GoodCore p) _ (λ t. made-ready good) (λ t. awaits _ (next-awaited p w part g n t))

  module _ (w : Awaited) (awaited : good_awaited p w ≡ true) where
    put-page : (at : Option Place) (ds : List ℕ) (m : Memory) {d : Done} → GoodCore p d.core → Keeps p m (effect d (with_flash m (page_stored at ds m.flash)))
    unfolding page_stored
    put-page None ds m g = record { good = g; code = refl; extra = refl }
    put-page (Some place) ds m g = with-bytes place.area m _ g (put-long (bytes_in place.area m.flash) place.offset ds refl)

    programs : eqb w.command 0xA0 ≡ false → (at : Option Place) (ds : List ℕ) (m : Memory) → Keeps p m (program_page p k w at ds m)
    unfolding program_page page_written
    programs n at ds m =
        let old = page_in at m.flash in
        sum-keeps at
        (put-page at (programmed old ds) m
        (told-either (λ (d : Awaited → Core → Done). GoodCore p (d w k).core) old ds (λ t. goes_on w awaited n) (λ t. made-ready good)))

    compares : eqb w.command 0xA0 ≡ false → (at : Option Place) (ds : List ℕ) (m : Flash) → GoodDone p (verify_page k w at ds m)
    unfolding verify_page compared good_awaited
    compares n at ds m = done-so (goes_on (compared w (same (page_in at m) ds)) awaited n)

    secures : (f : List ℕ) → GoodDone p (security_data p k f)
    unfolding security_data good_phase
    secures f =
        if-all (GoodDone p) _ (λ t. done-so (made-ready good))
        (λ t. if-all (GoodDone p) _ (λ u. done-so (made-ready good))
        (λ u. done-so (record { rate = good.rate; options = and_left _ _ (not-false _ t); phase = refl })))

    bad-keeps : (j : Judgement) → GoodDone p (bad_data w j k)
    unfolding bad_data
    bad-keeps j = if-all (GoodDone p) _ (λ t. done-so (made-ready good)) (λ t. done-so (made-ready good))

    pub data-keeps : (f : List ℕ) (m : Memory) → Keeps p m (data_does p k w f m)
    unfolding data_does good_data
    data-keeps f m =
        if-all (Keeps p m) _ (λ t. done-keeps m (bad-keeps _))
        (λ t. if-all (Keeps p m) _ (λ u. done-keeps m (secures _))
        (λ u. if-all (Keeps p m) _ (λ v. programs u _ _ m) (λ v. done-keeps m (compares u _ _ m.flash))))
