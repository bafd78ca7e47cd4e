-- Laws of the pages.
-- Assumes nothing.
use mathlib.Core.Bool.{Bool, false, true}
use mathlib.Core.List.{List, []}
use mathlib.Core.Path.{◌∙◌, ◌≡◌, ap, refl, sym}
use Prim.Native.Nat.{◌+◌, ◌-◌, ◌<◌, ◌≤◌, ℕ}
use native.Mathlib.Decide.{dec_lt}
use native.Mathlib.Omega.{arith}
use lib.Dec.{ltb}
use borrow.Author.Tests.{le-ltb, lt-ltb, ltb-false}
use lib.ListN.{drop, length, length-take, take}
use native.Mathlib.Nat.{min-le_left}
use Rattle.chip_core.specs.Effect.{Flash, Memory, acknowledge, bytes_in, effect, flash, memory, told, write_error}
use Rattle.chip_core.specs.declared.Core.{Core}
use Rattle.chip_core.specs.declared.Done.{Done}
use Rattle.chip_flash.proofs.Laws.{programmed-long}
use Rattle.chip_flash.specs.Flash.{lands, programmed}
use Rattle.chip_pages.specs.Pages.{is_last_page, next_page, page_in, page_status, page_stored, page_written, pair, program_page, ready, stored_reply, told_written}
use Rattle.chip_sums.proofs.Laws.{resummed-after}
use Rattle.chip_sums.specs.Sums.{resummed}
use Rattle.chip_core.specs.declared.Awaited.{Awaited}
use Rattle.part.specs.Part.{page_size, place_of}
use Rattle.part.specs.declared.Part.{Part}
use Rattle.part.specs.declared.Place.{Place}
use Rattle.std.specs.Prelude.{None, Option, Some}
use Rattle.words.specs.Words.{if◌then◌otherwise◌}

-- The last page's test, without a sum that could wrap.
pub reached : (next last size : ℕ) → last ≤ next → 0 < size → true ≡ ltb last (next + size)
reached next last size h k = sym (lt-ltb last (next + size) (omega arith))

pub reaches : (next last s size : ℕ) → next < last → s ≡ size → ltb (last - next) s ≡ ltb last (next + size)
reaches next last s size h e = rw e (go (dec_lt (last - next) size))
  where
    go : Dec (last - next < size) → ltb (last - next) size ≡ ltb last (next + size)
    go (yes k) = lt-ltb (last - next) size k ∙ sym (lt-ltb last (next + size) (omega arith))
    go (no k) = le-ltb (last - next) size (omega arith) ∙ sym (le-ltb last (next + size) (omega arith))

pub not_last : (w : Awaited) → is_last_page w ≡ false → w.next + page_size ≤ w.last
unfolding is_last_page
not_last w e = ltb-false _ _ e

-- A page written: what is left where flash holds it and its block's sum is worked out after it.
pub page-written : {c d t old : List ℕ} {at : Option Place} {s : ℕ} {r : Done} (p : Part) (k : Core) (w : Awaited) (ds : List ℕ) (m : Memory)
    → at ≡ place_of p w.next → old ≡ page_in at m.flash → s ≡ page_status old ds → flash c d ≡ page_stored at (programmed (page_in at m.flash) ds) m.flash
    → t ≡ (resummed p at (memory c d m.sums)).sums → r ≡ told_written s w k
    → effect r (memory c d t) ≡ program_page p k w (place_of p w.next) ds m
unfolding program_page page_written
page-written {at = at} {r = r} p k w ds m a o e f g n =
    rw (← a, ← o, ← e, ← n, o) (ap (λ (q : Memory). effect r q) (resummed-after p at m.sums f g))

-- What is told of a written page is one of two, whatever is awaited and whatever the record is.
pub told-either : (P : (Awaited → Core → Done) → Type 0) (old ds : List ℕ)
    → (lands old ds ≡ true → P (λ (w : Awaited) (k : Core). told (stored_reply w) (next_page w k)))
    → (lands old ds ≡ false → P (λ (w : Awaited) (k : Core). pair acknowledge write_error (ready k))) → P (told_written (page_status old ds))
unfolding page_status told_written if◌then◌otherwise◌
told-either P old ds y n = go (lands old ds) y n
  where
    go : (t : Bool) → (t ≡ true → P (λ (w : Awaited) (k : Core). told (stored_reply w) (next_page w k)))
        → (t ≡ false → P (λ (w : Awaited) (k : Core). pair acknowledge write_error (ready k))) → P (told_written (if t then acknowledge otherwise write_error))
    go true u v = u refl
    go false u v = v refl

-- What is written is no longer than a page.
pub page-short : (at : Option Place) (ds : List ℕ) (m : Flash) → length (programmed (page_in at m) ds) ≤ 256
unfolding page_in
page-short None ds m = rw (programmed-long [] ds) (omega arith)
page-short (Some place) ds m =
    let l = take page_size (drop place.offset (bytes_in place.area m)) in
    omega (arith, programmed-long l ds, length-take page_size (drop place.offset (bytes_in place.area m)), min-le_left page_size (length (drop place.offset (bytes_in place.area m))))
