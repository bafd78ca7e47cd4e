-- Phase 4 stays good: a good range is awaited from its first page, and after a page that is not the last the next one is awaited.
-- Assumes nothing.
use mathlib.Core.Bool.{Bool, false, false≢true, true}
use mathlib.Core.Path.{◌≡◌, refl}
use Prim.Native.Nat.{◌%◌, ◌+◌, ◌-◌, ◌≤◌, ℕ}
use native.Mathlib.Omega.{arith}
use lib.Dec.{eqb, leb}
use borrow.Author.Tests.{eq-eqb, eqb-true, le-leb, leb-true}
use Rattle.chip_state.specs.Refusals.{good_awaited, good_places, same_area}
use Rattle.chip_pages.proofs.Laws.{not_last}
use Rattle.chip_pages.specs.Pages.{is_last_page, page_after}
use Rattle.chip_core.specs.declared.Awaited.{Awaited}
use Rattle.part.proofs.Laws.{LiesIn, Spot, block-page, in_order, lies-place, place-lies, range-good, stretch-whole}
use Rattle.part.specs.Part.{block_size, described, first, page_size, place_in, place_of, range_of, range_at}
use Rattle.part.specs.declared.Area.{Area}
use Rattle.part.specs.declared.Area.TheVariants.{CodeFlash, DataFlash}
use Rattle.part.specs.declared.Part.{Part}
use Rattle.part.specs.declared.Place.{Place}
use Rattle.std.specs.Prelude.{None, Option, Some}
use Rattle.words.proofs.Laws.{and_both, and_left, and_right, or_left, or_right}
use Rattle.words.specs.Words.{◌and◌, ◌or◌}

-- Pages awaited in one area: from a page's start to a block's end.
pub record Walk (p : Part) (w : Awaited) (a : Area) : Type 0 where
  pub here : LiesIn p a w.next
  pub there : LiesIn p a w.last
  pub order : w.next ≤ w.last
  pub page : (w.next - first a) % page_size ≡ 0
  pub end : (w.last - first a + 1) % block_size p a ≡ 0

-- The command is one that has pages.
abbrev pub paged : Awaited → Bool
paged w = eqb w.command 0x40 or eqb w.command 0x13

in-one-area : (a : Area) → same_area a a ≡ true
in-one-area CodeFlash = refl
in-one-area DataFlash = refl

pub walk-good : (p : Part) (w : Awaited) (a : Area) → described p ≡ true → paged w ≡ true → Walk p w a → good_awaited p w ≡ true
unfolding good_awaited good_places place_in
walk-good p w a d c g =
    or_right (eqb w.command 0xA0)
    (and_both c (and_both (le-leb _ _ g.order)
    (rw (lies-place p a w.next d g.here, lies-place p a w.last d g.there)
    (and_both (in-one-area a) (and_both (eq-eqb _ _ g.page) (eq-eqb _ _ g.end))))))

-- The other way: what a good phase 4 for pages is.
pub record Pages (p : Part) (w : Awaited) : Type 0 where
  pub area : Area
  pub walk : Walk p w area
  pub command : paged w ≡ true

same_area_lem : (a b : Area) → same_area a b ≡ true → a ≡ b
same_area_lem CodeFlash CodeFlash e = refl
same_area_lem CodeFlash DataFlash e = absurd (false≢true e)
same_area_lem DataFlash CodeFlash e = absurd (false≢true e)
same_area_lem DataFlash DataFlash e = refl

spot-lies : {p : Part} {at : ℕ} {a : Area} {offset block page : ℕ} → Spot p at a offset block page → LiesIn p a at
spot-lies s = record { low = omega (arith, s.is); high = omega (arith, s.is, s.inside) }

spot-offset : {p : Part} {at : ℕ} {a : Area} {offset block page : ℕ} → Spot p at a offset block page → offset ≡ at - first a
spot-offset s = omega (arith, s.is)

both-walk : (p : Part) (w : Awaited) (a : Area) (x i g : ℕ) (b : Area) (y j h : ℕ) → a ≡ b → Spot p w.next a x i g → Spot p w.last b y j h
    → w.next ≤ w.last → x % page_size ≡ 0 → (y + 1) % block_size p b ≡ 0 → Walk p w b
both-walk p w a x i g b y j h e s t o q r =
    let u : Spot p w.next b x i g = rw e at s in
    let m : x ≡ w.next - first b = spot-offset u in
    let n : y ≡ w.last - first b = spot-offset t in
    record { here = spot-lies u; there = spot-lies t; order = o; page = rw m at q; end = rw n at r }

places-walk : (p : Part) (w : Awaited) (x y : Option Place) → paged w ≡ true → w.next ≤ w.last → place_of p w.next ≡ x → place_of p w.last ≡ y
    → good_places p x y ≡ true → Pages p w
unfolding good_places
places-walk p w None None c o e f t = absurd (false≢true t)
places-walk p w None (Some place) c o e f t = absurd (false≢true t)
places-walk p w (Some place) None c o e f t = absurd (false≢true t)
places-walk p w (Some place) (Some other) c o e f t =
    let r = and_right (same_area place.area other.area) _ t in
    let s = same_area_lem place.area other.area (and_left (same_area place.area other.area) _ t) in
    let u = place-lies p w.next place.area place.offset place.block place.page e in
    let v = place-lies p w.last other.area other.offset other.block other.page f in
    record {
      area = other.area;
      walk =
          both-walk p w place.area place.offset place.block place.page other.area other.offset other.block other.page s u v o
          (eqb-true _ _ (and_left _ _ r)) (eqb-true _ _ (and_right (eqb (place.offset % page_size) 0) _ r));
      command = c;
    }

pub good-walk : (p : Part) (w : Awaited) → good_awaited p w ≡ true → eqb w.command 0xA0 ≡ false → Pages p w
unfolding good_awaited ◌or◌
good-walk p w g n =
    let r : paged w and leb w.next w.last and good_places p (place_of p w.next) (place_of p w.last) ≡ true = rw n at g in
    let q = and_right (paged w) _ r in
    places-walk p w (place_of p w.next) (place_of p w.last) (and_left (paged w) _ r) (leb-true _ _ (and_left _ _ q)) refl refl
    (and_right (leb w.next w.last) _ q)

-- The pages that 40h and 13h await, from the first on.
abbrev pub pages_of : ℕ → ℕ → ℕ → Awaited
pages_of cmd start end = record { command = cmd; next = start; last = end; differed = false }

pub range-awaited : (p : Part) (cmd start end : ℕ) (a : Area) (block count : ℕ) → described p ≡ true → paged (pages_of cmd start end) ≡ true
    → range_of p start end ≡ Some (range_at a block count) → good_awaited p (pages_of cmd start end) ≡ true
range-awaited p cmd start end a block count d c e =
    let s = range-good p start end a block count e in
    let w = stretch-whole s in
    let z : end - first a + 1 ≡ end + 1 - first a = omega (arith, w.ends.low) in
    walk-good p (pages_of cmd start end) a d c
    (record {
      here = w.begins;
      there = w.ends;
      order = in_order p start end a block count s;
      page = block-page p a (start - first a) w.first_byte;
      end = rw z w.last_byte;
    })

-- After a page that is not the last.
pub next-awaited : (p : Part) (w : Awaited) → described p ≡ true → good_awaited p w ≡ true → eqb w.command 0xA0 ≡ false → is_last_page w ≡ false
    → good_awaited p (page_after w) ≡ true
next-awaited p w d g n l =
    let s = good-walk p w g n in
    let k = s.walk in
    let m : w.next + 256 ≤ w.last = not_last w l in
    walk-good p (page_after w) s.area d s.command
    (record {
      here = record { low = omega (arith, k.here.low); high = omega (arith, k.there.high) };
      there = k.there;
      order = omega arith;
      page = omega (arith, k.page, k.here.low);
      end = k.end;
    })

-- A0h awaits its data with both addresses 0.
pub security-awaited : (p : Part) → good_awaited p (pages_of 0xA0 0 0) ≡ true
unfolding good_awaited
security-awaited p = or_left _ refl
