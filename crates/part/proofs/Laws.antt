-- Laws about a part's areas, addresses and ranges: what chip and dock use instead of the definitions' text.
-- Assumes nothing.
use Rattle.part.specs.declared.Place.{Place}
use Rattle.part.specs.declared.Range.{Range}
use mathlib.Core.Bool.{Bool, false, true}
use mathlib.Core.List.{List, [], ◌++◌, ◌∷◌}
use mathlib.Core.Path.{◌∙◌, ◌≡◌, ap, refl, sym}
use Prim.Native.Nat.{◌%◌, ◌*◌, ◌+◌, ◌-◌, ◌/◌, ◌<◌, ◌^◌, ◌≤◌, ℕ}
use native.Mathlib.Nat.{div-add-mod', mul-le-mul_left, mul-le-mul_right, suc-mul}
use native.Mathlib.Numerals.{add-one}
use native.Mathlib.Omega.{arith}
use lib.Dec.{leb-zero, ltb}
use lib.ListN.{replicate}
use borrow.Author.Tests.{eq-eqb, eqb-true, le-leb, le-ltb, leb-true, lt-ltb, ltb-false, ltb-true}
use Rattle.part.proofs.Blocks.{Whole, below, whole, whole-inside, whole-read}
use Rattle.part.specs.Part.{bare, block_of, block_size, blocks, described, ends_block, first, lies_in, page_of, page_size, pages, place_in, place_of, range_of, size, starts_block, stretch, whole_blocks, place_at, range_at}
use Rattle.part.specs.Rate.{accepts_rate}
use Rattle.part.specs.Refusal.{Condition, ◌when◌, first_of, number}
use Rattle.part.specs.declared.Area.{Area}
use Rattle.part.specs.declared.Area.TheVariants.{CodeFlash, DataFlash}
use Rattle.part.specs.declared.Part.{Part}
use Rattle.std.specs.Prelude.{Err, None, Ok, Some, Result}
use Rattle.part.specs.declared.refusal.Refusal.{Refusal}
use Rattle.part.specs.declared.refusal.Refusal.TheVariants.{BadPart, BadRange, BadState, CodeLength, DataLength, ImageLength, ManyRetries, OutOfTurn, ShortRoom}
use Rattle.words.proofs.Laws.{and_both, and_left, and_right}
use Rattle.words.specs.Words.{◌and◌, ◌from◌to◌, if◌then◌otherwise◌}

pub block_size-pos : (p : Part) (a : Area) → 0 < block_size p a
unfolding block_size
block_size-pos p a = omega arith

pub block_size-small : (p : Part) (a : Area) → block_size p a ≤ 65536
unfolding block_size
block_size-small p a = omega arith

-- A block is whole pages.
pub pages-whole : (p : Part) (a : Area) → block_size p a ≡ pages p a * page_size
unfolding block_size
pages-whole p a = refl

pub pages-small : (p : Part) (a : Area) → pages p a ≤ 256
pages-small p a = omega (arith, block_size-small p a)

pub positive : (p : Part) (a : Area) {s : ℕ} → s ≡ block_size p a → 0 < s
positive p a e = rw e (block_size-pos p a)

pub first_small : (a : Area) → first a ≤ 0xF1000
first_small CodeFlash = omega arith
first_small DataFlash = omega arith

pub product_small : (n s : ℕ) → n < 2 ^ 32 → s ≤ 65536 → n * s ≤ 2 ^ 48
product_small n s h k = let l : n * s ≤ n * 65536 = mul-le-mul_left n k in omega arith

pub blocks-small : (p : Part) (a : Area) → p.code_blocks < 2 ^ 32 → p.data_blocks < 2 ^ 32 → blocks p a < 2 ^ 32
blocks-small p CodeFlash h k = h
blocks-small p DataFlash h k = k

-- No address computed from a part wraps, whatever its numbers.
pub size_small : (p : Part) (a : Area) → p.code_blocks < 2 ^ 32 → p.data_blocks < 2 ^ 32 → size p a ≤ 2 ^ 48
size_small p a h k = product_small (blocks p a) (block_size p a) (blocks-small p a h k) (block_size-small p a)

pub record LiesIn (p : Part) (a : Area) (at : ℕ) : Type 0 where
  pub low : first a ≤ at
  pub high : at < first a + size p a

pub lies : (p : Part) (a : Area) (at : ℕ) → lies_in p a at ≡ true → LiesIn p a at
unfolding lies_in
lies p a at t = record { low = leb-true _ _ (and_left _ _ t); high = ltb-true _ _ (and_right _ _ t) }

pub lies-yes : {p : Part} {a : Area} {at : ℕ} → LiesIn p a at → lies_in p a at ≡ true
unfolding lies_in
lies-yes l = and_both (le-leb _ _ l.low) (lt-ltb _ _ l.high)

pub record WholeIn (p : Part) (a : Area) (start end : ℕ) : Type 0 where
  pub begins : LiesIn p a start
  pub ends : LiesIn p a end
  pub first_byte : (start - first a) % block_size p a ≡ 0
  pub last_byte : (end + 1 - first a) % block_size p a ≡ 0

pub whole_in : (p : Part) (a : Area) (start end : ℕ) → whole_blocks p a start end ≡ true → WholeIn p a start end
unfolding whole_blocks starts_block ends_block
whole_in p a start end t =
    let u = and_right _ _ t in
    let v = and_right _ _ u in
    record {
      begins = lies p a start (and_left _ _ t);
      ends = lies p a end (and_left _ _ u);
      first_byte = eqb-true _ _ (and_left _ _ v);
      last_byte = eqb-true _ _ (and_right _ _ v);
    }

-- What a good range is: from its first block's first address to its last block's last, inside its area.
pub record Stretch (p : Part) (start end : ℕ) (a : Area) (block count : ℕ) : Type 0 where
  pub begins : start ≡ first a + block * block_size p a
  pub ends : end + 1 ≡ first a + (block + count) * block_size p a
  pub some : 1 ≤ count
  pub inside : block + count ≤ blocks p a

stretch-law : (p : Part) (a : Area) (start end : ℕ) → start ≤ end → WholeIn p a start end
    → Stretch p start end a (block_of p a start) (block_of p a end + 1 - block_of p a start)
unfolding block_of
stretch-law p a start end h w =
    let x = start - first a in
    let y = end - first a in
    let s = block_size p a in
    let pos = block_size-pos p a in
    let z : (y + 1) % s ≡ 0 = let e : y + 1 ≡ end + 1 - first a = omega (arith, w.ends) in rw e w.last_byte in
    let v : Whole s pos x y (x / s) (y / s + 1 - x / s) = whole s pos x y (omega arith) w.first_byte z in
    record {
      begins = omega (arith, w.begins, v.begins);
      ends = omega (arith, w.ends, v.ends);
      some = v.some;
      inside = whole-inside s pos (blocks p a) x y (x / s) (y / s + 1 - x / s) v (omega (arith, w.ends));
    }

same-range : (p : Part) (start end : ℕ) (a b : Area) (i j m n : ℕ) → (Some (range_at a i m)) ≡ Some (range_at b j n) → Stretch p start end a i m → Stretch p start end b j n
same-range p start end a b i j m n e s =
    let r : range_at a i m ≡ range_at b j n = cc in
    rw (← ap (λ (r : Range). r.area) r, ← ap (λ (r : Range). r.block) r, ← ap (λ (r : Range). r.count) r) s

bad-good : (a : Area) (i m : ℕ) → None ≡ Some (range_at a i m) → ⊥
bad-good a i m e = let z : ◌≡◌ {A = ℕ} 0 1 = cc in omega arith

pub range-good : (p : Part) (start end : ℕ) (a : Area) (block count : ℕ) → range_of p start end ≡ Some (range_at a block count) → Stretch p start end a block count
unfolding range_of if◌then◌otherwise◌ stretch
range-good p start end a block count e = go (ltb end start) refl (whole_blocks p CodeFlash start end) refl (whole_blocks p DataFlash start end) refl e
  where
    in_area : (b : Area) → ltb end start ≡ false → whole_blocks p b start end ≡ true
        → (Some (range_at b (block_of p b start) (block_of p b end + 1 - block_of p b start))) ≡ Some (range_at a block count) → Stretch p start end a block count
    in_area b h w e =
        same-range p start end b a (block_of p b start) block (block_of p b end + 1 - block_of p b start) count e
        (stretch-law p b start end (ltb-false end start h) (whole_in p b start end w))

    go : (t : Bool) → ltb end start ≡ t → (u : Bool) → whole_blocks p CodeFlash start end ≡ u → (v : Bool) → whole_blocks p DataFlash start end ≡ v
        → (if t then None otherwise if u then stretch p CodeFlash start end otherwise if v then stretch p DataFlash start end otherwise None) ≡ Some (range_at a block count)
        → Stretch p start end a block count
    go true h u w v x e = absurd (bad-good a block count e)
    go false h true w v x e = in_area CodeFlash h w e
    go false h false w true x e = in_area DataFlash h x e
    go false h false w false x e = absurd (bad-good a block count e)

-- The areas of a described part do not meet.
pub areas-apart : (p : Part) → described p ≡ true → size p CodeFlash ≤ first DataFlash
unfolding described block_size ◌from◌to◌
areas-apart p d = let h : p.code_blocks ≤ 64 = leb-true _ _ (and_right _ _ (and_left _ _ d)) in omega arith

not-in-code : (p : Part) (start end : ℕ) → size p CodeFlash ≤ start → whole_blocks p CodeFlash start end ≡ false
unfolding whole_blocks lies_in ◌and◌
not-in-code p start end h = simp (leb-zero start, le-ltb _ _ (let z : 0 + size p CodeFlash ≤ start = omega arith in z))

module _ (p : Part) (start end : ℕ) (a : Area) (block count : ℕ) (st : Stretch p start end a block count) where
  the-whole : Whole (block_size p a) (block_size-pos p a) (start - first a) (end - first a) block count
  the-whole =
      let s = block_size p a in
      let l : (block + 1) * s ≤ (block + count) * s = mul-le-mul_right s (omega (arith, st.some)) in
      let m : (block + 1) * s ≡ block * s + s = rw add-one (suc-mul block s) in
      record {
        begins = omega (arith, st.begins);
        ends = omega (arith, st.ends, block_size-pos p a);
        some = st.some;
      }

  pub in_order : start ≤ end
  in_order =
      let s = block_size p a in
      let l : (block + 1) * s ≤ (block + count) * s = mul-le-mul_right s (omega (arith, st.some)) in
      let m : (block + 1) * s ≡ block * s + s = rw add-one (suc-mul block s) in
      omega (arith, st.begins, st.ends, block_size-pos p a)

  whole-yes : whole_blocks p a start end ≡ true
  unfolding whole_blocks starts_block ends_block
  whole-yes =
      let s = block_size p a in
      let r = whole-read s (block_size-pos p a) (start - first a) (end - first a) block count the-whole in
      let k : (block + count) * s ≤ blocks p a * s = mul-le-mul_right s st.inside in
      let e : end + 1 - first a ≡ end - first a + 1 = omega (arith, st.begins, in_order) in
      and_both (lies-yes (record { low = omega (arith, st.begins); high = omega (arith, st.ends, in_order) }))
      (and_both (lies-yes (record { low = omega (arith, st.begins, in_order); high = omega (arith, st.ends) }))
      (and_both (eq-eqb _ _ r.start) (eq-eqb _ _ (ap (λ (n : ℕ). n % s) e ∙ r.end))))

  stretch-is : stretch p a start end ≡ Some (range_at a block count)
  unfolding stretch block_of
  stretch-is =
      let r = whole-read (block_size p a) (block_size-pos p a) (start - first a) (end - first a) block count the-whole in
      rw (r.long, r.number)

-- A range is good exactly when it is such a stretch.
pub good-range : (p : Part) (start end : ℕ) (a : Area) (block count : ℕ) → described p ≡ true → Stretch p start end a block count
    → range_of p start end ≡ Some (range_at a block count)
unfolding range_of if◌then◌otherwise◌
good-range p start end CodeFlash block count d st =
    simp (le-ltb _ _ (in_order p start end CodeFlash block count st), whole-yes p start end CodeFlash block count st, stretch-is p start end CodeFlash block count st)
good-range p start end DataFlash block count d st =
    let n : whole_blocks p CodeFlash start end ≡ false = not-in-code p start end (omega (arith, areas-apart p d, st.begins)) in
    simp (le-ltb _ _ (in_order p start end DataFlash block count st), n, whole-yes p start end DataFlash block count st, stretch-is p start end DataFlash block count st)

-- Where an address lies: the offset is below the area's size, the block is of that area, and the two agree.
pub record Spot (p : Part) (at : ℕ) (a : Area) (offset block page : ℕ) : Type 0 where
  pub is : at ≡ first a + offset
  pub inside : offset < size p a
  pub in-block : offset ≡ block * block_size p a + offset % block_size p a
  pub block-below : block < blocks p a

spot-law : (p : Part) (a : Area) (at : ℕ) → LiesIn p a at → Spot p at a (at - first a) (block_of p a at) (page_of p a at)
unfolding block_of page_of
spot-law p a at l =
    let s = block_size p a in
    let x = at - first a in
    record {
      is = omega (arith, l.low);
      inside = omega (arith, l.low, l.high);
      in-block = sym (div-add-mod' x s);
      block-below = below s (block_size-pos p a) (blocks p a) x (omega (arith, l.low, l.high));
    }

pub place-lies : (p : Part) (at : ℕ) (a : Area) (offset block page : ℕ) → place_of p at ≡ Some (place_at a offset block page) → Spot p at a offset block page
unfolding place_of place_in if◌then◌otherwise◌
place-lies p at a offset block page e = go (lies_in p CodeFlash at) refl (lies_in p DataFlash at) refl e
  where
    in_area : (b : Area) → lies_in p b at ≡ true → (Some (place_at b (at - first b) (block_of p b at) (page_of p b at))) ≡ Some (place_at a offset block page) → Spot p at a offset block page
    in_area b l e =
        let r : place_at b (at - first b) (block_of p b at) (page_of p b at) ≡ place_at a offset block page = cc in
        rw (← ap (λ (r : Place). r.page) r, ← ap (λ (r : Place). r.block) r, ← ap (λ (r : Place). r.offset) r, ← ap (λ (r : Place). r.area) r) (spot-law p b at (lies p b at l))

    go : (t : Bool) → lies_in p CodeFlash at ≡ t → (u : Bool) → lies_in p DataFlash at ≡ u
        → (if t then place_in p CodeFlash at otherwise if u then place_in p DataFlash at otherwise None) ≡ Some (place_at a offset block page) → Spot p at a offset block page
    go true l u m e = in_area CodeFlash l e
    go false l true m e = in_area DataFlash m e
    go false l false m e = absurd (let z : ◌≡◌ {A = ℕ} 0 1 = cc in omega arith)

outside-code : (p : Part) (at : ℕ) → size p CodeFlash ≤ at → lies_in p CodeFlash at ≡ false
unfolding lies_in ◌and◌
outside-code p at h = simp (leb-zero at, le-ltb _ _ (let z : 0 + size p CodeFlash ≤ at = omega arith in z))

-- An address that lies in an area has its place there.
pub lies-place : (p : Part) (a : Area) (at : ℕ) → described p ≡ true → LiesIn p a at → place_of p at ≡ place_in p a at
unfolding place_of if◌then◌otherwise◌
lies-place p CodeFlash at d l = simp (lies-yes l)
lies-place p DataFlash at d l = simp (outside-code p at (omega (arith, areas-apart p d, l.low)), lies-yes l)

-- A good range, as addresses.
pub stretch-whole : {p : Part} {start end : ℕ} {a : Area} {block count : ℕ} → Stretch p start end a block count → WholeIn p a start end
stretch-whole {p} {start} {end} {a} {block} {count} st = whole_in p a start end (whole-yes p start end a block count st)

-- What starts a block starts a page.
pub block-page : (p : Part) (a : Area) (x : ℕ) → x % block_size p a ≡ 0 → x % page_size ≡ 0
unfolding block_size
block-page p a x e = omega arith

-- The numbers of a described part.
pub record Described (p : Part) : Type 0 where
  pub code-least : 8 ≤ p.code_blocks
  pub code-most : p.code_blocks ≤ 64
  pub data-most : p.data_blocks ≤ 8
  pub clock-least : 1 ≤ p.clock
  pub clock-most : p.clock ≤ 32

pub described-is : (p : Part) → described p ≡ true → Described p
unfolding described ◌from◌to◌
described-is p d =
    let c = and_left _ _ d in
    let r = and_right _ _ d in
    let e = and_left _ _ r in
    let k = and_right _ _ r in
    record {
      code-least = leb-true _ _ (and_left _ _ c);
      code-most = leb-true _ _ (and_right _ _ c);
      data-most = leb-true _ _ (and_right _ _ e);
      clock-least = leb-true _ _ (and_left _ _ k);
      clock-most = leb-true _ _ (and_right _ _ k);
    }

pub blocks-most : (p : Part) (a : Area) → described p ≡ true → blocks p a ≤ 64
blocks-most p CodeFlash d = (described-is p d).code-most
blocks-most p DataFlash d = omega (arith, described-is p d)

-- A row of refusals, condition by condition: the first that holds decides, one that does not hold leaves it to the rest, and a row of none accepts.
pub first-row : (x : Condition) (xs : List Condition) → first_of (x ∷ xs) ≡ (if x.holds then Err x.refusal otherwise first_of xs)
unfolding first_of
first-row x xs = refl

pub first-here : (r : Refusal) (t : Bool) (xs : List Condition) → t ≡ true → first_of (r when t ∷ xs) ≡ Err r
unfolding if◌then◌otherwise◌
first-here r t xs h = rw (first-row, h)

pub first_on : (r : Refusal) (t : Bool) (xs : List Condition) → t ≡ false → first_of (r when t ∷ xs) ≡ first_of xs
unfolding if◌then◌otherwise◌
first_on r t xs h = rw (first-row, h)

pub none-held : first_of [] ≡ Ok tt
unfolding first_of
none-held = refl

-- What accepts holds in no condition of the row, and a row of which no condition holds accepts.
pub record Passed (x : Condition) (xs : List Condition) : Type 0 where
  pub not-held : x.holds ≡ false
  pub rest : first_of xs ≡ Ok tt

barred : (r : Refusal) → ◌≡◌ {A = Result Unit Refusal} (Err r) (Ok tt) → ⊥
barred r e = let z : ◌≡◌ {A = ℕ} 0 1 = cc in omega arith

pub passed : (x : Condition) (xs : List Condition) → first_of (x ∷ xs) ≡ Ok tt → Passed x xs
unfolding if◌then◌otherwise◌
passed x xs e = go x.holds refl (sym (first-row x xs) ∙ e)
  where
    go : (t : Bool) → x.holds ≡ t → (if t then Err x.refusal otherwise first_of xs) ≡ Ok tt → Passed x xs
    go true h e = absurd (barred x.refusal e)
    go false h e = record { not-held = h; rest = e }

pub passes : (x : Condition) (xs : List Condition) → x.holds ≡ false → first_of xs ≡ Ok tt → first_of (x ∷ xs) ≡ Ok tt
passes x xs h e = first_on x.refusal x.holds xs h ∙ e

-- A row before another: where one of its conditions holds, the other is not reached; where none does, the other decides.
pub row_ends : (xs ys : List Condition) (r : Refusal) → first_of xs ≡ Err r → first_of (xs ++ ys) ≡ Err r
unfolding first_of if◌then◌otherwise◌
row_ends [] ys r e = absurd (barred r (sym e))
row_ends (x ∷ xs) ys r e = go x.holds e (row_ends xs ys r)
  where
    go : (t : Bool) → (if t then Err x.refusal otherwise first_of xs) ≡ Err r → (first_of xs ≡ Err r → first_of (xs ++ ys) ≡ Err r)
        → (if t then Err x.refusal otherwise first_of (xs ++ ys)) ≡ Err r
    go true e f = e
    go false e f = f e

pub row-goes-on : (xs ys : List Condition) → first_of xs ≡ Ok tt → first_of (xs ++ ys) ≡ first_of ys
row-goes-on [] ys e = refl
row-goes-on (x ∷ xs) ys e =
    let a = passed x xs e in
    first_on x.refusal x.holds (xs ++ ys) a.not-held ∙ row-goes-on xs ys a.rest

-- 0 is no refusal's number.
pub number-some : (r : Refusal) → number r ≡ 0 → ⊥
number-some BadPart e = omega arith
number-some CodeLength e = omega arith
number-some DataLength e = omega arith
number-some ShortRoom e = omega arith
number-some BadRange e = omega arith
number-some ImageLength e = omega arith
number-some ManyRetries e = omega arith
number-some OutOfTurn e = omega arith
number-some BadState e = omega arith

-- A part without its names: what it is, and that its numbers, its areas and the places of addresses are the part's.
pub bare-is : (p : Part)
    → bare p ≡ record { code_blocks = p.code_blocks; data_blocks = p.data_blocks; clock = p.clock; device = replicate 3 0; name = replicate 10 0; version = replicate 3 0 }
unfolding bare
bare-is p = refl

pub described-bare : (p : Part) → described (bare p) ≡ described p
unfolding described bare
described-bare p = refl

pub blocks-bare : (p : Part) (a : Area) → blocks (bare p) a ≡ blocks p a
unfolding bare
blocks-bare p CodeFlash = refl
blocks-bare p DataFlash = refl

pub block-size-bare : (p : Part) (a : Area) → block_size (bare p) a ≡ block_size p a
unfolding block_size
block-size-bare p a = refl

pub size-bare : (p : Part) (a : Area) → size (bare p) a ≡ size p a
size-bare p a = rw (blocks-bare p a, block-size-bare p a)

pub place-bare : (p : Part) (at : ℕ) → place_of (bare p) at ≡ place_of p at
unfolding place_of lies_in place_in block_of page_of block_size bare
place-bare p at = refl

-- An accepted rate and supply are bytes.
pub record RateIs (rate supply : ℕ) : Type 0 where
  pub rate-most : rate ≤ 0x03
  pub supply-most : supply ≤ 55

pub rate-is : (p : Part) (rate supply : ℕ) → accepts_rate p rate supply ≡ true → RateIs rate supply
unfolding accepts_rate ◌from◌to◌
rate-is p rate supply e = record { rate-most = leb-true _ _ (and_left _ _ e); supply-most = leb-true _ _ (and_right _ _ (and_right _ _ e)) }
