-- The proof of `OneByteSummed`: the SUM fact at 16 bits.
-- Assumes nothing.
use mathlib.Core.List.{List, [], ◌∷◌}
use mathlib.Core.Logic.{◌≢◌}
use mathlib.Core.Path.{◌∙◌, ◌≡◌, ap, refl, sym}
use Prim.Native.Nat.{◌%◌, ◌*◌, ◌+◌, ◌-◌, ◌/◌, ◌<◌, ◌≤◌, suc, zero, ℕ}
use native.Mathlib.Nat.{add-mul, mul-le-mul_right}
use native.Mathlib.Omega.{arith}
use lib.ListN.{drop, get_or, length, length-drop, set, take}
use borrow.Author.Tests.{eqb-true}
use lib.Seq.{drop-set-add, get_or-drop, get_or-take, length-take-le, take-set-lt}
use Rattle.chip_commands.specs.Commands.{work}
use Rattle.chip_core.specs.Effect.{Flash, Memory, bytes_in}
use Rattle.chip_core.specs.declared.Core.{Core}
use Rattle.chip_core.specs.declared.Done.{Done}
use Rattle.chip_flash.specs.Flash.{sum_of_bytes}
use Rattle.chip_reply.specs.Reply.{frames_of, payloads}
use Rattle.chip_sums.specs.Sums.{Right, block_sum, range_bytes}
use Rattle.chip_work.specs.Work.{checksum}
use Rattle.claims_runs.specs.Sum.{InRange, OneByteSummed, byte_changed, sum_said}
use Rattle.frame.proofs.Laws.Sum.{Below, below-drop, below-take, more, none, one_byte, sum_is}
use Rattle.frame.specs.Frame.{framed}
use Rattle.numbers.specs.Numbers.{low_first}
use Rattle.part.proofs.Laws.{Stretch, range-good}
use Rattle.part.specs.Part.{block_size, blocks, range_of, range_at}
use Rattle.part.specs.declared.Area.{Area}
use Rattle.part.specs.declared.Area.TheVariants.{CodeFlash, DataFlash}
use Rattle.part.specs.declared.Part.{Part}
use Rattle.part.specs.declared.Range.{Range}
use Rattle.std.specs.Prelude.{Option, Some}
use Rattle.words.proofs.Laws.{if-all}

-- What is said to B0h is the sum of the range's bytes, where the kept sums are right.
told-sum : (p : Part) (k : Core) (m : Memory) (start end : ℕ) (a : Area) (block count : ℕ) → range_of p start end ≡ Some (range_at a block count) → Right p m
    → sum_said p k start end m ≡ frames_of ((0x06 ∷ []) ∷ low_first 2 (sum_of_bytes (range_bytes p a block count m.flash)) ∷ [])
unfolding work checksum payloads block_sum
told-sum p k m start end a block count e r =
    let tells : ℕ → List ℕ = λ n. frames_of ((0x06 ∷ []) ∷ low_first 2 n ∷ []) in
    ap (λ (r : Option Range). frames_of (payloads p k.options (checksum p k r m).reply)) e
    ∙ if-all (λ (d : Done). frames_of (payloads p k.options d.reply) ≡ tells (sum_of_bytes (range_bytes p a block count m.flash))) _
    (λ t.
    let one : count ≡ 1 = eqb-true _ _ t in
    let l : block < blocks p a = omega (arith, (range-good p start end a block count e).inside) in
    ap tells (r.each a block l ∙ ap (λ (c : ℕ). sum_of_bytes (range_bytes p a block c m.flash)) (sym one)))
    (λ t. refl)

-- Two sums of 16 bits that are told alike are equal.
same_sum : (x y : ℕ) → x < 65536 → y < 65536 → frames_of ((0x06 ∷ []) ∷ low_first 2 x ∷ []) ≡ frames_of ((0x06 ∷ []) ∷ low_first 2 y ∷ []) → x ≡ y
unfolding frames_of framed low_first
same_sum x y h k e =
    let low : x % 256 ≡ y % 256 = ap (λ (l : List ℕ). get_or l 7 0) e in
    let high : x / 256 % 256 ≡ y / 256 % 256 = ap (λ (l : List ℕ). get_or l 8 0) e in
    omega arith

wider : {bs : List ℕ} → Below 256 bs → Below 65536 bs
wider none = none
wider (more {b} h r) = more {b = b} (omega arith) (wider r)

changed-bytes : (a : Area) (m : Flash) (i v : ℕ) → bytes_in a (byte_changed a m i v) ≡ set (bytes_in a m) i v
changed-bytes CodeFlash m i v = refl
changed-bytes DataFlash m i v = refl

-- One byte of some bytes, counted from where they begin.
part-changed : (l : List ℕ) (at n i v : ℕ) → at ≤ i → i < at + n → take n (drop at (set l i v)) ≡ set (take n (drop at l)) (i - at) v
part-changed l at n i v h k =
    let e : i ≡ at + (i - at) = omega arith in
    ap (λ (j : ℕ). take n (drop at (set l j v))) e ∙ ap (λ (x : List ℕ). take n x) (drop-set-add at l (i - at) v)
    ∙ take-set-lt n (drop at l) (i - at) v (omega arith)

module _ (p : Part) (m : Flash) (start end : ℕ) (a : Area) (i v : ℕ) (r : InRange p m start end a i v) where
  at : ℕ
  at = r.block * block_size p a

  n : ℕ
  n = r.count * block_size p a

  bs : List ℕ
  bs = range_bytes p a r.block r.count m

  stretch : Stretch p start end a r.block r.count
  stretch = range-good p start end a r.block r.count r.range

  sizes : (r.block + r.count) * block_size p a ≡ at + n
  unfolding at n
  sizes = add-mul r.block r.count (block_size p a)

  from_at : at ≤ i
  unfolding at
  from_at = omega (arith, stretch.begins, r.from_start)

  before-end : i < at + n
  before-end = omega (arith, sizes, stretch.ends, r.to_end)

  long-enough : at + n ≤ length (bytes_in a m)
  long-enough = let k : (r.block + r.count) * block_size p a ≤ blocks p a * block_size p a = mul-le-mul_right (block_size p a) stretch.inside in omega (arith, sizes, r.long)

  bytes-changed : range_bytes p a r.block r.count (byte_changed a m i v) ≡ set bs (i - at) v
  unfolding range_bytes bs at n
  bytes-changed = ap (λ (l : List ℕ). take n (drop at l)) (changed-bytes a m i v) ∙ part-changed (bytes_in a m) at n i v from_at before-end

  long-bytes : length bs ≡ n
  unfolding range_bytes bs at n
  long-bytes = length-take-le n (drop at (bytes_in a m)) (rw length-drop (omega (arith, long-enough)))

  below : Below 65536 bs
  unfolding range_bytes bs at n
  below = wider (below-take 256 n (below-drop 256 at r.bytes))

  byte-there : get_or bs (i - at) 0 ≡ get_or (bytes_in a m) i 0
  unfolding range_bytes bs at n
  byte-there =
      get_or-take n (drop at (bytes_in a m)) (i - at) 0 (omega (arith, from_at, before-end)) ∙ get_or-drop at (bytes_in a m) (i - at) 0
      ∙ ap (λ (j : ℕ). get_or (bytes_in a m) j 0) (let e : at + (i - at) ≡ i = omega (arith, from_at) in e)

  sums-differ : sum_of_bytes (set bs (i - at) v) ≢ sum_of_bytes bs
  unfolding sum_of_bytes
  sums-differ =
      one_byte 65536 0 bs (i - at) v (omega arith) (omega (arith, r.small)) below (omega (arith, long-bytes, from_at, before-end))
      (λ e. r.changed (sym byte-there ∙ e))

sum-small : (bs : List ℕ) → Below 65536 bs → sum_of_bytes bs < 65536
unfolding sum_of_bytes
sum-small bs b = (sum_is 65536 0 bs (omega arith) b).below

below_set : {m : ℕ} (i v : ℕ) {bs : List ℕ} → v < m → Below m bs → Below m (set bs i v)
below_set i v h none = none
below_set zero v h (more k r) = more h r
below_set (suc i) v h (more k r) = more k (below_set i v h r)

pub one-byte-summed : OneByteSummed
unfolding bs
one-byte-summed p k m n start end a i v r f g h e =
    let c = m.flash in
    let x = bs p c start end a i v r in
    let y : List ℕ = set x (i - at p c start end a i v r) v in
    let b = below p c start end a i v r in
    sums-differ p c start end a i v r
    (same_sum (sum_of_bytes y) (sum_of_bytes x) (sum-small y (below_set (i - at p c start end a i v r) v (omega (arith, r.small)) b)) (sum-small x b)
    (ap (λ (l : List ℕ). frames_of ((0x06 ∷ []) ∷ low_first 2 (sum_of_bytes l) ∷ []))
    (sym (ap (λ (d : Flash). range_bytes p a r.block r.count d) f ∙ bytes-changed p c start end a i v r))
    ∙ sym (told-sum p k n start end a r.block r.count r.range h) ∙ e
    ∙ told-sum p k m start end a r.block r.count r.range g))
