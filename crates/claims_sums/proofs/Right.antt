-- The proofs of `StaysRight`, `RunRight`, `TakenUpRight` and `OthersStay`.
-- Assumes nothing.
use mathlib.Core.Bool.{true}
use mathlib.Core.List.{List, [], ◌∷◌}
use mathlib.Core.Logic.{◌≢◌}
use mathlib.Core.Path.{◌∙◌, ◌≡◌, ap, refl, sym}
use Prim.Native.Nat.{◌*◌, ◌+◌, ◌<◌, ◌≤◌, min, ℕ}
use native.Mathlib.Decide.{dec_lt, ℕ_discrete}
use native.Mathlib.Nat.{min-le_left, mul-le-mul_right, suc-mul}
use native.Mathlib.Numerals.{add-one}
use native.Mathlib.Omega.{arith}
use lib.ListN.{drop, get_or, length, length-drop, length-replicate, length-take, replicate, take}
use lib.Seq.{ext_get_or, get_or-drop, get_or-take}
use Rattle.chip.specs.Run.{onward, run}
use Rattle.chip_core.specs.Effect.{Flash, Memory, bytes_in}
use Rattle.chip_flash.proofs.Laws.{programmed-long}
use Rattle.chip_flash.specs.Flash.{erased, programmed, sum_of_bytes}
use Rattle.chip_state.proofs.Laws.{accepts}
use Rattle.chip_sums.proofs.Laws.{block-bytes}
use Rattle.chip_sums.specs.Sums.{Right, block_sum, kept, slot, slots}
use Rattle.claims_cut.specs.Cut.{Becomes, Change, nothing, one_block, one_page}
use Rattle.claims_good.proofs.Stays.{stays}
use Rattle.claims_good.specs.Good.{Stands, and_event}
use Rattle.claims_sums.proofs.Slots.{slots_apart}
use Rattle.claims_sums.proofs.Touched.{only-touched, stands-long}
use Rattle.claims_sums.proofs.Worked.{fit-accepted, worked-out-right}
use Rattle.claims_sums.specs.Touched.{AtMostOne, HappenedIn, OthersStay, RunRight, StaysRight, TakenUpRight, Touched, InOneBlock, summed_afresh, touched, untouched}
use Rattle.claims_sums.specs.Worked.{Fits, NoBlocks}
use Rattle.part.specs.Part.{block_size, blocks, described, page_size}
use Rattle.part.specs.declared.Area.{Area}
use Rattle.part.specs.declared.Area.TheVariants.{CodeFlash, DataFlash}
use Rattle.part.specs.declared.Part.{Part}

-- A stretch whose bytes are as they were.
stretch-same : (l k : List ℕ) (x n : ℕ) → length l ≡ length k → ((i : ℕ) → x ≤ i → i < x + n → get_or l i 0 ≡ get_or k i 0) → take n (drop x l) ≡ take n (drop x k)
stretch-same l k x n e f =
    ext_get_or 0 (take n (drop x l)) (take n (drop x k)) (simp (length-take, length-drop, e)) (λ i h.
    let j : i < n = omega (arith, simp (length-take, length-drop) at h) in
    get_or-take n (drop x l) i 0 j ∙ get_or-drop x l i 0 ∙ f (x + i) (omega arith) (omega arith) ∙ sym (get_or-take n (drop x k) i 0 j ∙ get_or-drop x k i 0))

-- A block's sum, by its bytes.
sum_same : (p : Part) (a : Area) (d : ℕ) (m n : Flash)
    → take (block_size p a) (drop (d * block_size p a) (bytes_in a n)) ≡ take (block_size p a) (drop (d * block_size p a) (bytes_in a m)) → block_sum p a d n ≡ block_sum p a d m
unfolding block_sum
sum_same p a d m n e = ap sum_of_bytes (block-bytes p a d n ∙ e ∙ sym (block-bytes p a d m))

module _ (p : Part) (m n : Flash) (long : (a : Area) → length (bytes_in a n) ≡ length (bytes_in a m)) where
  -- Bytes put into one block leave the bytes of every other block of its area.
  bytes-elsewhere : (a : Area) (at : ℕ) (ds : List ℕ) (block d : ℕ) → Becomes a at ds m n → InOneBlock p a block at (length ds) → d ≢ block
      → take (block_size p a) (drop (d * block_size p a) (bytes_in a n)) ≡ take (block_size p a) (drop (d * block_size p a) (bytes_in a m))
  bytes-elsewhere a at ds block d b w h =
      stretch-same (bytes_in a n) (bytes_in a m) (d * block_size p a) (block_size p a) (long a) (λ i x y. go i x y (dec_lt d block))
    where
      go : (i : ℕ) → d * block_size p a ≤ i → i < d * block_size p a + block_size p a → Dec (d < block) → get_or (bytes_in a n) i 0 ≡ get_or (bytes_in a m) i 0
      go i x y (yes k) =
          let l : (d + 1) * block_size p a ≤ block * block_size p a = mul-le-mul_right (block_size p a) (omega arith) in
          let e : (d + 1) * block_size p a ≡ d * block_size p a + block_size p a = rw add-one (suc-mul d (block_size p a)) in
          b.under i (omega (arith, w.from_first))
      go i x y (no k) =
          let j : block + 1 ≤ d = let z : d ≡ block → ⊥ = h in omega arith in
          let l : (block + 1) * block_size p a ≤ d * block_size p a = mul-le-mul_right (block_size p a) j in
          b.past i (omega (arith, w.to_last))

  -- So its sum alone can change.
  sum-elsewhere : (a : Area) (at : ℕ) (ds : List ℕ) (block : ℕ) → Becomes a at ds m n → InOneBlock p a block at (length ds) → (c : Area) (d : ℕ) → (c ≡ a → d ≢ block)
      → block_sum p c d n ≡ block_sum p c d m
  sum-elsewhere CodeFlash at ds block b w CodeFlash d h = sum_same p CodeFlash d m n (bytes-elsewhere CodeFlash at ds block d b w (h refl))
  sum-elsewhere CodeFlash at ds block b w DataFlash d h = sum_same p DataFlash d m n (rw b.other)
  sum-elsewhere DataFlash at ds block b w CodeFlash d h = sum_same p CodeFlash d m n (rw b.other)
  sum-elsewhere DataFlash at ds block b w DataFlash d h = sum_same p DataFlash d m n (bytes-elsewhere DataFlash at ds block d b w (h refl))

-- A page is programmed within its block.
page-in-block : {p : Part} {a : Area} {block : ℕ} (bs : List ℕ) (at : ℕ) (ds : List ℕ) → length ds ≡ page_size → InOneBlock p a block at (length ds)
    → InOneBlock p a block at (length (programmed (take page_size (drop at bs)) ds))
page-in-block bs at ds l w =
    let n : length (programmed (take page_size (drop at bs)) ds) ≡ min page_size (length (drop at bs)) =
    programmed-long (take page_size (drop at bs)) ds ∙ length-take page_size (drop at bs) in
    record { from_first = w.from_first; to_last = omega (arith, l, n, min-le_left page_size (length (drop at bs)), w.to_last) }

change-elsewhere : {p : Part} {m n : Memory} (change : Change p m n) (a : Area) (block : ℕ) → HappenedIn a block change
    → ((b : Area) → length (bytes_in b n.flash) ≡ length (bytes_in b m.flash)) → (c : Area) (d : ℕ) → (c ≡ a → d ≢ block)
    → block_sum p c d n.flash ≡ block_sum p c d m.flash
unfolding HappenedIn
change-elsewhere (nothing e) a block t long c d h = absurd t
change-elsewhere {p} {m} {n} (one_block b at z becomes) a block t long c d h =
    let l : length (replicate (block_size p b) erased) ≡ block_size p b = length-replicate {A = ℕ} (block_size p b) erased in
    sum-elsewhere p m.flash n.flash long b at _ block becomes (rw l (rw t.0 t.1)) c d (λ e. h (e ∙ t.0))
change-elsewhere {p} {m} {n} (one_page b at ds z l becomes) a block t long c d h =
    sum-elsewhere p m.flash n.flash long b at _ block becomes (page-in-block (bytes_in b m.flash) at ds l (rw t.0 t.1)) c d (λ e. h (e ∙ t.0))

touched-right : {p : Part} {m n : Memory} → described p ≡ true → ((b : Area) → length (bytes_in b n.flash) ≡ length (bytes_in b m.flash))
    → Right p m → Touched p m n → Right p n
unfolding kept
touched-right {p} {m} {n} part long r t = record { long = t.long ∙ r.long; each = λ a b h. go a b h t.area refl (ℕ_discrete b t.block) }
  where
    other : (a : Area) (b : ℕ) → b < blocks p a → (a ≡ t.area → b ≢ t.block) → kept n.sums a b ≡ block_sum p a b n.flash
    other a b h k =
        t.others (slot a b) (λ e. let q = slots_apart p a t.area b t.block part h t.has e in k q.0 q.1)
        ∙ r.each a b h ∙ sym (change-elsewhere t.change t.area t.block t.there long a b k)

    go : (a : Area) (b : ℕ) → b < blocks p a → (c : Area) → t.area ≡ c → Dec (b ≡ t.block) → kept n.sums a b ≡ block_sum p a b n.flash
    go a b h c q (no e) = other a b h (λ x. e)
    go CodeFlash b h CodeFlash q (yes e) = rw (e, ← q) t.renewed
    go DataFlash b h DataFlash q (yes e) = rw (e, ← q) t.renewed
    go CodeFlash b h DataFlash q (yes e) = other CodeFlash b h (λ x. absurd (let z : ◌≡◌ {A = ℕ} 0 1 = cc in omega arith))
    go DataFlash b h CodeFlash q (yes e) = other DataFlash b h (λ x. absurd (let z : ◌≡◌ {A = ℕ} 0 1 = cc in omega arith))

pub stays-right : StaysRight
stays-right p o v s q r = go (only-touched p o v s q r.long)
  where
    long : (b : Area) → length (bytes_in b (onward p o v).memory.flash) ≡ length (bytes_in b o.memory.flash)
    long b = stands-long (onward p o v) (stays p o v s q) b ∙ sym (stands-long o s b)

    go : AtMostOne p o.memory (onward p o v).memory → Right p (onward p o v).memory
    go (untouched e) = rw e r
    go (touched t) = touched-right (accepts s.accepted).part long r t

pub run-right : RunRight
unfolding run
run-right p [] o s q r = r
run-right p (v ∷ vs) o s (and_event h q) r = run-right p vs (onward p o v) (stays p o v s h) q (stays-right p o v s h r)

pub taken-up-right : TakenUpRight
taken-up-right p vs o s q l =
    let f : Fits p o.memory.flash = record { part = (accepts s.accepted).part; long = stands-long o s } in
    let u : Stands p (summed_afresh p o) = record { accepted = s.accepted; places = s.places; bytes = s.bytes; arrays = s.arrays } in
    run-right p vs (summed_afresh p o) u q
    (worked-out-right p o.memory.flash o.memory.sums l (fit-accepted p o.memory.flash o.memory.sums f)).right

-- The slots of absent blocks, over one event.
record Left (p : Part) (m n : Memory) : Type 0 where
  long : length n.sums ≡ length m.sums
  slots : (i : ℕ) → NoBlocks p i → get_or n.sums i 0 ≡ get_or m.sums i 0

left_so : {p : Part} {m n : Memory} → AtMostOne p m n → Left p m n
left_so (untouched e) = record { long = ap (λ (x : Memory). length x.sums) e; slots = λ i h. ap (λ (x : Memory). get_or x.sums i 0) e }
left_so (touched t) = record { long = t.long; slots = λ i h. t.others i (h t.area t.block t.has) }

pub others-stay : OthersStay
unfolding run
others-stay p [] o s q l i h = refl
others-stay p (v ∷ vs) o s (and_event k q) l i h =
    let x = left_so (only-touched p o v s k l) in
    others-stay p vs (onward p o v) (stays p o v s k) q (x.long ∙ l) i h ∙ x.slots i h
