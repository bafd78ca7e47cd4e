-- Bytes put at a place of flash leave every other byte; and where the blocks of a job lie.
-- Assumes nothing.
use mathlib.Core.Bool.{false, false≢true}
use mathlib.Core.List.{List}
use mathlib.Core.Path.{◌∙◌, ◌≡◌, ap, refl, sym}
use Prim.Native.Nat.{◌*◌, ◌+◌, ◌-◌, ◌<◌, ◌≤◌, ℕ}
use native.Mathlib.Decide.{dec_le}
use native.Mathlib.Nat.{add-mul, mul-le-mul_right, suc-mul}
use native.Mathlib.Numerals.{add-one}
use native.Mathlib.Omega.{arith}
use lib.ListN.{get_or, length}
use borrow.Author.Tests.{le-leb}
use Rattle.chip_core.specs.Effect.{Flash, bytes_in, with_bytes}
use Rattle.claims_confined.specs.Confined.{OutsideSame, in_job}
use Rattle.claims_cut.proofs.Put.{put-becomes}
use Rattle.dock_flow.specs.Frames.{first_of_block, last_of_block}
use Rattle.dock_job.specs.Job.{area_in, area_of, blocks_in, blocks_of, job_range, size_of}
use Rattle.dock_job.specs.declared.Job.{Job}
use Rattle.lent.proofs.Laws.{put-short}
use Rattle.lent.specs.Lent.{Left, put_of}
use Rattle.part.proofs.Laws.{LiesIn, block_size-pos, range-good}
use Rattle.part.specs.Part.{block_size, blocks, first, size}
use Rattle.part.specs.declared.Area.{Area}
use Rattle.part.specs.declared.Area.TheVariants.{CodeFlash, DataFlash}
use Rattle.part.specs.declared.Part.{Part}
use Rattle.part.specs.declared.Range.{Range}
use Rattle.std.specs.Prelude.{None, Option, Some}
use Rattle.words.proofs.Laws.{and_both}

-- An address outside the range lies below it or past it.
data Apart (j : Job) (at : ℕ) : Type 0 where
  below : at < j.start → Apart j at
  past : j.end < at → Apart j at

apart : (j : Job) (at : ℕ) → in_job j at ≡ false → Apart j at
unfolding in_job
apart j at e = go (dec_le j.start at) (dec_le at j.end)
  where
    go : Dec (j.start ≤ at) → Dec (at ≤ j.end) → Apart j at
    go (yes h) (yes k) = absurd (false≢true (sym e ∙ and_both (le-leb _ _ h) (le-leb _ _ k)))
    go (yes h) (no k) = past (omega arith)
    go (no h) d = below (omega arith)

bytes-with : (a : Area) (m : Flash) (l : List ℕ) → bytes_in a (with_bytes a m l) ≡ l
bytes-with CodeFlash m l = refl
bytes-with DataFlash m l = refl

-- Bytes of the range that are put: nothing outside the range changes.
module _ (j : Job) (a : Area) (at offset : ℕ) (s : List ℕ) (m : Flash) (is : at ≡ first a + offset) (low : j.start ≤ at) (high : at + length s ≤ j.end + 1) where
  put : Flash
  put = with_bytes a m (put_of (bytes_in a m) offset s).bytes

  in_area : (i : ℕ) → Apart j (first a + i) → Dec (offset + length s ≤ length (bytes_in a m)) → get_or (bytes_in a put) i 0 ≡ get_or (bytes_in a m) i 0
  unfolding put
  in_area i (below h) (yes k) = (put-becomes a offset s m k).under i (omega arith)
  in_area i (past h) (yes k) = (put-becomes a offset s m k).past i (omega arith)
  in_area i d (no k) =
      ap (λ (l : List ℕ). get_or l i 0) (bytes-with a m (put_of (bytes_in a m) offset s).bytes ∙ sym (ap (λ (x : Left). x.bytes) (put-short (bytes_in a m) offset s (omega arith))))

pub put-outside : (j : Job) (a : Area) (at offset : ℕ) (s : List ℕ) (m : Flash) → at ≡ first a + offset → j.start ≤ at → at + length s ≤ j.end + 1
    → OutsideSame j m (with_bytes a m (put_of (bytes_in a m) offset s).bytes)
unfolding put
put-outside j CodeFlash at offset s m e h k CodeFlash i out = in_area j CodeFlash at offset s m e h k i (apart j _ out) (dec_le _ _)
put-outside j CodeFlash at offset s m e h k DataFlash i out = refl
put-outside j DataFlash at offset s m e h k CodeFlash i out = refl
put-outside j DataFlash at offset s m e h k DataFlash i out = in_area j DataFlash at offset s m e h k i (apart j _ out) (dec_le _ _)

-- A block of the job lies in its range.
pub record InJob (j : Job) (k : ℕ) : Type 0 where
  pub begins : j.start ≤ first_of_block j k
  pub ends : last_of_block j k ≤ j.end
  pub long : last_of_block j k + 1 ≡ first_of_block j k + size_of j
  pub lies : LiesIn j.part (area_of j) (first_of_block j k)

same_area : {p : Part} {a b : Area} {at : ℕ} → b ≡ a → LiesIn p a at → LiesIn p b at
same_area e l = rw e l

pub block_inside : (j : Job) (k : ℕ) → k < blocks_of j → InJob j k
unfolding first_of_block last_of_block blocks_in area_in
block_inside j k h = go (job_range j) refl h
  where
    go : (r : Option Range) → job_range j ≡ r → k < blocks_in r → InJob j k
    go None e h = absurd (omega arith)
    go (Some range) e h =
        let st = range-good j.part j.start j.end range.area range.block range.count e in
        let n = size_of j in
        let z : size_of j ≡ block_size j.part range.area = ap (λ (r : Option Range). block_size j.part (area_in r)) e in
        let pos : 0 < n = rw z (block_size-pos j.part range.area) in
        let l : (k + 1) * n ≤ range.count * n = mul-le-mul_right n (omega arith) in
        let q : (k + 1) * n ≡ k * n + n = rw add-one (suc-mul k n) in
        let x : (range.block + range.count) * n ≡ range.block * n + range.count * n = add-mul range.block range.count n in
        let y : j.end + 1 ≡ first range.area + (range.block + range.count) * n = rw z st.ends in
        let w : j.start ≡ first range.area + range.block * n = rw z st.begins in
        let v : (range.block + range.count) * n ≤ blocks j.part range.area * n = mul-le-mul_right n st.inside in
        let t : size j.part range.area ≡ blocks j.part range.area * n = rw z refl in
        let u : area_of j ≡ range.area = ap area_in e in
        record { begins = omega arith; ends = omega arith; long = omega arith; lies = same_area u (record { low = omega arith; high = omega arith }) }
