-- Laws about the layouts: the literal that the code writes is the layout, bytes are compared one by one, and a job is read.
-- Assumes nothing.
use mathlib.Core.Bool.{◌&&◌, Bool}
use mathlib.Core.List.{List, [], ◌++◌, ◌∷◌, append_assoc}
use mathlib.Core.Path.{◌∙◌, ◌≡◌, ap, refl, sym}
use Prim.Native.Nat.{ℕ}
use lib.ListN.{get_or, length}
use Rattle.dock_layout.specs.Layout.{bytes_with, fault_at, flat, flat_in, is_named, named, named_in}
use Rattle.dock_layout.specs.Job.{job_in}
use Rattle.dock_layout.specs.declared.Flat.{Flat}
use Rattle.std.specs.Prelude.{Option}
use Rattle.frame.specs.declared.judgement.Fault.{Fault}
use Rattle.lent.proofs.Laws.{same_is_pointwise}
use Rattle.lent.specs.Lent.{same}
use Rattle.std.specs.Cmp.Lexicographic.{pointwise}
use Rattle.std.specs.List.{list_all, zip}
use lib.Dec.{eqb}
use native.Mathlib.Omega.{arith}
use Rattle.numbers.proofs.Laws.{low-2, low-4-each}
use Rattle.numbers.specs.Numbers.{low_first, number_at}
use Rattle.part.specs.declared.Part.{Part}
use Rattle.part_layout.specs.Layout.{part_in}

-- Four bytes taken one by one.
abbrev four : List ℕ → List ℕ → List ℕ
four l rest = get_or l 0 0 ∷ get_or l 1 0 ∷ get_or l 2 0 ∷ get_or l 3 0 ∷ rest

four_low : {a : List ℕ} (n : ℕ) (s t : List ℕ) → a ≡ low_first 4 n → s ≡ t → four a s ≡ low_first 4 n ++ t
four_low n s t e h = rw h (low-4-each n t e)

two-low : {a : List ℕ} (n : ℕ) → a ≡ low_first 2 n → get_or a 0 0 ∷ get_or a 1 0 ∷ [] ≡ low_first 2 n
two-low n e = rw (e, low-2 n)

named-low : {a : List ℕ} (x y n m : ℕ) (s t : List ℕ) → x ≡ y → n ≡ m → a ≡ low_first 4 n → s ≡ t → x ∷ four a s ≡ y ∷ low_first 4 m ++ t
named-low x y n m s t q i e h = rw (q, ← i) (ap (λ (l : List ℕ). y ∷ l) (four_low n s t e h))

pub bytes-are : (f : Flat) (awaited retries frames : ℕ) (r k b p at : List ℕ) (m n x y : ℕ) → r ≡ low_first 4 retries → k ≡ low_first 4 frames → m ≡ named f.block
    → b ≡ low_first 4 m → n ≡ named f.page → p ≡ low_first 4 n → at ≡ low_first 2 f.fault.place → x ≡ is_named f.block → y ≡ is_named f.page
    → f.stage ∷ awaited ∷ four r (four k (x ∷ four b (y ∷ four p (f.cause ∷ f.command ∷ f.status ∷ f.fault.number ∷ get_or at 0 0 ∷ get_or at 1 0 ∷ []))))
    ≡ bytes_with f awaited retries frames
unfolding bytes_with
bytes-are f awaited retries frames r k b p at m n x y g h i j l o z q s =
    simp append_assoc
    (ap (λ (u : List ℕ). f.stage ∷ awaited ∷ u)
    (four_low retries _ _ g (four_low frames _ _ h (named-low x _ m _ _ _ q i j (named-low y _ n _ _ _ s l o (ap (λ (u : List ℕ). f.cause ∷ f.command ∷ f.status ∷ f.fault.number ∷ u) (two-low f.fault.place z)))))))

-- Two lists of one length, compared pair by pair.
abbrev pub equal_pair : ℕ × ℕ → Bool
equal_pair p = eqb p.0 p.1

paired : (bs cs : List ℕ) → length bs ≡ length cs → list_all equal_pair (zip bs cs) ≡ pointwise eqb bs cs
paired [] [] e = refl
paired [] (c ∷ cs) e = absurd (omega arith)
paired (b ∷ bs) [] e = absurd (omega arith)
paired (b ∷ bs) (c ∷ cs) e = ap (λ (t : Bool). eqb b c && t) (paired bs cs (omega arith))

pub same-paired : (bs cs : List ℕ) → length bs ≡ length cs → list_all equal_pair (zip bs cs) ≡ same bs cs
same-paired bs cs e = paired bs cs e ∙ sym (same_is_pointwise bs cs)

-- The record that the code makes of a state's bytes is the stage in numbers.
pub flat-is : {n g k h l cause cmd status : ℕ} {b p : Option ℕ} {x : Fault} (bs : List ℕ) → n ≡ get_or bs 0 0
    → g ≡ get_or bs 10 0 → k ≡ number_at 4 11 bs → b ≡ named_in g k → h ≡ get_or bs 15 0 → l ≡ number_at 4 16 bs → p ≡ named_in h l
    → cause ≡ get_or bs 20 0 → cmd ≡ get_or bs 21 0 → status ≡ get_or bs 22 0 → x ≡ fault_at bs → flat n b p cause cmd status x ≡ flat_in bs
unfolding flat_in
flat-is bs a c d e f i j m o q r = rw (a, e, c, d, j, f, i, m, o, q, r)

-- The record that the code makes of a job's bytes is the job.
pub job_is : {p : Part} {start end rate supply retries : ℕ} (part bs : List ℕ) → p ≡ part_in part → start ≡ number_at 4 0 bs → end ≡ number_at 4 4 bs
    → rate ≡ get_or bs 8 0 → supply ≡ get_or bs 9 0 → retries ≡ get_or bs 10 0
    → record { part = p; start = start; end = end; rate = rate; supply = supply; retries = retries } ≡ job_in part bs
unfolding job_in
job_is part bs e f g h i k = rw (e, f, g, h, i, k)
