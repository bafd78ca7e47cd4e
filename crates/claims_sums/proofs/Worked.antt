-- The proofs of `WorkedOutRight`, `FitAccepted` and `RefusedLeaves`.
-- Assumes nothing.
use mathlib.Core.Bool.{not, true}
use mathlib.Core.List.{List}
use mathlib.Core.Logic.{◌≢◌}
use mathlib.Core.Path.{◌∙◌, ◌≡◌, ap, refl}
use Prim.Native.Nat.{◌<◌, suc, zero, ℕ}
use native.Mathlib.Decide.{ℕ_discrete}
use native.Mathlib.Omega.{arith}
use lib.ListN.{get_or, length, length-set}
use lib.Seq.{get_or-set_other, get_or-set_same}
use borrow.Author.Tests.{eq-eqb, eqb-true, not-false}
use Rattle.chip_core.specs.Effect.{Flash, bytes_in}
use Rattle.chip_sums.specs.Sums.{all_summed, block_sum, flash_verdict, kept, slot, slots, summed_by, summed_to, worked_out}
use Rattle.claims_sums.proofs.Slots.{slot_same, slots_apart, slots-enough}
use Rattle.claims_sums.specs.Worked.{AllRight, FitAccepted, Fits, NoBlocks, RefusedLeaves, WorkedOutRight}
use Rattle.part.proofs.Laws.{none-held, passed, passes}
use Rattle.part.specs.Part.{blocks, described, size}
use Rattle.part.specs.declared.Area.{Area}
use Rattle.part.specs.declared.Area.TheVariants.{CodeFlash, DataFlash}
use Rattle.part.specs.declared.Part.{Part}
use Rattle.part.specs.declared.refusal.Refusal.{Refusal}
use Rattle.std.specs.Prelude.{Err, Ok, Result}

module _ (p : Part) (a : Area) (m : Flash) (s : List ℕ) where
  pub summed-long : (n : ℕ) → length (summed_to n p a m s) ≡ length s
  unfolding summed_to
  summed-long zero = refl
  summed-long (suc n) = length-set (summed_to n p a m s) (slot a n) _ ∙ summed-long n

  -- The slots of other blocks stay.
  summed-others : (n i : ℕ) → ((b : ℕ) → b < n → i ≢ slot a b) → get_or (summed_to n p a m s) i 0 ≡ get_or s i 0
  unfolding summed_to
  summed-others zero i h = refl
  summed-others (suc n) i h =
      get_or-set_other (summed_to n p a m s) (slot a n) i _ 0 (h n (omega arith)) ∙ summed-others n i (λ b k. h b (omega arith))

  -- A block that the walk has passed has its own sum.
  summed-right : (n b : ℕ) → b < n → ((c : ℕ) → c < n → slot a c < length s) → kept (summed_to n p a m s) a b ≡ block_sum p a b m
  unfolding summed_to kept
  summed-right zero b h w = absurd (omega arith)
  summed-right (suc n) b h w = go (ℕ_discrete b n) (λ k. summed-right n b k (λ c i. w c (omega arith)))
    where
      go : Dec (b ≡ n) → (b < n → get_or (summed_to n p a m s) (slot a b) 0 ≡ block_sum p a b m) → get_or (summed_to (suc n) p a m s) (slot a b) 0 ≡ block_sum p a b m
      go (yes e) r =
          rw e
          (get_or-set_same (summed_to n p a m s) (slot a n) (block_sum p a n m) 0
          (let l : length (summed_to n p a m s) ≡ length s = summed-long n in omega (arith, w n (omega arith))))
      go (no e) r = get_or-set_other (summed_to n p a m s) (slot a n) (slot a b) _ 0 (λ q. e (slot_same a b n q)) ∙ r (omega arith)

module _ (p : Part) (m : Flash) (s : List ℕ) where
  all-long : length (all_summed p m s) ≡ length s
  unfolding all_summed
  all-long = summed-long p DataFlash m _ (blocks p DataFlash) ∙ summed-long p CodeFlash m s (blocks p CodeFlash)

  all_others : (i : ℕ) → NoBlocks p i → get_or (all_summed p m s) i 0 ≡ get_or s i 0
  unfolding all_summed
  all_others i h = summed-others p DataFlash m _ (blocks p DataFlash) i (h DataFlash) ∙ summed-others p CodeFlash m s (blocks p CodeFlash) i (h CodeFlash)

  module _ (part : described p ≡ true) (long : length s ≡ slots) where
    room : (t : List ℕ) (a : Area) → length t ≡ length s → (b : ℕ) → b < blocks p a → slot a b < length t
    room t a e b h = omega (arith, slots-enough p a b part h)

    all_right : (a : Area) (b : ℕ) → b < blocks p a → kept (all_summed p m s) a b ≡ block_sum p a b m
    unfolding all_summed kept
    all_right CodeFlash b h =
        summed-others p DataFlash m _ (blocks p DataFlash) (slot CodeFlash b) (λ c k e. apart (slots_apart p CodeFlash DataFlash b c part h k e).0)
        ∙ summed-right p CodeFlash m s (blocks p CodeFlash) b h (room s CodeFlash refl)
      where
        apart : CodeFlash ≡ DataFlash → ⊥
        apart e = let z : ◌≡◌ {A = ℕ} 0 1 = cc in omega arith
    all_right DataFlash b h =
        let t = summed_to (blocks p CodeFlash) p CodeFlash m s in
        summed-right p DataFlash m t (blocks p DataFlash) b h (room t DataFlash (summed-long p CodeFlash m s (blocks p CodeFlash)))

pub verdict-fits : (p : Part) (f : Flash) → flash_verdict p (length f.code_flash) (length f.data_flash) ≡ Ok tt → Fits p f
unfolding flash_verdict
verdict-fits p f e =
    let x = passed _ _ e in
    let y = passed _ _ x.rest in
    let z = passed _ _ y.rest in
    record { part = not-false _ x.not-held; long = lengths (eqb-true _ _ (not-false _ y.not-held)) (eqb-true _ _ (not-false _ z.not-held)) }
  where
    lengths : length f.code_flash ≡ size p CodeFlash → length f.data_flash ≡ size p DataFlash → (a : Area) → length (bytes_in a f) ≡ size p a
    lengths c d CodeFlash = c
    lengths c d DataFlash = d

pub fits-verdict : (p : Part) (f : Flash) → Fits p f → flash_verdict p (length f.code_flash) (length f.data_flash) ≡ Ok tt
unfolding flash_verdict
fits-verdict p f g =
    passes _ _ (ap not g.part)
    (passes _ _ (ap not (eq-eqb _ _ (g.long CodeFlash))) (passes _ _ (ap not (eq-eqb _ _ (g.long DataFlash))) none-held))

pub worked-out-right : WorkedOutRight
unfolding worked_out summed_by
worked-out-right p f s l e = go (flash_verdict p (length f.code_flash) (length f.data_flash)) refl e
  where
    go : (v : Result Unit Refusal) → flash_verdict p (length f.code_flash) (length f.data_flash) ≡ v → (summed_by v p f s).verdict ≡ Ok tt
        → AllRight p f s (summed_by v p f s).sums
    go (Err r) q e = absurd (let z : ◌≡◌ {A = ℕ} 0 1 = cc in omega arith)
    go (Ok _) q e =
        let g = verdict-fits p f q in
        record { fits = g; right = record { long = all-long p f s ∙ l; each = all_right p f s g.part l }; others = all_others p f s }

pub fit-accepted : FitAccepted
unfolding worked_out summed_by
fit-accepted p f s g = rw (fits-verdict p f g)

pub refused-leaves : RefusedLeaves
unfolding worked_out summed_by
refused-leaves p f s r e = go (flash_verdict p (length f.code_flash) (length f.data_flash)) e
  where
    go : (v : Result Unit Refusal) → (summed_by v p f s).verdict ≡ Err r → (summed_by v p f s).sums ≡ s
    go (Err q) e = refl
    go (Ok _) e = absurd (let z : ◌≡◌ {A = ℕ} 0 1 = cc in omega arith)
