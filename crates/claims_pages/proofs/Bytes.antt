-- The proofs of `EachBit`, `AsMany`, `StatusIsTold`, `StatusByBits`, `OverBlank`, `Resent`, `MoreZeros`, `NothingCleared` and `AgainMixed`.
-- Assumes nothing.
use mathlib.Core.Bool.{Bool, false, false≢true, true}
use mathlib.Core.List.{List, [], ◌∷◌}
use mathlib.Core.Logic.{◌≢◌}
use mathlib.Core.Path.{◌∙◌, ◌≡◌, ap, ap₂, refl, sym}
use Prim.Native.Nat.{suc, zero, ℕ}
use native.Mathlib.Omega.{arith}
use lib.Bits.{and_self}
use lib.ListN.{get_or, length, replicate}
use Rattle.chip_flash.proofs.Laws.{blank-is, programmed-at, programmed-long}
use Rattle.chip_flash.specs.Flash.{blank, lands, programmed}
use Rattle.chip_pages.specs.Pages.{page_status}
use Rattle.claims_pages.proofs.Bits.{OverByte, and_again, and_ff, and-within, bit-after, ff-and, fits, lost, over-byte}
use Rattle.claims_pages.specs.Bytes.{AgainMixed, AsMany, WrittenAs, BitAfter, EachBit, Lost, MoreZeros, NothingCleared, OverBlank, Resent, StatusByBits, StatusIsTold, bit_of}
use Rattle.frame.proofs.Laws.Sum.{Below, more, none}
use Rattle.lent.proofs.Laws.{same-is, same_self}
use Rattle.lent.specs.Lent.{all_are, same}
use Rattle.words.specs.Words.{◌and◌, if◌then◌otherwise◌}

pub as_many : AsMany
as_many old new = programmed-long old new

pub each-bit : EachBit
each-bit old new i k h j = rw (programmed-at old new i h j) (bit-after k (get_or old i 0) (get_or new i 0))

-- The status, by whether the page then is what was sent.
landed : (old new : List ℕ) → programmed old new ≡ new → page_status old new ≡ 0x06
unfolding page_status lands if◌then◌otherwise◌
landed old new e = rw (e, same_self)

not_same : (bs cs : List ℕ) → bs ≢ cs → same bs cs ≡ false
not_same bs cs n = go (same bs cs) refl
  where
    go : (t : Bool) → same bs cs ≡ t → t ≡ false
    go true e = absurd (n (same-is bs cs e))
    go false e = refl

mixed : (old new : List ℕ) → programmed old new ≢ new → page_status old new ≡ 0x1C
unfolding page_status lands if◌then◌otherwise◌
mixed old new n = rw (not_same (programmed old new) new n)

told : (old new : List ℕ) → page_status old new ≡ 0x06 → programmed old new ≡ new
unfolding page_status lands if◌then◌otherwise◌
told old new e = go (same (programmed old new) new) refl e
  where
    go : (t : Bool) → same (programmed old new) new ≡ t → ◌≡◌ {A = ℕ} (if t then 0x06 otherwise 0x1C) 0x06 → programmed old new ≡ new
    go true q f = same-is (programmed old new) new q
    go false q f = absurd (let z : ◌≡◌ {A = ℕ} 0x1C 0x06 = f in omega arith)

pub status-is-told : StatusIsTold
status-is-told old new = record { landed = landed old new; lands = told old new; mixed = mixed old new }

becomes : (old new after : List ℕ) → programmed old new ≡ after → after ≡ new → WrittenAs old new after 0x06
becomes old new after e f = record { page = e; says = landed old new (e ∙ f) }

-- By bits.
lost-byte : (old new : List ℕ) (l : Lost old new) → length old ≡ length new → programmed old new ≢ new
lost-byte old new l n e =
    let a : BitAfter _ _ _ = each-bit old new l.place l.bit (omega (arith, l.inside)) l.inside in
    let s : bit_of l.bit (get_or (programmed old new) l.place 0) ≡ 1 = rw e l.sent in
    omega (arith, a.was s, l.was)

data OverPage (old new : List ℕ) : Type 0 where
  all_fit : programmed old new ≡ new → OverPage old new
  one-lost : Lost old new → OverPage old new

later : {b c : ℕ} {bs cs : List ℕ} → Lost bs cs → Lost (b ∷ bs) (c ∷ cs)
later l = record { place = suc l.place; bit = l.bit; inside = omega (arith, l.inside); sent = l.sent; was = l.was }

over-page : (old new : List ℕ) → length old ≡ length new → OverPage old new
unfolding programmed
over-page [] [] n = all_fit refl
over-page [] (c ∷ cs) n = absurd (omega arith)
over-page (b ∷ bs) [] n = absurd (omega arith)
over-page (b ∷ bs) (c ∷ cs) n = go (over-byte c b) (over-page bs cs (omega arith))
  where
    go : OverByte b c → OverPage bs cs → OverPage (b ∷ bs) (c ∷ cs)
    go (lost k s w) r = one-lost (record { place = zero; bit = k; inside = omega arith; sent = s; was = w })
    go (fits e) (all_fit f) = all_fit (ap₂ (λ (x : ℕ) (xs : List ℕ). x ∷ xs) e f)
    go (fits e) (one-lost l) = one-lost (later l)

pub status-by-bits : StatusByBits
status-by-bits old new n =
    record {
      lost = λ l. mixed old new (lost-byte old new l n);
      kept = λ q. go q (over-page old new n);
    }
  where
    go : (Lost old new → ⊥) → OverPage old new → page_status old new ≡ 0x06
    go q (all_fit e) = landed old new e
    go q (one-lost l) = absurd (q l)

-- Over FFh, and FFh over bytes.
over-ff : (bs : List ℕ) → Below 256 bs → programmed (replicate (length bs) 0xFF) bs ≡ bs
unfolding programmed
over-ff [] none = refl
over-ff (b ∷ bs) (more h r) = ap₂ (λ (x : ℕ) (xs : List ℕ). x ∷ xs) (ff-and b h) (over-ff bs r)

pub over-blank : OverBlank
over-blank old new n t b =
    let e : old ≡ replicate (length new) 0xFF = blank-is old t ∙ ap (λ (k : ℕ). replicate k 0xFF) n in
    becomes old new new (ap (λ (xs : List ℕ). programmed xs new) e ∙ over-ff new b) refl

ff-over : (bs : List ℕ) → Below 256 bs → programmed bs (replicate (length bs) 0xFF) ≡ bs
unfolding programmed
ff-over [] none = refl
ff-over (b ∷ bs) (more h r) = ap₂ (λ (x : ℕ) (xs : List ℕ). x ∷ xs) (and_ff b h) (ff-over bs r)

all_same : (n : ℕ) → all_are 0xFF (replicate n 0xFF) ≡ true
unfolding all_are ◌and◌
all_same zero = refl
all_same (suc n) = all_same n

pub nothing-cleared : NothingCleared
unfolding blank
nothing-cleared old b t =
    let p = ff-over old b in
    record {
      page = p;
      says = mixed old _ (λ e. false≢true (sym t ∙ ap (all_are 0xFF) (sym p ∙ e) ∙ all_same (length old)));
    }

-- Bytes once more, and fewer bits.
same-again : (bs : List ℕ) → programmed bs bs ≡ bs
unfolding programmed
same-again [] = refl
same-again (b ∷ bs) = ap₂ (λ (x : ℕ) (xs : List ℕ). x ∷ xs) (and_self b) (same-again bs)

pub resent : Resent
resent bs = becomes bs bs bs (same-again bs) refl

within : (bs cs : List ℕ) → length bs ≡ length cs → programmed bs (programmed bs cs) ≡ programmed bs cs
unfolding programmed
within [] [] n = refl
within [] (c ∷ cs) n = refl
within (b ∷ bs) [] n = absurd (omega arith)
within (b ∷ bs) (c ∷ cs) n = ap₂ (λ (x : ℕ) (xs : List ℕ). x ∷ xs) (and-within b c) (within bs cs (omega arith))

pub more-zeros : MoreZeros
more-zeros old other n = becomes old (programmed old other) (programmed old other) (within old other n) refl

again : (old new : List ℕ) → programmed (programmed old new) new ≡ programmed old new
unfolding programmed
again [] new = refl
again (b ∷ bs) [] = refl
again (b ∷ bs) (c ∷ cs) = ap₂ (λ (x : ℕ) (xs : List ℕ). x ∷ xs) (and_again b c) (again bs cs)

pub again-mixed : AgainMixed
again-mixed old new e =
    let p = again old new in
    record { page = p; says = mixed _ new (λ q. let z : ◌≡◌ {A = ℕ} 0x1C 0x06 = sym e ∙ landed old new (sym p ∙ q) in omega arith) }
