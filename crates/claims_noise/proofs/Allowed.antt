-- The premise with one frame allowed: the proof of `AllowedOrNone`.
-- Assumes nothing.
use mathlib.Core.Bool.{Bool, false, false≢true, not, true}
use mathlib.Core.List.{List, [], ◌++◌, ◌∷◌}
use mathlib.Core.Path.{◌∙◌, ◌≡◌, ap, refl, sym}
use Prim.Native.Nat.{◌-◌, ℕ}
use native.Mathlib.Omega.{arith}
use lib.Dec.{eqb, leb}
use Rattle.claims_noise.specs.Claims.{AllowedOrNone, OnlyThis, last_good, line_after, none_good}
use Rattle.claims_noise.specs.Noise.{Allowed, allows, completes_only, empty, no_frame, only, permitted, then_awaits}
use Rattle.claims_fed.specs.Awaits.{Awaits, good_for, header_of}
use Rattle.lent.proofs.Laws.{same-is}
use Rattle.lent.specs.Lent.{same}
use Rattle.frame.specs.Frame.{header_byte}
use Rattle.frame.specs.Framing.{Framed, Framing, Sound, begun, byte, completes, framing, gap, idle, inside, quiet}
use Rattle.frame.specs.declared.Header.{Header}
use Rattle.words.proofs.Laws.{and_both, and_left, and_right}
use Rattle.words.specs.Words.{◌and◌, ◌or◌, if◌then◌otherwise◌}

empty-is : {A : Type 0} (xs : List A) → empty xs ≡ true → xs ≡ []
unfolding empty
empty-is [] e = refl
empty-is (x ∷ xs) e = absurd (false≢true e)

-- One completed frame: bad, or the allowed one.
data Judged (f g : List ℕ) (a : Awaits) (end : Bool) : Type 0 where
  is_bad : good_for a g ≡ false → Judged f g a end
  is_this : good_for a g ≡ true → f ≡ g → end ≡ true → Judged f g a end

judged : (f g : List ℕ) (gs : List (List ℕ)) (a : Awaits) (end : Bool) → permitted (only f) a (g ∷ gs) end ≡ true → Judged f g a end
unfolding permitted allows ◌or◌
judged f g gs a end e = go (good_for a g) refl e
  where
    go : (t : Bool) → good_for a g ≡ t → not t or same f g and end ≡ true → Judged f g a end
    go true q e = is_this q (same-is f g (and_left _ _ e)) (and_right (same f g) _ e)
    go false q e = is_bad q

bad-permitted : (g : List ℕ) (gs : List (List ℕ)) (a : Awaits) (end : Bool) → good_for a g ≡ false → permitted no_frame a (g ∷ gs) end ≡ true
unfolding permitted ◌or◌
bad-permitted g gs a end e = rw e

-- A sound completes one frame at most, and nothing is begun then.
pub done-completes : (h : Header) (w : Framing) (v : Sound) (g : List ℕ) (gs : List (List ℕ)) → (framing h w v).done ≡ g ∷ gs → framing h w v ≡ completes g
unfolding framing if◌then◌otherwise◌
done-completes h w gap g gs e = absurd (let z : ◌≡◌ {A = ℕ} 0 1 = cc in omega arith)
done-completes h idle (byte b) g gs e = go (eqb b (header_byte h)) e
  where
    go : (t : Bool) → (if t then quiet (begun b) otherwise quiet idle).done ≡ g ∷ gs → (if t then quiet (begun b) otherwise quiet idle) ≡ completes g
    go true e = absurd (let z : ◌≡◌ {A = ℕ} 0 1 = cc in omega arith)
    go false e = absurd (let z : ◌≡◌ {A = ℕ} 0 1 = cc in omega arith)
done-completes h (begun x) (byte b) g gs e = absurd (let z : ◌≡◌ {A = ℕ} 0 1 = cc in omega arith)
done-completes h (inside bs n) (byte b) g gs e = go (leb n 1) e
  where
    go : (t : Bool) → (if t then completes (bs ++ b ∷ []) otherwise quiet (inside (bs ++ b ∷ []) (n - 1))).done ≡ g ∷ gs
        → (if t then completes (bs ++ b ∷ []) otherwise quiet (inside (bs ++ b ∷ []) (n - 1))) ≡ completes g
    go true e = let q : bs ++ b ∷ [] ≡ g = cc in ap (λ (f : List ℕ). completes f) q
    go false e = absurd (let z : ◌≡◌ {A = ℕ} 0 1 = cc in omega arith)

one-frame : (h : Header) (w : Framing) (v : Sound) (g : List ℕ) (gs : List (List ℕ)) → (framing h w v).done ≡ g ∷ gs → gs ≡ []
one-frame h w v g gs e = let q : g ∷ gs ≡ g ∷ [] = sym e ∙ ap (λ (x : Framed). x.done) (done-completes h w v g gs e) in cc

-- A permitted sound before an OnlyThis.
then-only : (f : List ℕ) (a : Awaits) (w : Framing) (v : Sound) (vs : List Sound)
    → ((end : Bool) → permitted no_frame a (framing (header_of a) w v).done end ≡ true)
    → OnlyThis f (then_awaits a (framing (header_of a) w v).done) (framing (header_of a) w v).stands vs → OnlyThis f a w (v ∷ vs)
unfolding completes_only line_after
then-only f a w v vs p (none_good e) = none_good (and_both (p (empty vs)) e)
then-only f a w v vs p (last_good us x q e d g) = last_good (v ∷ us) x (ap (λ (l : List Sound). v ∷ l) q) (and_both (p (empty us)) e) d g

nothing-permitted : (g : Allowed) (a : Awaits) (end : Bool) → permitted g a [] end ≡ true
unfolding permitted
nothing-permitted g a end = refl

-- The first sound, by what it completed.
first-sound : (f : List ℕ) (a : Awaits) (w : Framing) (v : Sound) (vs : List Sound) (ds : List (List ℕ)) → (framing (header_of a) w v).done ≡ ds
    → permitted (only f) a ds (empty vs) ≡ true
    → OnlyThis f (then_awaits a (framing (header_of a) w v).done) (framing (header_of a) w v).stands vs → OnlyThis f a w (v ∷ vs)
unfolding completes_only line_after
first-sound f a w v vs [] q p r =
    then-only f a w v vs (λ end. ap (λ (ds : List (List ℕ)). permitted no_frame a ds end) q ∙ nothing-permitted no_frame a end) r
first-sound f a w v vs (g ∷ gs) q p r = go (judged f g gs a (empty vs) p)
  where
    go : Judged f g a (empty vs) → OnlyThis f a w (v ∷ vs)
    go (is_bad b) = then-only f a w v vs (λ end. ap (λ (ds : List (List ℕ)). permitted no_frame a ds end) q ∙ bad-permitted g gs a end b) r
    go (is_this b e n) =
        last_good [] v (ap (λ (l : List Sound). v ∷ l) (empty-is vs n)) refl
        (q ∙ rw (one-frame (header_of a) w v g gs q, e)) (rw e b)

pub allowed-or-none : AllowedOrNone
unfolding completes_only
allowed-or-none f a w [] e = none_good refl
allowed-or-none f a w (v ∷ vs) e =
    first-sound f a w v vs (framing (header_of a) w v).done refl (and_left _ _ e)
    (allowed-or-none f (then_awaits a (framing (header_of a) w v).done) (framing (header_of a) w v).stands vs
    (and_right (permitted (only f) a (framing (header_of a) w v).done (empty vs)) _ e))
