-- The place told is the place of the byte that is wrong, and the wire says what it said before: specs/Faults.
-- Assumes nothing.
use mathlib.Core.Bool.{Bool, false, not, true, true≢false}
use mathlib.Core.List.{List}
use mathlib.Core.Path.{◌∙◌, ◌≡◌, ap, refl, sym}
use Prim.Native.Nat.{◌+◌, ◌-◌, ◌<◌, ◌≤◌, ℕ}
use native.Mathlib.Decide.{dec_lt, ℕ_discrete}
use native.Mathlib.Omega.{arith}
use lib.Dec.{eqb, ltb}
use lib.ListN.{get_or, length, take}
use lib.Seq.{get_or-take, length-take-le}
use borrow.Author.Tests.{eqb-false, eqb-true, lt-ltb, ltb-true, not-false, not-true}
use Rattle.claims_frame.specs.Faults.{AsJudgedBefore, Blamed, BlamedOf, BlamedReply, DataPlaceIs, DataJudgedAsBefore, PlaceIs, PlacesReach, ReplyPlaceIs}
use Rattle.claims_frame.specs.Faults.{Unfit, FrameJudgedAsBefore, absent, another, before, cut, first, fits, fitting_before, footer, footer_place, frame}
use Rattle.claims_frame.specs.Faults.{JudgedBefore, good_before, judge_before, len, nothing, other_len, overlong, status_before, sum, sum_place, unfit}
use Rattle.claims_frame.specs.Faults.{good, unfit_length, wrong_footer, wrong_sum}
use Rattle.frame.proofs.Laws.Frame.{counted-frame, counted-small, frame-counted}
use Rattle.frame.proofs.Laws.Wire.{fit-counted, fit-long, unfit-over}
use Rattle.frame.specs.Frame.{counted, footer_byte, header_byte, is_frame}
use Rattle.frame.specs.Judgement.{fault_of, fitting, is_good, judge_of, summed}
use Rattle.frame.specs.Sum.{sum_of}
use Rattle.frame.specs.Wire.{judge_reply, unfit_reply}
use Rattle.frame.specs.declared.Footer.TheVariants.{Last}
use Rattle.frame.specs.declared.Header.TheVariants.{Data}
use Rattle.frame.specs.declared.judgement.Judgement.{Judgement}
use Rattle.frame.specs.declared.judgement.Judgement.TheVariants.{Good, UnfitLength, WrongFirst, WrongFooter, WrongSum}
use Rattle.words.proofs.Laws.{and_both, and_left, and_right, if-all}
use Rattle.words.specs.Words.{◌and◌, if◌then◌otherwise◌}

pub place_is : PlaceIs
unfolding judge_of
place_is f bs =
    if-all (Blamed f bs) (not (is_frame bs)) (λ u. len (not-true _ u))
    (λ u.
    let w : is_frame bs ≡ true = not-false _ u in
    let l : length bs ≡ counted (get_or bs 1 0) + 4 = frame-counted bs w in
    let a : length bs - 1 ≡ footer_place bs = omega arith in
    let b : length bs - 2 ≡ sum_place bs = omega arith in
    rw (a, b)
    (if-all (Blamed f bs) (not (eqb (get_or bs (footer_place bs) 0) (footer_byte f))) (λ v. footer w (eqb-false _ _ (not-true _ v)))
    (λ v.
    if-all (Blamed f bs) (not (eqb (get_or bs (sum_place bs) 0) (sum_of (summed bs))))
    (λ x. sum w (eqb-true _ _ (not-false _ v)) (eqb-false _ _ (not-true _ x)))
    (λ x. nothing w (eqb-true _ _ (not-false _ v)) (eqb-true _ _ (not-false _ x))))))

pub data-place-is : DataPlaceIs
unfolding fitting ◌and◌ if◌then◌otherwise◌
data-place-is n f bs = go (judge_of f bs) (place_is f bs)
  where
    good-frame : Blamed f bs Good → is_frame bs ≡ true
    good-frame (nothing w a b) = w

    fitted : (b : Blamed f bs Good) → BlamedOf n f bs (if not (eqb (length bs) (n + 4)) then UnfitLength otherwise Good)
    fitted b =
        let l : length bs ≡ counted (get_or bs 1 0) + 4 = frame-counted bs (good-frame b) in
        if-all (BlamedOf n f bs) (not (eqb (length bs) (n + 4)))
        (λ u. other_len b (λ e. eqb-false (length bs) (n + 4) (not-true _ u) (omega arith)))
        (λ u. let e : length bs ≡ n + 4 = eqb-true _ _ (not-false _ u) in fits b (omega arith))

    go : (j : Judgement) → Blamed f bs j → BlamedOf n f bs (if is_good j and not (eqb (length bs) (n + 4)) then UnfitLength otherwise j)
    go Good b = fitted b
    go (WrongFooter at) b = before refl b
    go (WrongSum at) b = before refl b
    go UnfitLength b = before refl b
    go WrongFirst b = before refl b

pub places-reach : PlacesReach
places-reach f bs h = go (judge_of f bs) (place_is f bs)
  where
    go : (j : Judgement) → Blamed f bs j → (fault_of j).place ≤ 259
    go Good b = omega arith
    go (WrongFooter at) (footer w n) = omega (arith, counted-small (get_or bs 1 0) h)
    go (WrongSum at) (sum w e n) = omega (arith, counted-small (get_or bs 1 0) h)
    go UnfitLength b = omega arith
    go WrongFirst b = omega arith

-- Whether LEN is unfit, as the definition tests it.
unfit-is : (n : ℕ) (last : Bool) (bs : List ℕ) → unfit_reply n last bs ≡ true → Unfit n last bs
unfit-is n last bs u = go (ℕ_discrete (counted (get_or bs 1 0)) n) (dec_lt (length bs) (n + 4))
  where
    go : Dec (counted (get_or bs 1 0) ≡ n) → Dec (length bs < n + 4) → Unfit n last bs
    go (no e) d = another e
    go (yes e) (yes h) = cut h
    go (yes e) (no h) =
        let t : last and ltb (n + 4) (length bs) ≡ true = unfit-over n last bs (n + 4) last refl e (omega arith) (omega arith) ∙ u in
        overlong (and_left _ _ t) (ltb-true _ _ (and_right _ _ t))

fit_is : (n : ℕ) (last : Bool) (bs : List ℕ) → unfit_reply n last bs ≡ false → Unfit n last bs → ⊥
fit_is n last bs u (absent h) = let l : n + 4 ≤ length bs = fit-long n last bs u in omega arith
fit_is n last bs u (another e) = e (fit-counted n last bs u)
fit_is n last bs u (cut h) = let l : n + 4 ≤ length bs = fit-long n last bs u in omega arith
fit_is n last bs u (overlong e h) =
    let c : counted (get_or bs 1 0) ≡ n = fit-counted n last bs u in
    let t : true and ltb (n + 4) (length bs) ≡ unfit_reply n last bs = unfit-over n last bs (n + 4) true e c (omega arith) (omega arith) in
    true≢false (sym (and_both refl (lt-ltb _ _ h)) ∙ t ∙ u)

-- The frame that LEN counts at the front of what came.
front-frame : (n : ℕ) (last : Bool) (bs : List ℕ) → unfit_reply n last bs ≡ false → is_frame (take (n + 4) bs) ≡ true
front-frame n last bs u =
    let long : n + 4 ≤ length bs = fit-long n last bs u in
    let l : length (take (n + 4) bs) ≡ n + 4 = length-take-le (n + 4) bs long in
    let g : get_or (take (n + 4) bs) 1 0 ≡ get_or bs 1 0 = get_or-take (n + 4) bs 1 0 (omega arith) in
    let c : counted (get_or (take (n + 4) bs) 1 0) ≡ n = ap counted g ∙ fit-counted n last bs u in
    counted-frame (take (n + 4) bs) (omega arith)

pub reply-place-is : ReplyPlaceIs
unfolding judge_reply
reply-place-is n last bs =
    if-all (BlamedReply n last bs) (not (eqb (get_or bs 0 0) (header_byte Data))) (λ u. first (eqb-false _ _ (not-true _ u)))
    (λ u.
    let e : get_or bs 0 0 ≡ header_byte Data = eqb-true _ _ (not-false _ u) in
    if-all (BlamedReply n last bs) (unfit_reply n last bs) (λ v. unfit e (unfit-is n last bs v))
    (λ v. frame e (fit_is n last bs v) (fit-counted n last bs v) (front-frame n last bs v) (place_is Last (take (n + 4) bs))))

pub judged-as-before : FrameJudgedAsBefore
unfolding judge_of judge_before if◌then◌otherwise◌ status_before good_before
judged-as-before f bs = go (is_frame bs) (eqb (get_or bs (length bs - 1) 0) (footer_byte f)) (eqb (get_or bs (length bs - 2) 0) (sum_of (summed bs)))
  where
    go : (t u v : Bool)
        → AsJudgedBefore (if not t then UnfitLength otherwise if not u then WrongFooter (length bs - 1) otherwise if not v then WrongSum (length bs - 2) otherwise Good)
        (if not t then unfit_length otherwise if not u then wrong_footer otherwise if not v then wrong_sum otherwise good)
    go false u v = record { status = refl; good = refl }
    go true false v = record { status = refl; good = refl }
    go true true false = record { status = refl; good = refl }
    go true true true = record { status = refl; good = refl }

pub data-judged-as-before : DataJudgedAsBefore
unfolding fitting fitting_before ◌and◌ if◌then◌otherwise◌ status_before good_before
data-judged-as-before n f bs = go (judge_of f bs) (judge_before f bs) (judged-as-before f bs)
  where
    fitted : (t : Bool) → AsJudgedBefore (if not t then UnfitLength otherwise Good) (if t then good otherwise unfit_length)
    fitted true = record { status = refl; good = refl }
    fitted false = record { status = refl; good = refl }

    kept : (b : JudgedBefore) (j : Judgement) → is_good j ≡ false → AsJudgedBefore j b → AsJudgedBefore j (fitting_before n bs b)
    kept good j f e = absurd (true≢false (sym e.good ∙ f))
    kept wrong_footer j f e = e
    kept wrong_sum j f e = e
    kept unfit_length j f e = e

    go : (j : Judgement) (b : JudgedBefore) → AsJudgedBefore j b
        → AsJudgedBefore (if is_good j and not (eqb (length bs) (n + 4)) then UnfitLength otherwise j) (fitting_before n bs b)
    go Good good e = fitted (eqb (length bs) (n + 4))
    go Good wrong_footer e = absurd (true≢false e.good)
    go Good wrong_sum e = absurd (true≢false e.good)
    go Good unfit_length e = absurd (true≢false e.good)
    go (WrongFooter at) b e = kept b (WrongFooter at) refl e
    go (WrongSum at) b e = kept b (WrongSum at) refl e
    go UnfitLength b e = kept b UnfitLength refl e
    go WrongFirst b e = kept b WrongFirst refl e
