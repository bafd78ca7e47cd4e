-- Laws about the judgement: what each test makes of it, and what a good frame is.
-- Assumes nothing.
use Rattle.std.proofs.Common.{◌≡◌, ℕ, ◌+◌, ◌-◌, ◌<◌, ◌≤◌, Bool, true, false, not, eqb, List, length, get_or, take, drop, sym, refl, ap, ◌∙◌, true≢false, arith, eq-eqb, ne_eqb, eqb-true}
use Rattle.frame.proofs.Laws.Frame.{counted-small, counted-some, frame-counted}
use Rattle.frame.specs.Frame.{counted, footer_byte, is_frame}
use Rattle.frame.specs.Judgement.{fitting, is_good, judge_of, summed}
use Rattle.frame.specs.Sum.{less_all, sum_of}
use Rattle.frame.specs.declared.Footer.{Footer}
use Rattle.frame.specs.declared.judgement.Judgement.{Judgement}
use Rattle.frame.specs.declared.judgement.Judgement.TheVariants.{Good, UnfitLength, WrongFirst, WrongFooter, WrongSum}
use Rattle.words.specs.Words.{◌and◌, if◌then◌otherwise◌}

pub frame-long : (bs : List ℕ) → is_frame bs ≡ true → 5 ≤ length bs
frame-long bs t = let e : length bs ≡ counted (get_or bs 1 0) + 4 = frame-counted bs t in omega (arith, counted-some (get_or bs 1 0))

-- The places of a frame's footer and SUM: at most 259 and 258.
pub frame-short : (bs : List ℕ) → is_frame bs ≡ true → ((i : ℕ) → get_or bs i 0 < 256) → length bs ≤ 260
frame-short bs t b = let e : length bs ≡ counted (get_or bs 1 0) + 4 = frame-counted bs t in omega (arith, counted-small (get_or bs 1 0) (b 1))

pub summed-part : (bs : List ℕ) → less_all 256 0 (take (length bs - 2 - 1) (drop 1 bs)) ≡ sum_of (summed bs)
unfolding sum_of summed
summed-part bs = let e : length bs - 2 - 1 ≡ length bs - 3 = omega arith in rw e

pub judged-unfit : (f : Footer) (bs : List ℕ) → is_frame bs ≡ false → judge_of f bs ≡ UnfitLength
unfolding judge_of if◌then◌otherwise◌
judged-unfit f bs t = simp t

pub judged-footer : (f : Footer) (bs : List ℕ) → is_frame bs ≡ true → (get_or bs (length bs - 1) 0 ≡ footer_byte f → ⊥) → judge_of f bs ≡ WrongFooter (length bs - 1)
unfolding judge_of if◌then◌otherwise◌
judged-footer f bs t n = simp (t, ne_eqb _ _ n)

pub judged-sum : (f : Footer) (bs : List ℕ) → is_frame bs ≡ true → get_or bs (length bs - 1) 0 ≡ footer_byte f
    → (get_or bs (length bs - 2) 0 ≡ sum_of (summed bs) → ⊥) → judge_of f bs ≡ WrongSum (length bs - 2)
unfolding judge_of if◌then◌otherwise◌
judged-sum f bs t e n = simp (t, eq-eqb _ _ e, ne_eqb _ _ n)

pub judged-good : (f : Footer) (bs : List ℕ) → is_frame bs ≡ true → get_or bs (length bs - 1) 0 ≡ footer_byte f
    → get_or bs (length bs - 2) 0 ≡ sum_of (summed bs) → judge_of f bs ≡ Good
unfolding judge_of if◌then◌otherwise◌
judged-good f bs t e s = simp (t, eq-eqb _ _ e, eq-eqb _ _ s)

-- What the judge's tests say.
pub ruleset judged = (frame-long, frame-short, summed-part, judged-unfit, judged-footer, judged-sum, judged-good)

pub is-good : (j : Judgement) → is_good j ≡ true → j ≡ Good
is-good Good e = refl
is-good (WrongFooter at) e = absurd (true≢false (sym e))
is-good (WrongSum at) e = absurd (true≢false (sym e))
is-good UnfitLength e = absurd (true≢false (sym e))
is-good WrongFirst e = absurd (true≢false (sym e))

-- A good frame is one complete frame with the right footer and the right SUM.
pub record GoodFrame (f : Footer) (bs : List ℕ) : Type 0 where
  pub frame : is_frame bs ≡ true
  pub footer : get_or bs (length bs - 1) 0 ≡ footer_byte f
  pub sum : get_or bs (length bs - 2) 0 ≡ sum_of (summed bs)

pub good-is : (f : Footer) (bs : List ℕ) → judge_of f bs ≡ Good → GoodFrame f bs
unfolding judge_of if◌then◌otherwise◌
good-is f bs g = go (is_frame bs) refl (eqb (get_or bs (length bs - 1) 0) (footer_byte f)) refl (eqb (get_or bs (length bs - 2) 0) (sum_of (summed bs))) refl g
  where
    no-good : (j : Judgement) → j ≡ Good → is_good j ≡ false → ⊥
    no-good j e n = true≢false (sym (ap is_good e) ∙ n)

    go : (t : Bool) → is_frame bs ≡ t → (u : Bool) → eqb (get_or bs (length bs - 1) 0) (footer_byte f) ≡ u
        → (v : Bool) → eqb (get_or bs (length bs - 2) 0) (sum_of (summed bs)) ≡ v
        → (if not t then UnfitLength otherwise if not u then WrongFooter (length bs - 1) otherwise if not v then WrongSum (length bs - 2) otherwise Good) ≡ Good → GoodFrame f bs
    go false p u q v r e = absurd (no-good UnfitLength e refl)
    go true p false q v r e = absurd (no-good (WrongFooter (length bs - 1)) e refl)
    go true p true q false r e = absurd (no-good (WrongSum (length bs - 2)) e refl)
    go true p true q true r e = record { frame = p; footer = eqb-true _ _ q; sum = eqb-true _ _ r }

pub good-long : (f : Footer) (bs : List ℕ) → is_good (judge_of f bs) ≡ true → 5 ≤ length bs
good-long f bs g = frame-long bs (good-is f bs (is-good _ g)).frame

-- A length that is expected is judged last.
pub fitting-bad : (n : ℕ) (bs : List ℕ) (j : Judgement) → is_good j ≡ false → fitting n bs j ≡ j
unfolding fitting ◌and◌ if◌then◌otherwise◌
fitting-bad n bs j t = simp t

pub fitting-kept : (n : ℕ) (bs : List ℕ) (j : Judgement) → 4 ≤ length bs → length bs - 4 ≡ n → fitting n bs j ≡ j
unfolding fitting ◌and◌ if◌then◌otherwise◌
fitting-kept n bs j h e = go (is_good j)
  where
    go : (t : Bool) → (if t and not (eqb (length bs) (n + 4)) then UnfitLength otherwise j) ≡ j
    go true = simp (eq-eqb (length bs) (n + 4) (omega arith))
    go false = refl

pub fitting-unfit : (n : ℕ) (bs : List ℕ) (j : Judgement) → is_good j ≡ true → (length bs - 4 ≡ n → ⊥) → fitting n bs j ≡ UnfitLength
unfolding fitting ◌and◌ if◌then◌otherwise◌
fitting-unfit n bs j t d = simp (t, ne_eqb (length bs) (n + 4) (λ e. d (omega arith)))

pub ruleset fitted = (good-long, fitting-bad, fitting-kept, fitting-unfit)
