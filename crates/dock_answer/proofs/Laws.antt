-- Laws about answers: an answer of one frame or of two, and the status that decides of one, two or three.
-- Assumes nothing.
use mathlib.Core.Bool.{Bool, false, true}
use mathlib.Core.List.{List, [], ◌∷◌}
use mathlib.Core.Path.{◌≡◌, refl}
use Prim.Native.Nat.{◌+◌, ℕ}
use lib.Dec.{eqb}
use lib.ListN.{drop}
use borrow.Author.Tests.{eqb-true}
use Rattle.dock_answer.specs.Answer.{deciding, judge_frames}
use Rattle.frame.specs.Judgement.{is_good}
use Rattle.frame.specs.Wire.{judge_reply}
use Rattle.frame.specs.declared.judgement.Judgement.{Judgement}
use Rattle.frame.specs.declared.judgement.Judgement.TheVariants.{Good, UnfitLength, WrongFirst, WrongFooter, WrongSum}
use Rattle.words.specs.Words.{if◌then◌otherwise◌}

-- An answer of one frame is judged as that frame, the last.
pub frames-one : (n : ℕ) (bs : List ℕ) → judge_reply n true bs ≡ judge_frames (n ∷ []) bs
unfolding judge_frames if◌then◌otherwise◌
frames-one n bs = go (judge_reply n true bs)
  where
    go : (j : Judgement) → j ≡ (if is_good j then Good otherwise j)
    go Good = refl
    go (WrongFooter at) = refl
    go (WrongSum at) = refl
    go UnfitLength = refl
    go WrongFirst = refl

-- Of two frames the second is judged where the first is good.
pub frames-second : (n m : ℕ) (bs rest : List ℕ) (j : Judgement) → is_good (judge_reply n false bs) ≡ true → rest ≡ drop (n + 4) bs → j ≡ judge_frames (m ∷ []) rest
    → j ≡ judge_frames (n ∷ m ∷ []) bs
unfolding judge_frames if◌then◌otherwise◌
frames-second n m bs rest j g d e = rw (e, d) (simp g)

pub frames-first : (n m : ℕ) (bs : List ℕ) (j : Judgement) → j ≡ judge_reply n false bs → is_good j ≡ false → j ≡ judge_frames (n ∷ m ∷ []) bs
unfolding judge_frames if◌then◌otherwise◌
frames-first n m bs j e g = simp (← e, g)

-- A single status decides, whatever it is.
pub deciding-one : (s : ℕ) → s ≡ deciding (s ∷ [])
unfolding deciding if◌then◌otherwise◌
deciding-one s = go (eqb s 0x06) refl
  where
    go : (t : Bool) → eqb s 0x06 ≡ t → s ≡ (if t then 0x06 otherwise s)
    go true e = eqb-true s 0x06 e
    go false e = refl

-- A further 06h changes nothing.
pub deciding-two : (s t : ℕ) → deciding (s ∷ t ∷ 0x06 ∷ []) ≡ deciding (s ∷ t ∷ [])
unfolding deciding if◌then◌otherwise◌
deciding-two s t = refl
