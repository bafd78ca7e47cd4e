-- What a readable answer is, frame by frame: laws for the claims about answers.
-- Assumes nothing.
use mathlib.Core.Bool.{Bool, false, true, true≢false}
use mathlib.Core.List.{List, ◌∷◌}
use mathlib.Core.Path.{◌∙◌, ◌≡◌, ap, refl, sym}
use Prim.Native.Nat.{◌+◌, ◌-◌, ◌≤◌, ℕ}
use native.Mathlib.Decide.{ℕ_discrete}
use native.Mathlib.Omega.{arith}
use lib.Dec.{ltb}
use lib.ListN.{drop, get_or, length, take}
use borrow.Author.Tests.{ltb-false}
use Rattle.dock_answer.specs.Answer.{judge_frames, none_left}
use Rattle.frame.proofs.Laws.Wire.{fit-counted, fit-long, reply-first, reply-judged, reply-unfit, unfit-over}
use Rattle.frame.specs.Frame.{counted, header_byte}
use Rattle.frame.specs.Judgement.{is_good, judge_of}
use Rattle.frame.specs.Wire.{judge_reply, unfit_reply}
use Rattle.frame.specs.declared.Footer.TheVariants.{Last}
use Rattle.frame.specs.declared.Header.TheVariants.{Data}
use Rattle.frame.specs.declared.judgement.Judgement.{Judgement}
use Rattle.frame.specs.declared.judgement.Judgement.TheVariants.{Good, UnfitLength, WrongFirst, WrongFooter, WrongSum}
use Rattle.words.specs.Words.{◌and◌, if◌then◌otherwise◌}

-- A good reply frame: its first byte is 02h, its LEN fits, and footer and SUM are right.
pub record GoodReply (n : ℕ) (last : Bool) (bs : List ℕ) : Type 0 where
  pub header : get_or bs 0 0 ≡ header_byte Data
  pub fit : unfit_reply n last bs ≡ false
  pub judged : is_good (judge_of Last (take (n + 4) bs)) ≡ true

pub good-reply : (n : ℕ) (last : Bool) (bs : List ℕ) → GoodReply n last bs → is_good (judge_reply n last bs) ≡ true
good-reply n last bs g =
    let z : n + 4 - 0 ≡ n + 4 = omega arith in
    let c : counted (get_or bs 1 0) ≡ n = fit-counted n last bs g.fit in
    sym (ap is_good (reply-judged n last bs (n + 4) (judge_of Last (take (n + 4) bs)) g.header g.fit (omega arith) (rw z refl))) ∙ g.judged

pub reply-is : (n : ℕ) (last : Bool) (bs : List ℕ) → is_good (judge_reply n last bs) ≡ true → GoodReply n last bs
reply-is n last bs g = go (ℕ_discrete (get_or bs 0 0) (header_byte Data)) (unfit_reply n last bs) refl
  where
    go : Dec (get_or bs 0 0 ≡ header_byte Data) → (u : Bool) → unfit_reply n last bs ≡ u → GoodReply n last bs
    go (no e) u f = absurd (true≢false (sym g ∙ ap is_good (sym (reply-first n last bs e))))
    go (yes e) true f = absurd (true≢false (sym g ∙ ap is_good (sym (reply-unfit n last bs e f))))
    go (yes e) false f =
        let z : n + 4 - 0 ≡ n + 4 = omega arith in
        let c : counted (get_or bs 1 0) ≡ n = fit-counted n last bs f in
        record {
          header = e;
          fit = f;
          judged = ap is_good (reply-judged n last bs (n + 4) (judge_of Last (take (n + 4) bs)) e f (omega arith) (rw z refl)) ∙ g;
        }

-- Nothing follows the last.
pub fit-whole : (n : ℕ) (bs : List ℕ) → unfit_reply n true bs ≡ false → length bs ≤ n + 4
unfolding ◌and◌
fit-whole n bs u =
    let c : counted (get_or bs 1 0) ≡ n = fit-counted n true bs u in
    let l : n + 4 ≤ length bs = fit-long n true bs u in
    let t : ltb (n + 4) (length bs) ≡ unfit_reply n true bs = unfit-over n true bs (n + 4) true refl c (omega arith) l in
    ltb-false _ _ (t ∙ u)

-- The first frame is good, and so are those behind it.
pub frames-good : (n : ℕ) (ns bs : List ℕ)
    → is_good (judge_frames (n ∷ ns) bs) ≡ is_good (judge_reply n (none_left ns) bs) and is_good (judge_frames ns (drop (n + 4) bs))
unfolding judge_frames if◌then◌otherwise◌ ◌and◌
frames-good n ns bs = go (judge_reply n (none_left ns) bs)
  where
    go : (j : Judgement) → is_good (if is_good j then judge_frames ns (drop (n + 4) bs) otherwise j) ≡ is_good j and is_good (judge_frames ns (drop (n + 4) bs))
    go Good = refl
    go (WrongFooter at) = refl
    go (WrongSum at) = refl
    go UnfitLength = refl
    go WrongFirst = refl
