-- A good frame with exactly one byte after LEN changed is still one complete frame of the same length, and is not good.
-- Any byte after LEN: COM, information, data, SUM or the footer, 03h against 17h included; any LEN, 00h included; any new value.
-- Assumes nothing.
use mathlib.Core.Bool.{true}
use mathlib.Core.List.{List}
use mathlib.Core.Logic.{◌≢◌}
use mathlib.Core.Path.{◌∙◌, ◌≡◌, ap, sym}
use Prim.Native.Nat.{◌+◌, ◌-◌, ◌<◌, ◌≤◌, ℕ}
use native.Mathlib.Decide.{dec_lt, ℕ_discrete}
use native.Mathlib.Omega.{arith}
use lib.Dec.{eqb}
use lib.ListN.{drop, get_or, length, length-drop, length-set, set, take}
use lib.Seq.{drop-set-add, get_or-drop, get_or-set_other, get_or-set_same, get_or-take, length-take-le, take-set-le, take-set-lt}
use borrow.Author.Tests.{eq-eqb, ne_eqb}
use Rattle.claims_frame.specs.OneByte.{AfterLen, OneChanged, fault_changed}
use Rattle.frame.proofs.Laws.Judgement.{GoodFrame, frame-long, good-is, judged-footer, judged-sum}
use Rattle.frame.proofs.Laws.Sum.{Below, below-drop, below-take, one_byte}
use Rattle.frame.specs.Frame.{footer_byte, is_frame}
use Rattle.frame.specs.Judgement.{judge_of, summed}
use Rattle.frame.specs.Sum.{less_all, sum_of}
use Rattle.frame.specs.declared.Footer.{Footer}
use Rattle.frame.specs.declared.judgement.Judgement.TheVariants.{Good, WrongFooter, WrongSum}
use Rattle.words.specs.Words.{if◌then◌otherwise◌}

module _ (f : Footer) (bs : List ℕ) (i v : ℕ) (good : judge_of f bs ≡ Good) (bytes : Below 256 bs) (after : 2 ≤ i) (inside : i < length bs) (small : v < 256)
    (changed : get_or bs i 0 ≢ v) where
  still-frame : is_frame (set bs i v) ≡ true
  unfolding is_frame
  still-frame = rw (length-set, get_or-set_other bs i 1 v 0 (λ e. omega arith)) (good-is f bs good).frame

  long-enough : 5 ≤ length bs
  long-enough = frame-long bs (good-is f bs good).frame

  footer-changed : i ≡ length bs - 1 → get_or (set bs i v) (length bs - 1) 0 ≡ footer_byte f → ⊥
  footer-changed h e =
      changed (rw (← h) at (good-is f bs good).footer ∙ sym (rw (← h) at e) ∙ get_or-set_same bs i v 0 inside)

  long-summed : length (summed bs) ≡ length bs - 3
  unfolding summed
  long-summed = length-take-le (length bs - 3) (drop 1 bs) (rw length-drop (omega (arith, long-enough)))

  -- The payload's bytes are changed with the frame's, those past it leave it as it was.
  summed-set : take (length bs - 3) (drop 1 (set bs i v)) ≡ take (length bs - 3) (set (drop 1 bs) (i - 1) v)
  summed-set =
      let e : i ≡ 1 + (i - 1) = omega arith in
      ap (λ (l : List ℕ). take (length bs - 3) l) (ap (λ (k : ℕ). drop 1 (set bs k v)) e ∙ drop-set-add 1 bs (i - 1) v)

  payload-changed : i < length bs - 2 → get_or (set bs i v) (length bs - 2) 0 ≡ sum_of (summed (set bs i v)) → ⊥
  unfolding summed sum_of
  payload-changed h e =
      let l = long-enough in
      let k : i - 1 < length (summed bs) = rw long-summed (omega arith) in
      let s : take (length bs - 3) (drop 1 (set bs i v)) ≡ set (summed bs) (i - 1) v = summed-set ∙ take-set-lt (length bs - 3) (drop 1 bs) (i - 1) v (omega arith) in
      let o : get_or (set bs i v) (length bs - 2) 0 ≡ get_or bs (length bs - 2) 0 = get_or-set_other bs i (length bs - 2) v 0 (λ z. omega arith) in
      let g : get_or (summed bs) (i - 1) 0 ≡ get_or bs i 0 =
      get_or-take (length bs - 3) (drop 1 bs) (i - 1) 0 (omega arith) ∙ get_or-drop 1 bs (i - 1) 0 ∙ ap (λ (m : ℕ). get_or bs m 0) (let z : 1 + (i - 1) ≡ i = omega arith in z) in
      one_byte 256 0 (summed bs) (i - 1) v (omega arith) small (below-take 256 (length bs - 3) (below-drop 256 1 bytes)) k
      (λ z. changed (sym g ∙ z))
      (sym (ap (λ (x : List ℕ). less_all 256 0 x) s) ∙ sym (rw length-set at e) ∙ o ∙ (good-is f bs good).sum)

  sum-changed : i ≡ length bs - 2 → get_or (set bs i v) (length bs - 2) 0 ≡ sum_of (summed (set bs i v)) → ⊥
  unfolding summed
  sum-changed h e =
      let l = long-enough in
      let s : take (length bs - 3) (drop 1 (set bs i v)) ≡ summed bs = summed-set ∙ take-set-le (length bs - 3) (drop 1 bs) (i - 1) v (omega arith) in
      let a : v ≡ sum_of (summed bs) = sym (get_or-set_same bs i v 0 inside) ∙ rw (← h) at (rw length-set at e) ∙ ap sum_of s in
      changed (rw (← h) at (good-is f bs good).sum ∙ sym a)

  not_good : judge_of f (set bs i v) ≢ Good
  not_good g =
      let j = good-is f (set bs i v) g in
      let l = long-enough in
      go j (dec_lt i (length bs - 2)) (dec_lt i (length bs - 1))
    where
      go : GoodFrame f (set bs i v) → Dec (i < length bs - 2) → Dec (i < length bs - 1) → ⊥
      go j (yes h) d = payload-changed h (ap (λ (k : ℕ). get_or (set bs i v) (k - 2) 0) (sym (length-set bs i v)) ∙ j.sum)
      go j (no h) (yes k) = let l = long-enough in sum-changed (omega arith) (ap (λ (k : ℕ). get_or (set bs i v) (k - 2) 0) (sym (length-set bs i v)) ∙ j.sum)
      go j (no h) (no k) = let l = long-enough in footer-changed (omega arith) (ap (λ (k : ℕ). get_or (set bs i v) (k - 1) 0) (sym (length-set bs i v)) ∙ j.footer)

  not_last : (i ≡ length bs - 1 → ⊥) → (i < length bs - 2 → ⊥) → i ≡ length bs - 2
  not_last h k = go (ℕ_discrete i (length bs - 1))
    where
      go : Dec (i ≡ length bs - 1) → i ≡ length bs - 2
      go (yes e) = absurd (h e)
      go (no e) = omega (arith, long-enough)

  -- Which fault: of the footer, or else of the SUM, with the footer as it was.
  fault-is : judge_of f (set bs i v) ≡ fault_changed bs i
  unfolding fault_changed if◌then◌otherwise◌
  fault-is = go (ℕ_discrete i (length bs - 1)) (dec_lt i (length bs - 2))
    where
      long : length (set bs i v) ≡ length bs
      long = length-set bs i v

      at_length : (k : ℕ) → get_or (set bs i v) (length bs - k) 0 ≡ get_or (set bs i v) (length (set bs i v) - k) 0
      at_length k = ap (λ (n : ℕ). get_or (set bs i v) (n - k) 0) (sym long)

      sum-is-wrong : (i ≡ length bs - 1 → ⊥) → Dec (i < length bs - 2) → get_or (set bs i v) (length (set bs i v) - 2) 0 ≡ sum_of (summed (set bs i v)) → ⊥
      sum-is-wrong h (yes k) e = payload-changed k (at_length 2 ∙ e)
      sum-is-wrong h (no k) e = let l = long-enough in sum-changed (not_last h k) (at_length 2 ∙ e)

      go : Dec (i ≡ length bs - 1) → Dec (i < length bs - 2)
          → judge_of f (set bs i v) ≡ (if eqb i (length bs - 1) then WrongFooter (length bs - 1) otherwise WrongSum (length bs - 2))
      go (yes h) d =
          rw (eq-eqb i (length bs - 1) h)
          (judged-footer f (set bs i v) still-frame (λ e. footer-changed h (at_length 1 ∙ e)) ∙ ap (λ (n : ℕ). WrongFooter (n - 1)) long)
      go (no h) d =
          rw (ne_eqb i (length bs - 1) h)
          (judged-sum f (set bs i v) still-frame (sym (at_length 1) ∙ get_or-set_other bs i (length bs - 1) v 0 (λ z. h (omega arith)) ∙ (good-is f bs good).footer) (sum-is-wrong h d)
          ∙ ap (λ (n : ℕ). WrongSum (n - 2)) long)

  is-changed : OneChanged f bs i v
  is-changed =
      record {
        long = length-set bs i v;
        header = get_or-set_other bs i 0 v 0 (λ e. omega arith);
        frame = still-frame;
        bad = not_good;
        fault = fault-is;
      }

pub one-changed : (f : Footer) (bs : List ℕ) (i v : ℕ) → AfterLen f bs i v → OneChanged f bs i v
one-changed f bs i v c = is-changed f bs i v c.good c.bytes c.after c.inside c.small c.changed
