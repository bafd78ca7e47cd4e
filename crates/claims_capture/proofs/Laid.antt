-- The good records are those that are laid so, over the form: specs/Records.
-- Assumes nothing.
use mathlib.Core.Bool.{Bool, false, false≢true, not, true}
use mathlib.Core.List.{List, [], ◌++◌, ◌∷◌, append_assoc}
use mathlib.Core.Path.{◌∙◌, ◌≡◌, ap, refl, sym}
use Prim.Native.Nat.{◌+◌, ◌-◌, ◌<◌, ◌≤◌, suc, zero, ℕ}
use native.Mathlib.Omega.{arith}
use lib.Dec.{eqb, leb}
use lib.ListN.{drop, get_or, length, length-append, length-drop, length-replicate, replicate, take, take-append-drop}
use lib.Seq.{drop-append_seam, drop-cons, drop-drop, length-take-le, take-append_seam}
use borrow.Author.Tests.{eq-eqb, eqb-false, eqb-true, le-leb, leb-true, not-false, not-true}
use Rattle.claims_capture.specs.Records.{GoodIsLaid, KindAndCount, LaidIsGood, RecordIs, RecordOfIs, SeatAndTick, TickAndSeat, TickLowFirst, between, bytes, gap, is_bad}
use Rattle.claims_capture.specs.Records.{is_bytes, is_gap, is_other, laid}
use Rattle.conversion.proofs.Rewriting.{head-is}
use Rattle.lent.proofs.Laws.{all-is}
use Rattle.lent.specs.Lent.{all_are}
use Rattle.numbers.proofs.Laws.{low-number, number-below, number-low}
use Rattle.numbers.specs.Numbers.{low_first, number_at}
use Rattle.replay_capture.proofs.Laws.{count_most, good-is, sizes}
use Rattle.replay_capture.specs.Capture.{carried_bytes, count, data_in, data_size, good_count, head_size, good_record, kind, record_of, record_size, seat_of, spare_of, tick_of, unused}
use Rattle.replay_capture.specs.declared.Form.{Form}
use Rattle.replay_capture.specs.declared.Form.TheVariants.{New, Old}
use Rattle.words.proofs.Laws.{and_both, and_left, and_right, if-all}
use Rattle.words.specs.Words.{◌and◌, ◌from◌to◌, if◌then◌otherwise◌}

all-zeros : (n : ℕ) → all_are 0x00 (replicate n 0x00) ≡ true
unfolding all_are ◌and◌
all-zeros zero = refl
all-zeros (suc n) = all-zeros n

-- Kind and count; what is between them and the data; so many data bytes; the others.
parts : (form : Form) (m : ℕ) (r : List ℕ) → 2 ≤ length r
    → kind r ∷ count r ∷ [] ++ take (head_size form - head_size Old) (drop (head_size Old) r) ++ take m (data_in form r) ++ drop m (data_in form r) ≡ r
parts form m r h =
    let d = data_in form r in
    let a = take (head_size form - head_size Old) (drop (head_size Old) r) in
    let i : head_size Old + (head_size form - head_size Old) ≡ head_size form = omega (arith, sizes form) in
    let rest : d ≡ drop (head_size form - head_size Old) (drop (head_size Old) r) = ap (λ (n : ℕ). drop n r) (sym i) ∙ sym (drop-drop (head_size form - head_size Old) (head_size Old) r) in
    let body : a ++ take m d ++ drop m d ≡ drop (head_size Old) r =
    append_assoc a (take m d) (drop m d) ∙ ap (λ (z : List ℕ). a ++ z) (take-append-drop m d ∙ rest) ∙ take-append-drop (head_size form - head_size Old) (drop (head_size Old) r) in
    ap (λ (z : List ℕ). kind r ∷ count r ∷ z) body ∙ ap (λ (z : List ℕ). z ++ drop (head_size Old) r) (head-is r h) ∙ take-append-drop (head_size Old) r

count-good : {form : Form} {k n : ℕ} → KindAndCount form k n → good_count form k n ≡ true
unfolding good_count ◌and◌ ◌from◌to◌ if◌then◌otherwise◌
count-good gap = refl
count-good {form} (bytes n h k) = and_both (le-leb 1 n h) (le-leb n (data_size form) k)

count-few : {form : Form} {k n : ℕ} → KindAndCount form k n → n ≤ data_size form
count-few gap = omega arith
count-few (bytes n h k) = k

between-long : (form : Form) (seat tick : ℕ) → length (between form seat tick) ≡ head_size form - head_size Old
unfolding low_first
between-long Old seat tick = refl
between-long New seat tick = refl

pub laid-data : (form : Form) (k seat tick : ℕ) (bs : List ℕ) → data_in form (laid form k seat tick bs) ≡ bs ++ replicate (data_size form - length bs) 0x00
unfolding low_first
laid-data Old k seat tick bs = refl
laid-data New k seat tick bs = refl

laid-seat : (form : Form) (k seat tick : ℕ) (bs : List ℕ) → SeatAndTick form seat tick → seat_of form (laid form k seat tick bs) ≡ seat
unfolding seat_of
laid-seat Old k seat tick bs x = sym x.0
laid-seat New k seat tick bs x = refl

laid-spare : (form : Form) (k seat tick : ℕ) (bs : List ℕ) → spare_of form (laid form k seat tick bs) ≡ 0x00
unfolding spare_of
laid-spare Old k seat tick bs = refl
laid-spare New k seat tick bs = refl

laid-tick : (form : Form) (k seat tick : ℕ) (bs : List ℕ) → SeatAndTick form seat tick → tick_of form (laid form k seat tick bs) ≡ tick
unfolding tick_of low_first
laid-tick Old k seat tick bs x = sym x.1
laid-tick New k seat tick bs x = number-low 4 tick (k ∷ length bs ∷ seat ∷ 0x00 ∷ []) (bs ++ replicate (data_size New - length bs) 0x00) x.1

seat-most : (form : Form) (seat tick : ℕ) → SeatAndTick form seat tick → seat ≤ 1
seat-most Old seat tick x = omega (arith, x.0)
seat-most New seat tick x = x.0

laid-long : (form : Form) (k seat tick : ℕ) (bs : List ℕ) → length bs ≤ data_size form → length (laid form k seat tick bs) ≡ record_size form
laid-long form k seat tick bs h = rw (length-append, length-append, length-append, length-replicate, between-long) (omega (arith, sizes form))

laid-unused : (form : Form) (k seat tick : ℕ) (bs : List ℕ) → unused form (length bs) (laid form k seat tick bs) ≡ true
unfolding unused
laid-unused form k seat tick bs =
    ap (λ (l : List ℕ). all_are 0x00 (drop (length bs) l)) (laid-data form k seat tick bs)
    ∙ ap (all_are 0x00) (drop-append_seam bs (replicate (data_size form - length bs) 0x00)) ∙ all-zeros (data_size form - length bs)

pub laid-is-good : LaidIsGood
unfolding good_record
laid-is-good form k seat tick bs x y =
    let r = laid form k seat tick bs in
    record {
      good =
          and_both (eq-eqb (length r) (record_size form) (laid-long form k seat tick bs (count-few x)))
          (and_both (count-good x)
          (and_both (le-leb (seat_of form r) 1 (omega (arith, laid-seat form k seat tick bs y, seat-most form seat tick y)))
          (and_both (eq-eqb (spare_of form r) 0x00 (laid-spare form k seat tick bs)) (laid-unused form k seat tick bs))));
      kind_is = refl;
      count_is = refl;
      seat_is = laid-seat form k seat tick bs y;
      tick_is = laid-tick form k seat tick bs y;
      carries = ap (take (length bs)) (laid-data form k seat tick bs) ∙ take-append_seam bs (replicate (data_size form - length bs) 0x00);
    }

pub count-is : (form : Form) (k n : ℕ) → good_count form k n ≡ true → KindAndCount form k n
unfolding good_count ◌from◌to◌ if◌then◌otherwise◌
count-is form k n e = go (eqb k 0x00) refl e
  where
    go : (t : Bool) → eqb k 0x00 ≡ t → (if t then eqb n 0 otherwise eqb k 0x01 and leb 1 n and leb n (data_size form)) ≡ true → KindAndCount form k n
    go true h x = rw (eqb-true k 0x00 h, eqb-true n 0 x) gap
    go false h x =
        let y = and_right (eqb k 0x01) (leb 1 n and leb n (data_size form)) x in
        rw (eqb-true k 0x01 (and_left (eqb k 0x01) (leb 1 n and leb n (data_size form)) x))
        (bytes n (leb-true 1 n (and_left (leb 1 n) (leb n (data_size form)) y)) (leb-true n (data_size form) (and_right (leb 1 n) (leb n (data_size form)) y)))

pub carried-counted : (form : Form) (r : List ℕ) → good_record form r ≡ true → length (carried_bytes form (count r) r) ≡ count r
carried-counted form r g =
    let s = good-is form r g in
    length-take-le (count r) (data_in form r) (rw (length-drop, s.long) (omega (arith, count_most form (kind r) (count r) s.counted)))

fits : (form : Form) (r : List ℕ) → ((i : ℕ) → get_or r i 0 < 256) → leb (seat_of form r) 1 ≡ true → SeatAndTick form (seat_of form r) (tick_of form r)
unfolding seat_of tick_of
fits Old r b e = (refl, refl)
fits New r b e = (leb-true (get_or r 2 0) 1 e, number-below 4 4 r b)

-- The bytes between, where the tick's are known.
pub between-from : (r : List ℕ) (tick : ℕ) → length r ≡ record_size New → spare_of New r ≡ 0x00 → low_first 4 tick ≡ take 4 (drop 4 r) → between New (seat_of New r) tick ≡ take 6 (drop 2 r)
unfolding seat_of spare_of
between-from r tick l s e = rw (drop-cons r 2 0 (omega arith), drop-cons r 3 0 (omega arith), s) (ap (λ (z : List ℕ). get_or r 2 0 ∷ 0x00 ∷ z) e)

between_is : (form : Form) (r : List ℕ) → ((i : ℕ) → get_or r i 0 < 256) → length r ≡ record_size form → spare_of form r ≡ 0x00
    → between form (seat_of form r) (tick_of form r) ≡ take (head_size form - head_size Old) (drop (head_size Old) r)
unfolding tick_of
between_is Old r b l s = refl
between_is New r b l s = between-from r (tick_of New r) l s (low-number 4 4 r b (omega arith))

-- A good record is its kind, its count, what is between, what it carries, and 00h.
pub laid_from : (form : Form) (r : List ℕ) (seat tick : ℕ) → good_record form r ≡ true → between form seat tick ≡ take (head_size form - head_size Old) (drop (head_size Old) r)
    → laid form (kind r) seat tick (carried_bytes form (count r) r) ≡ r
unfolding unused
laid_from form r seat tick g e =
    let s = good-is form r g in
    let d = data_in form r in
    let n = count r in
    let l : length d ≡ data_size form = length-drop (head_size form) r ∙ ap (λ (i : ℕ). i - head_size form) s.long in
    let m : length (drop n d) ≡ data_size form - n = length-drop n d ∙ ap (λ (i : ℕ). i - n) l in
    let tail : replicate (data_size form - n) 0x00 ≡ drop n d = ap (λ (i : ℕ). replicate i 0x00) (sym m) ∙ sym (all-is 0x00 (drop n d) s.clear) in
    ap (λ (i : ℕ). kind r ∷ i ∷ [] ++ between form seat tick ++ take n d ++ replicate (data_size form - i) 0x00) (carried-counted form r g)
    ∙ ap (λ (z : List ℕ). kind r ∷ n ∷ [] ++ z ++ take n d ++ replicate (data_size form - n) 0x00) e
    ∙ ap (λ (z : List ℕ). kind r ∷ n ∷ [] ++ take (head_size form - head_size Old) (drop (head_size Old) r) ++ take n d ++ z) tail
    ∙ parts form n r (omega (arith, s.long, sizes form))

pub good-is-laid : GoodIsLaid
good-is-laid form r b g =
    let s = good-is form r g in
    record {
      kind_and_count = count-is form (kind r) (count r) s.counted;
      seat_and_tick = fits form r b s.seated;
      is = laid_from form r (seat_of form r) (tick_of form r) g (between_is form r b s.long (eqb-true (spare_of form r) 0x00 s.spared));
    }

pub tick-low-first : TickLowFirst
unfolding tick_of
tick-low-first tick head rest h e = ap (λ (i : ℕ). number_at 4 i (head ++ low_first 4 tick ++ rest)) (sym e) ∙ number-low 4 tick head rest h

pub tick-and-seat : TickAndSeat
unfolding tick_of seat_of number_at
tick-and-seat = (refl, refl, refl, refl)

kind_1 : {form : Form} {k n : ℕ} → KindAndCount form k n → eqb k 0x00 ≡ false → k ≡ 0x01
kind_1 gap e = absurd (false≢true (sym e))
kind_1 (bytes n h k) e = refl

seat-1 : (n : ℕ) → n ≤ 1 → (n ≡ 0 → ⊥) → n ≡ 1
seat-1 zero h z = absurd (z refl)
seat-1 (suc n) h z = omega arith

pub record-of-is : RecordOfIs
unfolding record_of
record-of-is form r =
    if-all (RecordIs form r) (not (good_record form r)) (λ b. is_bad (not-true (good_record form r) b))
    (λ b.
    let g = not-false (good_record form r) b in
    let s = good-is form r g in
    let m : seat_of form r ≤ 1 = leb-true (seat_of form r) 1 s.seated in
    if-all (RecordIs form r) (not (eqb (seat_of form r) 0))
    (λ o. let z = eqb-false (seat_of form r) 0 (not-true _ o) in is_other g (seat-1 (seat_of form r) m z))
    (λ o.
    let z = eqb-true (seat_of form r) 0 (not-false _ o) in
    if-all (RecordIs form r) (eqb (kind r) 0x00) (λ k. is_gap g z (eqb-true (kind r) 0x00 k)) (λ k. is_bytes g z (kind_1 (count-is form (kind r) (count r) s.counted) k))))
