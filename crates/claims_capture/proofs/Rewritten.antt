-- A record in the other form is the same record: specs/Rewritten. A good record that the old form can hold is laid with seat 0 and tick 0, and both ways of rewriting keep
-- what it is laid with.
-- Assumes nothing.
use mathlib.Core.Bool.{true}
use mathlib.Core.List.{List, ◌++◌, ◌∷◌, append_assoc}
use mathlib.Core.Path.{◌∙◌, ◌≡◌, ap, refl, sym}
use Prim.Native.Nat.{◌+◌, ◌-◌, ◌≤◌, suc, zero, ℕ}
use native.Mathlib.Numerals.{add-one}
use native.Mathlib.Omega.{arith}
use lib.Dec.{eqb, leb}
use lib.ListN.{drop, get_or, length, replicate, replicate-append-replicate, take}
use lib.Seq.{drop-cons, take-append-add}
use borrow.Author.Tests.{eq-eqb, eqb-true, le-leb, leb-true}
use Rattle.claims_capture.proofs.Laid.{between-from, carried-counted, count-is, laid-data, laid_from, laid-is-good}
use Rattle.claims_capture.specs.Records.{KindAndCount, LaidAs, SeatAndTick, between, bytes, gap, laid}
use Rattle.claims_capture.specs.Rewritten.{OldIsHeld, RewrittenIsSame}
use Rattle.conversion.specs.Conversion.{held_by_old, other, rewritten}
use Rattle.numbers.specs.Numbers.{low_first, number_at}
use Rattle.replay_capture.proofs.Laws.{count_most, good-is, sizes}
use Rattle.replay_capture.specs.Capture.{carried_bytes, count, data_in, data_size, head_size, good_record, kind, record_of, record_size, seat_of, spare_of, tick_of}
use Rattle.replay_capture.specs.declared.Form.{Form}
use Rattle.replay_capture.specs.declared.Form.TheVariants.{New, Old}
use Rattle.replay_capture.specs.declared.Record.TheVariants.{BytesRecord, GapRecord}
use Rattle.std.specs.Prelude.{Ok}
use Rattle.words.proofs.Laws.{and_both, and_left, and_right}
use Rattle.words.specs.Words.{◌and◌, if◌then◌otherwise◌}

other-other : (form : Form) → other (other form) ≡ form
other-other Old = refl
other-other New = refl

-- Seat 0 and tick 0 are every form's, and so are up to six bytes.
nought : (form : Form) → SeatAndTick form 0 0
nought Old = (refl, refl)
nought New = (omega arith, omega arith)

six-most : {form : Form} (there : Form) {k n : ℕ} → n ≤ 6 → KindAndCount form k n → KindAndCount there k n
six-most there h gap = gap
six-most there h (bytes n l m) = bytes n l (omega (arith, sizes there))

between-zeros : (form : Form) → replicate (head_size form - head_size Old) 0x00 ≡ between form 0 0
unfolding low_first
between-zeros Old = refl
between-zeros New = refl

take-zeros : (m n : ℕ) → m ≤ n → take {A = ℕ} m (replicate n 0x00) ≡ replicate m 0x00
take-zeros zero n h = refl
take-zeros (suc m) zero h = absurd (omega arith)
take-zeros (suc m) (suc n) h = ap (λ (l : List ℕ). 0x00 ∷ l) (take-zeros m n (omega arith))

-- The six data bytes that both forms have.
six-is : (form : Form) (k seat tick : ℕ) (bs : List ℕ) → length bs ≤ 6 → take 6 (data_in form (laid form k seat tick bs)) ≡ bs ++ replicate (6 - length bs) 0x00
six-is form k seat tick bs h =
    let e : 6 ≡ length bs + (6 - length bs) = omega arith in
    ap (take 6) (laid-data form k seat tick bs)
    ∙ ap (λ (n : ℕ). take n (bs ++ replicate (data_size form - length bs) 0x00)) e
    ∙ take-append-add bs (replicate (data_size form - length bs) 0x00) (6 - length bs)
    ∙ ap (λ (l : List ℕ). bs ++ l) (take-zeros (6 - length bs) (data_size form - length bs) (omega (arith, sizes form)))

zeros-join : (there : Form) (n : ℕ) → n ≤ 6 → ◌≡◌ {A = List ℕ} (replicate (6 - n) 0x00 ++ replicate (data_size there - data_size Old) 0x00) (replicate (data_size there - n) 0x00)
zeros-join there n h =
    let e : 6 - n + (data_size there - data_size Old) ≡ data_size there - n = omega (arith, sizes there) in
    rw (replicate-append-replicate, e)

join : (b bs some more all : List ℕ) → some ++ more ≡ all → b ++ (bs ++ some) ++ more ≡ b ++ bs ++ all
join b bs some more all z =
    append_assoc b (bs ++ some) more ∙ ap (λ (l : List ℕ). b ++ l) (append_assoc bs some more ∙ ap (λ (l : List ℕ). bs ++ l) z) ∙ sym (append_assoc b bs all)

laid-rewritten : (form : Form) (k seat tick : ℕ) (bs : List ℕ) → length bs ≤ 6 → rewritten form (laid form k seat tick bs) ≡ laid (other form) k 0 0 bs
unfolding rewritten
laid-rewritten form k seat tick bs h =
    rw (between-zeros (other form), six-is form k seat tick bs h)
    (ap (λ (l : List ℕ). k ∷ length bs ∷ l) (join (between (other form) 0 0) bs _ _ _ (zeros-join (other form) (length bs) h)))

laid-played : {form : Form} {k tick : ℕ} {bs r : List ℕ} → LaidAs form k 0 tick bs r → record_of form r ≡ (if eqb k 0x00 then Ok GapRecord otherwise Ok (BytesRecord (length bs)))
unfolding record_of if◌then◌otherwise◌
laid-played x = simp (x.good, x.seat_is, x.kind_is, x.count_is)

laid-held : {form : Form} {k : ℕ} {bs r : List ℕ} → length bs ≤ 6 → LaidAs form k 0 0 bs r → held_by_old form r ≡ true
unfolding held_by_old
laid-held {form} {k} {bs} {r} h x = and_both (eq-eqb (seat_of form r) 0 x.seat_is) (and_both (eq-eqb (tick_of form r) 0 x.tick_is) (le-leb (count r) 6 (omega (arith, x.count_is))))

-- A number of 0 is bytes 00h.
number-zero : (k at : ℕ) (bs : List ℕ) → number_at k at bs ≡ 0 → at + k ≤ length bs → replicate k 0x00 ≡ take k (drop at bs)
unfolding number_at
number-zero zero at bs e h = refl
number-zero (suc k) at bs e h =
    let b : get_or bs at 0 ≡ 0 = omega arith in
    let n : number_at k (at + 1) bs ≡ 0 = omega arith in
    rw (drop-cons bs at 0 (omega arith), b) (ap (λ (l : List ℕ). 0x00 ∷ l) (number-zero k (at + 1) bs n (omega arith) ∙ ap (λ (i : ℕ). take k (drop i bs)) (add-one at)))

between_none : (form : Form) (r : List ℕ) → length r ≡ record_size form → seat_of form r ≡ 0 → spare_of form r ≡ 0x00 → tick_of form r ≡ 0
    → between form 0 0 ≡ take (head_size form - head_size Old) (drop (head_size Old) r)
unfolding tick_of low_first
between_none Old r l s p t = refl
between_none New r l s p t = ap (λ (seat : ℕ). between New seat 0) (sym s) ∙ between-from r 0 l p (number-zero 4 4 r t (omega arith))

record Held (form : Form) (r : List ℕ) : Type 0 where
  seat : seat_of form r ≡ 0
  tick : tick_of form r ≡ 0
  few : count r ≤ 6

held-is : (form : Form) (r : List ℕ) → held_by_old form r ≡ true → Held form r
unfolding held_by_old
held-is form r e =
    let a = eqb (seat_of form r) 0 in
    let b = eqb (tick_of form r) 0 in
    let x = and_right a (b and leb (count r) (data_size Old)) e in
    record {
      seat = eqb-true (seat_of form r) 0 (and_left a (b and leb (count r) (data_size Old)) e);
      tick = eqb-true (tick_of form r) 0 (and_left b (leb (count r) (data_size Old)) x);
      few = leb-true (count r) 6 (and_right b (leb (count r) (data_size Old)) x);
    }

pub rewritten-is-same : RewrittenIsSame
rewritten-is-same form r g h =
    let s = good-is form r g in
    let v = held-is form r h in
    let there = other form in
    let k = kind r in
    let bs = carried_bytes form (count r) r in
    let n : length bs ≡ count r = carried-counted form r g in
    let few : length bs ≤ 6 = omega (arith, v.few) in
    let kinds : KindAndCount form k (length bs) = rw n (count-is form k (count r) s.counted) in
    let here : laid form k 0 0 bs ≡ r = laid_from form r 0 0 g (between_none form r s.long v.seat (eqb-true (spare_of form r) 0x00 s.spared) v.tick) in
    let x = laid-is-good form k 0 0 bs kinds (nought form) in
    let y = laid-is-good there k 0 0 bs (six-most there few kinds) (nought there) in
    let e : rewritten form r ≡ laid there k 0 0 bs = ap (rewritten form) (sym here) ∙ laid-rewritten form k 0 0 bs few in
    record {
      long = ap length e ∙ (good-is there (laid there k 0 0 bs) y.good).long;
      good = ap (good_record there) e ∙ y.good;
      held = ap (held_by_old there) e ∙ laid-held few y;
      same_kind = ap kind e;
      same_count = ap count e ∙ n;
      seat = ap (seat_of there) e ∙ y.seat_is;
      tick = ap (tick_of there) e ∙ y.tick_is;
      carried = ap (λ (l : List ℕ). carried_bytes there (count l) l) e ∙ y.carries;
      played = ap (record_of there) e ∙ laid-played y ∙ sym (laid-played x) ∙ ap (record_of form) here;
      back = ap (rewritten there) e ∙ laid-rewritten there k 0 0 bs few ∙ ap (λ (f : Form). laid f k 0 0 bs) (other-other form) ∙ here;
    }

pub old-is-held : OldIsHeld
unfolding held_by_old seat_of tick_of
old-is-held r g = and_both (eq-eqb 0 0 refl) (and_both (eq-eqb 0 0 refl) (le-leb (count r) 6 (count_most Old (kind r) (count r) (good-is Old r g).counted)))
