-- Laws about capture records, over their form.
-- Assumes nothing.
use mathlib.Core.Bool.{Bool, false, false≢true, not, true}
use mathlib.Core.List.{List, [], ◌∷◌}
use mathlib.Core.Path.{◌∙◌, ◌≡◌, ap, refl, sym}
use Prim.Native.Nat.{◌+◌, ◌-◌, ◌≤◌, suc, zero, ℕ}
use native.Mathlib.Omega.{arith}
use lib.Dec.{eqb, leb}
use lib.ListN.{drop, length, length-drop, take}
use lib.Seq.{drop-drop, length-take-le, take_all}
use borrow.Author.Tests.{eqb-true, leb-true}
use Rattle.replay_capture.specs.Capture.{carried_bytes, count, data_size, good_count, head_size, good_record, kind, record_of, record_size, records_in, records_of, seat_of, spare_of, unused}
use Rattle.replay_capture.specs.declared.Form.{Form}
use Rattle.replay_capture.specs.declared.Form.TheVariants.{New, Old}
use Rattle.replay_capture.specs.declared.Record.TheVariants.{BytesRecord, GapRecord, OtherSeat}
use Rattle.replay_capture.specs.declared.BadRecord.{BadRecord}
use Rattle.replay_capture.specs.declared.Record.{Record}
use Rattle.std.specs.Prelude.{Err, Ok, Result}
use Rattle.lent.specs.Lent.{all_are}
use Rattle.words.proofs.Laws.{and_left, and_right}
use Rattle.words.specs.Words.{◌and◌, ◌from◌to◌, if◌then◌otherwise◌}

-- The two forms' numbers: whatever is said of sizes below is said by these, over the form.
pub record Sizes (form : Form) : Type 0 where
  pub parts : head_size form + data_size form ≡ record_size form
  pub head_least : 2 ≤ head_size form
  pub head_most : head_size form ≤ 8
  pub data_least : 6 ≤ data_size form
  pub data_most : data_size form ≤ 8

pub sizes : (form : Form) → Sizes form
sizes Old = record { parts = refl; head_least = omega arith; head_most = omega arith; data_least = omega arith; data_most = omega arith }
sizes New = record { parts = refl; head_least = omega arith; head_most = omega arith; data_least = omega arith; data_most = omega arith }

-- The records of a capture: as many as it has bytes at most; none of none; and of more, the first, and those of what is behind it.
pub records_is : (size : ℕ) (bs : List ℕ) → records_of size bs ≡ records_in size (length bs) bs
unfolding records_of
records_is size bs = refl

pub records-none : (size most : ℕ) → records_in size most [] ≡ []
unfolding records_in
records-none size zero = refl
records-none size (suc most) = refl

pub records-next : (size most : ℕ) (bs : List ℕ) → 1 ≤ length bs → 1 ≤ most → records_in size most bs ≡ take size bs ∷ records_in size (most - 1) (drop size bs)
unfolding records_in
records-next size most [] h k = absurd (omega arith)
records-next size zero (b ∷ bs) h k = absurd (omega arith)
records-next size (suc most) (b ∷ bs) h k =
    let one : suc most - 1 ≡ most = omega arith in
    ap (λ (n : ℕ). take size (b ∷ bs) ∷ records_in size n (drop size (b ∷ bs))) (sym one)

-- The end of a slice, lent as a part, comes in this form.
pub unused-tail : {r : Bool} (form : Form) (n : ℕ) (bs : List ℕ) → r ≡ all_are 0x00 (take (length bs - (head_size form + n)) (drop (head_size form + n) bs)) → r ≡ unused form n bs
unfolding unused
unused-tail {r} form n bs e =
    let at = head_size form + n in
    let long : length (drop at bs) ≤ length bs - at = rw length-drop (omega arith) in
    e ∙ ap (all_are 0x00) (take_all (length bs - at) (drop at bs) long ∙ sym (drop-drop n (head_size form) bs))

-- A good record has its whole size, and its count is not over its data bytes.
pub record Sound (form : Form) (bs : List ℕ) : Type 0 where
  pub long : length bs ≡ record_size form
  pub counted : good_count form (kind bs) (count bs) ≡ true
  pub seated : leb (seat_of form bs) 1 ≡ true
  pub spared : eqb (spare_of form bs) 0x00 ≡ true
  pub clear : unused form (count bs) bs ≡ true

pub good-is : (form : Form) (bs : List ℕ) → good_record form bs ≡ true → Sound form bs
unfolding good_record
good-is form bs e =
    let a = eqb (length bs) (record_size form) in
    let b = good_count form (kind bs) (count bs) in
    let c = leb (seat_of form bs) 1 in
    let d = eqb (spare_of form bs) 0x00 in
    let w = unused form (count bs) bs in
    let x : b and c and d and w ≡ true = and_right a (b and c and d and w) e in
    let y : c and d and w ≡ true = and_right b (c and d and w) x in
    let z : d and w ≡ true = and_right c (d and w) y in
    record {
      long = eqb-true (length bs) (record_size form) (and_left a (b and c and d and w) e);
      counted = and_left b (c and d and w) x;
      seated = and_left c (d and w) y;
      spared = and_left d w z;
      clear = and_right d w z;
    }

-- The count of a good record: 0 of a gap, else 1 to as many as there are data bytes.
pub count_most : (form : Form) (kind n : ℕ) → good_count form kind n ≡ true → n ≤ data_size form
unfolding good_count ◌and◌ ◌from◌to◌ if◌then◌otherwise◌
count_most form kind n e = gaps (eqb kind 0x00) e
  where
    bytes : (t : Bool) → t and leb 1 n and leb n (data_size form) ≡ true → n ≤ data_size form
    bytes true h = leb-true n (data_size form) (and_right (leb 1 n) (leb n (data_size form)) h)
    bytes false h = absurd (false≢true h)

    gaps : (t : Bool) → (if t then eqb n 0 otherwise eqb kind 0x01 and leb 1 n and leb n (data_size form)) ≡ true → n ≤ data_size form
    gaps true h = let z : n ≡ 0 = eqb-true n 0 h in omega arith
    gaps false h = bytes (eqb kind 0x01) h

pub count-least : (form : Form) (kind n : ℕ) → good_count form kind n ≡ true → eqb kind 0x00 ≡ false → 1 ≤ n
unfolding good_count ◌and◌ ◌from◌to◌ if◌then◌otherwise◌
count-least form kind n e h = bytes (eqb kind 0x01) (sym (ap (λ (t : Bool). if t then eqb n 0 otherwise eqb kind 0x01 and leb 1 n and leb n (data_size form)) h) ∙ e)
  where
    bytes : (t : Bool) → t and leb 1 n and leb n (data_size form) ≡ true → 1 ≤ n
    bytes true k = leb-true 1 n (and_left (leb 1 n) (leb n (data_size form)) k)
    bytes false k = absurd (false≢true k)

-- A record that carries n bytes has its whole size, and n is 1 to as many as it has data bytes.
pub record Carries (form : Form) (n : ℕ) (bs : List ℕ) : Type 0 where
  pub long : length bs ≡ record_size form
  pub least : 1 ≤ n
  pub most : n ≤ data_size form

pub carries-is : (form : Form) (n : ℕ) (bs : List ℕ) → record_of form bs ≡ Ok (BytesRecord n) → Carries form n bs
unfolding record_of if◌then◌otherwise◌
carries-is form n bs e = judged (good_record form bs) refl e
  where
    kinds : (t : Bool) → eqb (kind bs) 0x00 ≡ t → Sound form bs → ◌≡◌ {A = Result Record BadRecord} (if t then Ok GapRecord otherwise Ok (BytesRecord (count bs))) (Ok (BytesRecord n)) → Carries form n bs
    kinds true h s k = absurd (let z : ◌≡◌ {A = ℕ} 0 1 = cc in omega arith)
    kinds false h s k =
        let c : count bs ≡ n = cc in
        record {
          long = s.long;
          least = rw (sym c) (count-least form (kind bs) (count bs) s.counted h);
          most = rw (sym c) (count_most form (kind bs) (count bs) s.counted);
        }

    seats : (t : Bool) → Sound form bs → ◌≡◌ {A = Result Record BadRecord} (if not t then Ok OtherSeat otherwise if eqb (kind bs) 0x00 then Ok GapRecord otherwise Ok (BytesRecord (count bs))) (Ok (BytesRecord n)) → Carries form n bs
    seats true s k = kinds (eqb (kind bs) 0x00) refl s k
    seats false s k = absurd (let z : ◌≡◌ {A = ℕ} 0 1 = cc in omega arith)

    judged : (t : Bool) → good_record form bs ≡ t
        → ◌≡◌ {A = Result Record BadRecord} (if not t then Err (record {}) otherwise if not (eqb (seat_of form bs) 0) then Ok OtherSeat
        otherwise if eqb (kind bs) 0x00 then Ok GapRecord otherwise Ok (BytesRecord (count bs))) (Ok (BytesRecord n)) → Carries form n bs
    judged true h k = seats (eqb (seat_of form bs) 0) (good-is form bs h) k
    judged false h k = absurd (let z : ◌≡◌ {A = ℕ} 0 1 = cc in omega arith)

pub carried-long : {form : Form} {n : ℕ} {bs : List ℕ} → Carries form n bs → length (carried_bytes form n bs) ≡ n
carried-long {form} {n} {bs} x = length-take-le n (drop (head_size form) bs) (rw (length-drop, x.long) (omega (arith, x.most, (sizes form).parts)))

-- A record has bytes.
pub size-least : (form : Form) → 1 ≤ record_size form
size-least form = omega (arith, (sizes form).parts, (sizes form).head_least)
