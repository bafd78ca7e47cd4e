-- How far the writing of a capture's records has come, and what room it takes: over the form.
-- Assumes nothing.
use mathlib.Core.Bool.{true}
use mathlib.Core.List.{List, [], ◌++◌, ◌∷◌, append_assoc, append-nil}
use mathlib.Core.Path.{◌∙◌, ◌≡◌, ap, refl, sym}
use Prim.Native.Nat.{◌*◌, ◌+◌, ◌-◌, ◌/◌, ◌<◌, ◌≤◌, min, suc, zero, ℕ}
use native.Mathlib.Omega.{arith}
use lib.ListN.{drop, drop_of_length-le, length, length-append, length-drop, length-take, take}
use borrow.Author.Tests.{le-ltb, lt-ltb}
use Rattle.conversion.proofs.First.{none_found}
use Rattle.conversion.proofs.Rewriting.{rewritten-long}
use Rattle.conversion.specs.Conversion.{converting, first_not, other, passes, rewritten, rewritten_all, written_into}
use Rattle.conversion.specs.declared.Asked.TheVariants.{Good}
use Rattle.lent.specs.declared.Short.{Short}
use Rattle.conversion.specs.declared.ConvertError.TheVariants.{NoRoom}
use Rattle.std.specs.Prelude.{Err, None, Ok, Result}
use Rattle.lent.proofs.Laws.{Written, written-put, written_start}
use Rattle.lent.specs.Lent.{left, put_of}
use Rattle.replay_capture.proofs.Laws.{good-is, records_is, records-next, records-none, size-least, sizes}
use Rattle.replay_capture.proofs.Records.{chunk_first, chunk_less}
use Rattle.replay_capture.specs.Capture.{record_size, records_in, records_of}
use Rattle.replay_capture.specs.declared.Form.{Form}
use Rattle.replay_capture.specs.declared.Form.TheVariants.{New, Old}
use Rattle.words.specs.Words.{if◌then◌otherwise◌}

good-long : (form : Form) (r : List ℕ) → passes form Good r ≡ true → length r ≡ record_size form
unfolding passes
good-long form r e = (good-is form r e).long

-- The records before the bytes that are left are rewritten and stand in the output, and t is all that is to stand there.
pub record WritingFrom (from : Form) (rest out₀ : List ℕ) (written : ℕ) (out t : List ℕ) : Type 0 where
  pub most : ℕ
  pub enough : length rest ≤ most
  pub done : List ℕ
  pub stands : Written done out₀ out
  pub counted : written ≡ length done
  pub good : first_not from Good (records_in (record_size from) most rest) ≡ None
  pub all : done ++ rewritten_all from (records_in (record_size from) most rest) ≡ t
  pub room : length t ≤ length out₀

pub writing_start : (from : Form) {rest : List ℕ} (bs out : List ℕ) → rest ≡ bs → first_not from Good (records_of (record_size from) bs) ≡ None
    → length (rewritten_all from (records_of (record_size from) bs)) ≤ length out → WritingFrom from rest out 0 out (rewritten_all from (records_of (record_size from) bs))
writing_start from bs out e g h =
    rw e
    (record {
      most = length bs;
      enough = omega arith;
      done = [];
      stands = written_start out;
      counted = refl;
      good = ap (first_not from Good) (sym (records_is (record_size from) bs)) ∙ g;
      all = ap (rewritten_all from) (sym (records_is (record_size from) bs));
      room = h;
    })

module _ {from : Form} {rest out₀ : List ℕ} {size written : ℕ} {out t : List ℕ} (q : WritingFrom from rest out₀ written out t) (x next : List ℕ) (s : size ≡ record_size from)
    (e : rest ≡ x ++ next) (l : length x ≡ min size (length rest)) (g : 0 < length rest) where
  cut : records_in (record_size from) q.most rest ≡ x ∷ records_in (record_size from) (q.most - 1) next
  cut = chunk_first (record_size from) q.most x next e (rw (← s) l) g q.enough

  judged : (passes from Good x ≡ true) × (first_not from Good (records_in (record_size from) (q.most - 1) next) ≡ None)
  judged = none_found from Good _ _ (ap (first_not from Good) (sym cut) ∙ q.good)

  pub record-long : length x ≡ record_size from
  record-long = good-long from _ judged.0

  joined : (q.done ++ rewritten from x) ++ rewritten_all from (records_in (record_size from) (q.most - 1) next) ≡ t
  unfolding rewritten_all
  joined = append_assoc q.done _ _ ∙ ap (λ (rs : List (List ℕ)). q.done ++ rewritten_all from rs) (sym cut) ∙ q.all

  pub room_within : written + record_size (other from) ≤ length out₀
  room_within = omega (arith, q.counted, q.room, simp length-append at (ap length joined), rewritten-long from x record-long)

  pub writing-turn : {size-to : ℕ} {out' : List ℕ} {a : Result Unit Short} → size-to ≡ record_size (other from)
      → left a out' ≡ put_of out written (rewritten from x) → WritingFrom from next out₀ (written + size-to) out' t
  writing-turn {size-to} {out'} {a} f p =
      let long : length (rewritten from x) ≡ record_size (other from) = rewritten-long from x record-long in
      record {
        most = q.most - 1;
        enough = omega (arith, q.enough, chunk_less (record_size from) x next e (rw (← s) l) g (size-least from));
        done = q.done ++ rewritten from x;
        stands = written-put written (rewritten from x) q.stands p q.counted (omega (arith, room_within));
        counted = rw length-append (omega (arith, q.counted));
        good = judged.1;
        all = joined;
        room = q.room;
      }

pub writing-end : {from : Form} {rest out₀ : List ℕ} {written : ℕ} {out t : List ℕ} → WritingFrom from rest out₀ written out t → length rest ≡ 0
    → converting (Ok written) out ≡ written_into t out₀
unfolding rewritten_all written_into if◌then◌otherwise◌
writing-end {from} {rest} {out₀} {written} {out} {t} q h =
    let none : records_in (record_size from) q.most rest ≡ [] =
    ap (records_in (record_size from) q.most) (drop_of_length-le rest {i = 0} (omega arith)) ∙ records-none (record_size from) q.most in
    let is : q.done ≡ t = sym (append-nil q.done) ∙ ap (λ (rs : List (List ℕ)). q.done ++ rewritten_all from rs) (sym none) ∙ q.all in
    ap (λ (n : ℕ). converting (Ok n) out) q.counted ∙ ap (converting (Ok (length q.done))) q.stands.is
    ∙ ap (λ (w : List ℕ). converting (Ok (length w)) (w ++ drop (length w) out₀)) is ∙ simp (le-ltb (length out₀) (length t) q.room)

-- Good records, one after the other: how many bytes they are, and how many they take in the other form.
pub record Counts (from : Form) (bs : List ℕ) (rs : List (List ℕ)) : Type 0 where
  pub read : length bs ≡ record_size from * length rs
  pub taken : length (rewritten_all from rs) ≡ record_size (other from) * length rs

one_more : (form : Form) (n : ℕ) → record_size form * suc n ≡ record_size form + record_size form * n
one_more Old n = omega arith
one_more New n = omega arith

counts-none : (from : Form) → Counts from [] []
unfolding rewritten_all
counts-none Old = record { read = refl; taken = refl }
counts-none New = record { read = refl; taken = refl }

counts-more : (from : Form) (bs : List ℕ) (rs : List (List ℕ)) → length (take (record_size from) bs) ≡ record_size from → Counts from (drop (record_size from) bs) rs
    → Counts from bs (take (record_size from) bs ∷ rs)
unfolding rewritten_all
counts-more from bs rs h x =
    let m : length (take (record_size from) bs) ≤ length bs = simp length-take (omega arith) in
    let l : length (drop (record_size from) bs) ≡ length bs - record_size from = length-drop (record_size from) bs in
    record {
      read = rw one_more (omega (arith, x.read));
      taken = rw (length-append, rewritten-long from (take (record_size from) bs) h, x.taken, one_more);
    }

counts-in : (from : Form) (most : ℕ) (bs : List ℕ) → length bs ≤ most → first_not from Good (records_in (record_size from) most bs) ≡ None
    → Counts from bs (records_in (record_size from) most bs)
counts-in from zero [] h g = rw records-none (counts-none from)
counts-in from zero (b ∷ bs) h g = absurd (omega arith)
counts-in from (suc most) [] h g = rw records-none (counts-none from)
counts-in from (suc most) (b ∷ bs) h g =
    let size = record_size from in
    let one : suc most - 1 ≡ most = omega arith in
    let l : length (drop size (b ∷ bs)) ≡ length (b ∷ bs) - size = length-drop size (b ∷ bs) in
    let e : records_in size (suc most) (b ∷ bs) ≡ take size (b ∷ bs) ∷ records_in size most (drop size (b ∷ bs)) =
    records-next size (suc most) (b ∷ bs) (omega arith) (omega arith) ∙ ap (λ (k : ℕ). take size (b ∷ bs) ∷ records_in size k (drop size (b ∷ bs))) one in
    let j = none_found from Good _ _ (ap (first_not from Good) (sym e) ∙ g) in
    rw e (counts-more from (b ∷ bs) _ (good-long from _ j.0) (counts-in from most (drop size (b ∷ bs)) (omega (arith, sizes from)) j.1))

pub counts : (from : Form) (bs : List ℕ) → first_not from Good (records_of (record_size from) bs) ≡ None → Counts from bs (records_of (record_size from) bs)
counts from bs g =
    let e = records_is (record_size from) bs in
    rw e (counts-in from (length bs) bs (omega arith) (ap (first_not from Good) (sym e) ∙ g))

-- The room is enough where it has place for as many records as the capture has.
room-short : (from : Form) (n : ℕ) {bs : List ℕ} {rs : List (List ℕ)} → Counts from bs rs → n / record_size (other from) < length bs / record_size from → n < length (rewritten_all from rs)
room-short Old n x h = omega (arith, x.read, x.taken)
room-short New n x h = omega (arith, x.read, x.taken)

room-enough : (from : Form) (n : ℕ) {bs : List ℕ} {rs : List (List ℕ)} → Counts from bs rs → length bs / record_size from ≤ n / record_size (other from) → length (rewritten_all from rs) ≤ n
room-enough Old n x h = omega (arith, x.read, x.taken)
room-enough New n x h = omega (arith, x.read, x.taken)

-- As the code finds it, by its own sizes.
module _ (from : Form) {to : Form} {size-from size-to : ℕ} (bs : List ℕ) (g : first_not from Good (records_of (record_size from) bs) ≡ None)
    (f : size-from ≡ record_size from) (o : to ≡ other from) (t : size-to ≡ record_size to) where
  pub not_written : (out : List ℕ) → length out / size-to < length bs / size-from → converting (Err NoRoom) out ≡ written_into (rewritten_all from (records_of (record_size from) bs)) out
  unfolding written_into if◌then◌otherwise◌
  not_written out h = simp (lt-ltb _ _ (room-short from (length out) (counts from bs g) (rw (f, t, o) at h)))

  pub room-for-all : {n : ℕ} → length bs / size-from ≤ n / size-to → length (rewritten_all from (records_of (record_size from) bs)) ≤ n
  room-for-all {n} h = room-enough from n (counts from bs g) (rw (f, t, o) at h)
