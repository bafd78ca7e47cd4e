-- Laws of quiet records: the bytes of what is collected with more behind it, and what settling a record leaves, case by case.
-- Assumes nothing.
use mathlib.Core.Bool.{Bool, false, true}
use mathlib.Core.List.{List, ◌++◌}
use mathlib.Core.Path.{◌∙◌, ◌≡◌, ap, refl, sym}
use Prim.Native.Nat.{◌+◌, ◌-◌, ◌<◌, ◌≤◌, ℕ}
use native.Mathlib.Decide.{dec_le}
use native.Mathlib.Omega.{arith}
use lib.ListN.{get_or-append, get_or, length, length-append, take}
use lib.Seq.{get_or-append-add, get_or-take, length-take-le, take_all}
use lib.Dec.{leb}
use borrow.Author.Tests.{le-leb, lt-leb}
use Rattle.chip_core.specs.Hearing.{hearing}
use Rattle.chip_core.specs.declared.Hearing.{Hearing}
use Rattle.chip_core.specs.declared.Phase.{Phase}
use Rattle.chip_state.proofs.Laws.{good-within}
use Rattle.chip_state.specs.Refusals.{good_collected, good_heard}
use Rattle.chip_state.specs.declared.Chip.{Chip}
use Rattle.frame.proofs.Laws.Collector.{add-put, dropped-leaves, heard-is}
use Rattle.frame.specs.Collector.{added, collecting, heard}
use Rattle.frame.specs.declared.collector.Collector.{Collector}
use Rattle.lent.proofs.Laws.{put-lands}
use Rattle.lent.specs.Lent.{Left, left, put_of}
use Rattle.replay_capture.specs.declared.Record.TheVariants.{BytesRecord, GapRecord, OtherSeat}
use Rattle.replay_capture.specs.declared.BadRecord.{BadRecord}
use Rattle.replay_capture.specs.declared.Record.{Record}
use Rattle.lent.specs.declared.Short.{Short}
use Rattle.std.specs.Prelude.{Err, None, Ok, Result, Some}
use Rattle.part.specs.declared.Part.{Part}
use Rattle.replay_capture.proofs.Laws.{Carries, carried-long, carries-is, sizes}
use Rattle.replay_capture.specs.Capture.{carried_bytes, record_of}
use Rattle.replay_capture.specs.declared.Form.{Form}
use Rattle.replay_play.specs.Play.{output_least}
use Rattle.part.specs.declared.refusal.Refusal.{Refusal}
use Rattle.std.specs.Result.{is_ok}
use Rattle.replay_quiet.specs.Quiet.{accepted_in, collected_by, is_accepted, is_quiet, settled_if, settle_of, settling}
use Rattle.replay_quiet.specs.declared.Lengths.{Lengths}
use Rattle.words.specs.Words.{◌and◌}

-- A verdict accepts where it is no refusal.
pub accepted-is : (v : Result Unit Refusal) → is_ok v ≡ is_accepted v
accepted-is (Ok _) = refl
accepted-is (Err r) = refl

-- The bytes of what is collected, and of what is behind it.
pub front_at : (l more : List ℕ) (count i : ℕ) → count ≤ length l → i < count → get_or l i 0 ≡ get_or (take count l ++ more) i 0
front_at l more count i w h =
    let n : length (take count l) ≡ count = length-take-le count l w in
    sym (get_or-take count l i 0 h) ∙ sym (get_or-append (take count l) more 0 i (omega (arith, n)))

pub behind-at : (l more : List ℕ) (count i : ℕ) → count ≤ length l → count ≤ i → get_or more (i - count) 0 ≡ get_or (take count l ++ more) i 0
behind-at l more count i w h =
    let n : length (take count l) ≡ count = length-take-le count l w in
    let e : length (take count l) + (i - count) ≡ i = omega (arith, n) in
    sym (get_or-append-add (take count l) more (i - count) 0) ∙ ap (λ (k : ℕ). get_or (take count l ++ more) k 0) e

pub long-behind : (l more : List ℕ) (count : ℕ) → count ≤ length l → count + length more ≡ length (take count l ++ more)
long-behind l more count w = sym (length-append (take count l) more ∙ ap (λ (n : ℕ). n + length more) (length-take-le count l w))

-- As many bytes as have places are no front.
pub full-is-none : (f : Phase) (l more : List ℕ) (count : ℕ) → length l ≡ 260 → 260 ≤ count → false ≡ good_heard f (take count l ++ more)
full-is-none f l more count w h = go (good_heard f (take count l ++ more)) refl
  where
    all : 260 ≤ length (take count l ++ more)
    all =
        let n : length (take count l ++ more) ≡ length (take count l) + length more = length-append (take count l) more in
        let e : take count l ≡ l = take_all count l (omega arith) in
        let k : length (take count l) ≡ 260 = ap length e ∙ w in
        omega arith

    go : (t : Bool) → good_heard f (take count l ++ more) ≡ t → false ≡ t
    go false e = refl
    go true e = absurd (omega (arith, all, good-within (hearing f) _ _ _ e))

pub front-is : {r : Bool} {e : Hearing} {n head len : ℕ} (f : Phase) (l more : List ℕ) (count : ℕ) → length l ≡ 260 → count < 260 → r ≡ good_collected e n head len → e ≡ hearing f
    → n ≡ count + length more → head ≡ get_or (take count l ++ more) 0 0 → len ≡ get_or (take count l ++ more) 1 0 → r ≡ good_heard f (take count l ++ more)
front-is {r} {e} {n} {head} {len} f l more count w h g i j x y =
    let k : n ≡ length (take count l ++ more) = j ∙ long-behind l more count (omega arith) in
    g ∙ rw (i, k, x, y)

-- Whether a record is quiet, as the code asks it.
pub bytes-quiet-is : (form : Form) {ds : List ℕ} (n count : ℕ) (f : Phase) (held bs : List ℕ) → ds ≡ carried_bytes form n bs
    → is_quiet form (Ok (BytesRecord n)) f (heard (collecting held count)) bs ≡ good_heard f (take count held ++ ds)
unfolding is_quiet
bytes-quiet-is form {ds} n count f held bs e = rw (heard-is (collecting held count), e)

pub bad-is-loud : (form : Form) (f : Phase) (hs bs : List ℕ) → is_quiet form (Err (record {})) f hs bs ≡ false
unfolding is_quiet
bad-is-loud form f hs bs = refl

and_none : (t : Bool) → t and false ≡ false
unfolding ◌and◌
and_none true = refl
and_none false = refl

-- What settling a record leaves: nothing, for want of output or of a quiet record that is accepted;
module _ (form : Form) (known : Bool) (p : Part) (c : Chip) (bs : List ℕ) (l : Lengths) {least : ℕ} (asked : least ≡ output_least form) where
  pub settles-short : l.output < least → settling None c.collector.bytes ≡ settle_of form known p c bs l
  unfolding settle_of settled_if ◌and◌
  settles-short h = simp (lt-leb (output_least form) l.output (omega (arith, asked)))

  module _ (r : Result Record BadRecord) (judged : record_of form bs ≡ r) (room : least ≤ l.output) where
    enough : leb (output_least form) l.output ≡ true
    enough = le-leb (output_least form) l.output (omega (arith, asked))

    pub settles-loud : is_quiet form r c.core.phase (heard c.collector) bs ≡ false → settling None c.collector.bytes ≡ settle_of form known p c bs l
    unfolding settle_of settled_if ◌and◌
    settles-loud e = simp (judged, enough, e)

    pub settles-barred : accepted_in known p c l ≡ false → settling None c.collector.bytes ≡ settle_of form known p c bs l
    unfolding settle_of settled_if ◌and◌
    settles-barred e = simp (judged, enough, e, and_none (is_quiet form r c.core.phase (heard c.collector) bs))

    settles : is_quiet form r c.core.phase (heard c.collector) bs ≡ true → accepted_in known p c l ≡ true
        → settling (Some (collected_by form r bs c.collector).len) (collected_by form r bs c.collector).bytes ≡ settle_of form known p c bs l
    unfolding settle_of settled_if ◌and◌
    settles e a = simp (judged, enough, e, a)

  -- a gap, with nothing collected any more; the other seat's, with all as it was; and bytes, with them behind what is collected.
  pub settles-gap : record_of form bs ≡ Ok GapRecord → least ≤ l.output → accepted_in known p c l ≡ true → settling (Some 0) c.collector.bytes ≡ settle_of form known p c bs l
  unfolding is_quiet collected_by
  settles-gap e h a = sym (ap (λ (d : Collector). settling (Some d.len) d.bytes) (dropped-leaves c.collector)) ∙ settles (Ok GapRecord) e h refl a

  pub settles-other : record_of form bs ≡ Ok OtherSeat → least ≤ l.output → accepted_in known p c l ≡ true
      → settling (Some c.collector.len) c.collector.bytes ≡ settle_of form known p c bs l
  unfolding is_quiet collected_by
  settles-other e h a = settles (Ok OtherSeat) e h refl a

  pub settles-bytes : {ds : List ℕ} (n : ℕ) (a : Result Unit Short) (held : List ℕ) → record_of form bs ≡ Ok (BytesRecord n) → least ≤ l.output → ds ≡ carried_bytes form n bs
      → length c.collector.bytes ≡ 260 → c.collector.len + n ≤ 260 → is_quiet form (Ok (BytesRecord n)) c.core.phase (heard c.collector) bs ≡ true → accepted_in known p c l ≡ true
      → left a held ≡ put_of c.collector.bytes c.collector.len ds → settling (Some (c.collector.len + n)) held ≡ settle_of form known p c bs l
  unfolding collected_by
  settles-bytes {ds} n a held e h d w k g t u =
      let q : left a held ≡ put_of c.collector.bytes c.collector.len (carried_bytes form n bs) = u ∙ ap (put_of c.collector.bytes c.collector.len) d in
      let m : length (carried_bytes form n bs) ≡ n = carried-long (carries-is form n bs e) in
      let f : collecting held (c.collector.len + n) ≡ added c.collector (carried_bytes form n bs) =
      ap (λ (i : ℕ). collecting held (c.collector.len + i)) (sym m)
      ∙ add-put c.collector (carried_bytes form n bs) held a q
      (ap (λ (x : Left). x.answer) (q ∙ put-lands c.collector.bytes c.collector.len (carried_bytes form n bs) (omega (arith, m, w)))) w in
      ap (λ (d : Collector). settling (Some d.len) d.bytes) f ∙ settles (Ok (BytesRecord n)) e h g t

-- Where bytes leave a front, they have places.
pub front_fits : (form : Form) {ds : List ℕ} (n count : ℕ) (f : Phase) (held bs : List ℕ) → record_of form bs ≡ Ok (BytesRecord n) → ds ≡ carried_bytes form n bs → length held ≡ 260
    → good_heard f (take count held ++ ds) ≡ true → count + n < 260
front_fits form {ds} n count f held bs e d w g = go (dec_le count 260)
  where
    part : length ds ≡ n
    part = ap length d ∙ carried-long (carries-is form n bs e)

    go : Dec (count ≤ 260) → count + n < 260
    go (yes k) = omega (arith, part, good-within (hearing f) _ _ _ g, long-behind held ds count (omega arith))
    go (no k) = absurd (let z : false ≡ true = full-is-none f held ds count w (omega arith) ∙ g in let y : ◌≡◌ {A = ℕ} 0 1 = cc in omega arith)

-- The bytes that a record carries are few.
pub carried-few : {form : Form} {n : ℕ} {bs ds : List ℕ} → Carries form n bs → ds ≡ carried_bytes form n bs → length ds ≤ 8
carried-few {form} {n} {bs} {ds} k e =
    let d : length ds ≡ n = ap length e ∙ carried-long k in
    omega (arith, k.most, (sizes form).data_most)
