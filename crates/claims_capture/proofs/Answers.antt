-- What a conversion answers and leaves: specs/Answers.
-- Assumes nothing.
use mathlib.Core.Bool.{false, false≢true}
use mathlib.Core.List.{List, [], ◌++◌, ◌∷◌, append_assoc}
use mathlib.Core.Logic.{◌≢◌}
use mathlib.Core.Path.{◌∙◌, ◌≡◌, ap, refl, sym}
use Prim.Native.Nat.{◌+◌, ◌<◌, ◌≤◌, suc, ℕ}
use native.Mathlib.Decide.{dec_le}
use native.Mathlib.Omega.{arith}
use lib.ListN.{get_or-append, drop, get_or, length, length-append}
use lib.Seq.{get_or-append_seam}
use borrow.Author.Tests.{le-ltb, lt-ltb, ne_eqb}
use Rattle.claims_capture.proofs.Records.{records-are, records-only}
use Rattle.claims_capture.proofs.Rewritten.{old-is-held}
use Rattle.claims_capture.proofs.Search.{Search, at, nowhere, search_is, search-only}
use Rattle.claims_capture.specs.Answers.{AllPass, AnswerIs, AnswerOnly, CallTells, Answered, EmptyCapture, FirstNot, NumbersAre, OldNeverNotHeld, RefusedUntouched, ShortTail, bad, needed, no_room, not_held}
use Rattle.claims_capture.specs.Answers.{records_from, wrote}
use Rattle.claims_capture.specs.Records.{Cut, last, next, none}
use Rattle.conversion.proofs.Writing.{counts}
use Rattle.conversion.specs.Conversion.{Converting, bytes_written, convert_by, convert_of, converting, first_not, held_by_old, refusal_number, passes, record_named, rewritten_all, written_into}
use Rattle.conversion.specs.declared.Asked.TheVariants.{Good, Held}
use Rattle.conversion.specs.declared.ConvertError.TheVariants.{NoRoom, NotHeldAt}
use Rattle.std.specs.Prelude.{Err, None, Ok, Option}
use Rattle.conversion_door.specs.Calls.{convert_told, converted_through}
use Rattle.replay_capture.proofs.Laws.{good-is}
use Rattle.replay_capture.specs.Capture.{good_record, record_size, records_in, records_of}
use Rattle.replay_capture.specs.declared.Form.{Form}
use Rattle.replay_capture.specs.declared.Form.TheVariants.{Old}
use Rattle.words.specs.Words.{◌and◌, if◌then◌otherwise◌}

module _ (from : Form) (capture : List ℕ) where
  found-good : Search (good_record from) (records_from from capture) (first_not from Good (records_from from capture))
  unfolding passes
  found-good = search_is from Good (records_from from capture)

  found-held : Search (held_by_old from) (records_from from capture) (first_not from Held (records_from from capture))
  unfolding passes
  found-held = search_is from Held (records_from from capture)

  pub none-bad : AllPass (good_record from) (records_from from capture) → first_not from Good (records_from from capture) ≡ None
  none-bad h = search-only found-good (nowhere h)

  pub none-unheld : AllPass (held_by_old from) (records_from from capture) → first_not from Held (records_from from capture) ≡ None
  none-unheld h = search-only found-held (nowhere h)

  pub needed-is : AllPass (good_record from) (records_from from capture) → length (rewritten_all from (records_from from capture)) ≡ needed from capture
  needed-is h = (counts from capture (none-bad h)).taken

  -- What the four of them come to.
  convert-is : {f g : Option ℕ} (output : List ℕ) → first_not from Good (records_from from capture) ≡ f → first_not from Held (records_from from capture) ≡ g
      → convert_of from capture output ≡ convert_by f g (rewritten_all from (records_from from capture)) output
  unfolding convert_of
  convert-is output e f = rw (e, f)

  written-needed : (output : List ℕ) → AllPass (good_record from) (records_from from capture) → needed from capture ≤ length output
      → written_into (rewritten_all from (records_from from capture)) output
      ≡ converting (Ok (needed from capture)) (rewritten_all from (records_from from capture) ++ drop (needed from capture) output)
  unfolding written_into if◌then◌otherwise◌
  written-needed output h k = rw (needed-is h) (simp (le-ltb (length output) (needed from capture) k))

  not_written : (output : List ℕ) → AllPass (good_record from) (records_from from capture) → length output < needed from capture
      → written_into (rewritten_all from (records_from from capture)) output ≡ converting (Err NoRoom) output
  unfolding written_into if◌then◌otherwise◌
  not_written output h k = rw (needed-is h) (simp (lt-ltb (length output) (needed from capture) k))

pub answer-is : AnswerIs
unfolding convert_of convert_by
answer-is from capture output =
    go (found-good from capture) (found-held from capture)
  where
    room : AllPass (good_record from) (records_from from capture) → AllPass (held_by_old from) (records_from from capture) → Dec (needed from capture ≤ length output)
        → Answered from capture output (written_into (rewritten_all from (records_from from capture)) output)
    room g h (yes k) = rw (written-needed from capture output g k) (wrote g h k)
    room g h (no k) = rw (not_written from capture output g (omega arith)) (no_room g h (omega arith))

    go : {f g : Option ℕ} → Search (good_record from) (records_from from capture) f → Search (held_by_old from) (records_from from capture) g
        → Answered from capture output (convert_by f g (rewritten_all from (records_from from capture)) output)
    go (at k x) y = bad k x
    go (nowhere g) (at k y) = not_held k g y
    go (nowhere g) (nowhere h) = room g h (dec_le (needed from capture) (length output))

pub answer-only : AnswerOnly
unfolding convert_by
answer-only from capture output x (bad k y) = convert-is from capture output (search-only (found-good from capture) (at k y)) refl
answer-only from capture output x (not_held k g y) = convert-is from capture output (none-bad from capture g) (search-only (found-held from capture) (at k y))
answer-only from capture output x (no_room g h k) = convert-is from capture output (none-bad from capture g) (none-unheld from capture h) ∙ not_written from capture output g k
answer-only from capture output x (wrote g h k) = convert-is from capture output (none-bad from capture g) (none-unheld from capture h) ∙ written-needed from capture output g k

pub refused-untouched : RefusedUntouched
unfolding refusal_number
refused-untouched from capture output h = go (answer-is from capture output) h
  where
    go : {x : Converting} → Answered from capture output x → refusal_number x.converted ≢ 0 → x.output ≡ output
    go (bad k y) n = refl
    go (not_held k g y) n = refl
    go (no_room g i k) n = refl
    go (wrote g i k) n = absurd (n refl)

pub old-never-not-held : OldNeverNotHeld
old-never-not-held capture output k e = go (answer-is Old capture output) e
  where
    go : {x : Converting} → Answered Old capture output x → x.converted ≢ (Err (NotHeldAt k))
    go (bad l y) p = let z : ◌≡◌ {A = ℕ} 0 1 = cc in omega arith
    go (not_held l g y) p = false≢true (sym y.fails ∙ old-is-held (get_or (records_from Old capture) l []) (g l y.there))
    go (no_room g i l) p = let z : ◌≡◌ {A = ℕ} 0 1 = cc in omega arith
    go (wrote g i l) p = let z : ◌≡◌ {A = ℕ} 0 1 = cc in omega arith

pub empty-capture : EmptyCapture
unfolding convert_of convert_by records_of records_in first_not rewritten_all written_into if◌then◌otherwise◌
empty-capture from output = simp (le-ltb (length output) 0 (omega arith))

-- Behind records of their whole size, a tail is cut as the last.
tail-cut : (from : Form) {capture : List ℕ} {rs : List (List ℕ)} (tail : List ℕ) → 1 ≤ length tail → length tail < record_size from → Cut (record_size from) capture rs → AllPass (good_record from) rs
    → Cut (record_size from) (capture ++ tail) (rs ++ tail ∷ [])
tail-cut from tail h k (none e) x = rw e (last {capture = tail} h (omega arith))
tail-cut from tail h k (last {capture} l m) x = next capture refl (good-is from capture (x 0 (omega arith))).long (last {capture = tail} h (omega arith))
tail-cut from tail h k (next {rest = rest} r e l c) x =
    next r (ap (λ (z : List ℕ). z ++ tail) e ∙ append_assoc r rest tail) l (tail-cut from tail h k c (λ i j. x (suc i) (omega arith)))

short-bad : (form : Form) (bs : List ℕ) → length bs < record_size form → good_record form bs ≡ false
unfolding good_record ◌and◌
short-bad form bs h = simp (ne_eqb (length bs) (record_size form) (λ e. omega arith))

pub short-tail : ShortTail
short-tail from capture tail output x h k =
    let rs = records_from from capture in
    let n : length (rs ++ tail ∷ []) ≡ length rs + 1 = length-append rs (tail ∷ []) in
    let s : 1 ≤ record_size from = omega arith in
    let e : records_from from (capture ++ tail) ≡ rs ++ tail ∷ [] = records-only (record_size from) (capture ++ tail) (rs ++ tail ∷ []) s (tail-cut from tail h k (records-are (record_size from) capture s) x) in
    let y : FirstNot (good_record from) (rs ++ tail ∷ []) (length rs) =
    record {
      there = omega arith;
      fails = ap (good_record from) (get_or-append_seam rs tail [] []) ∙ short-bad from tail k;
      before = λ i j. ap (good_record from) (get_or-append rs (tail ∷ []) [] i j) ∙ x i j;
    } in
    answer-only from (capture ++ tail) output _ (bad (length rs) (rw e y))

pub numbers-are : NumbersAre
unfolding refusal_number record_named bytes_written
numbers-are n =
    record {
      bad10 = refl;
      not_held11 = refl;
      no_room12 = refl;
      wrote0 = refl;
      bad_named = refl;
      not_held_named = refl;
      none_named = refl;
      wrote_named = refl;
      bad_bytes = refl;
      not_held_bytes = refl;
      no_room_bytes = refl;
      wrote_bytes = refl;
    }

pub call-tells : CallTells
unfolding converted_through
call-tells from capture output x c =
    ap (λ (y : Converting). convert_told (refusal_number y.converted) (bytes_written y.converted ∷ record_named y.converted ∷ []) y.output) (answer-only from capture output x c)
