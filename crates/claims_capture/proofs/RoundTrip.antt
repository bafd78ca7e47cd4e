-- Either round trip gives the same bytes: specs/RoundTrip. And what a conversion wrote is one record for one.
-- Assumes nothing.
use mathlib.Core.Bool.{true}
use mathlib.Core.List.{List, [], ◌++◌, ◌∷◌, append-nil, map}
use mathlib.Core.Path.{◌∙◌, ◌≡◌, ap, refl, sym}
use Prim.Native.Nat.{◌<◌, suc, ℕ}
use native.Mathlib.Decide.{dec_lt}
use native.Mathlib.Omega.{arith}
use lib.ListN.{drop, length, take}
use lib.Seq.{take_at}
use borrow.Author.Tests.{le-ltb, lt-ltb}
use Rattle.claims_capture.proofs.Answers.{answer-is, needed-is}
use Rattle.claims_capture.proofs.Records.{records-are, records-only}
use Rattle.claims_capture.proofs.Rewritten.{rewritten-is-same}
use Rattle.claims_capture.specs.Answers.{AllPass, Answered, OneForOne, bad, needed, no_room, not_held, records_from, wrote}
use Rattle.claims_capture.specs.Records.{Cut, last, next, none}
use Rattle.claims_capture.specs.RoundTrip.{BackWithRoom, RoundTrip, back}
use Rattle.conversion.specs.Conversion.{Converting, convert_by, convert_of, converting, first_not, held_by_old, one_later, other, passes, rewritten, rewritten_all, written_into}
use Rattle.conversion.specs.declared.Asked.{Asked}
use Rattle.conversion.specs.declared.Asked.TheVariants.{Good, Held}
use Rattle.conversion.specs.declared.ConvertError.TheVariants.{NoRoom}
use Rattle.std.specs.Prelude.{Err, None, Ok}
use Rattle.replay_capture.proofs.Laws.{size-least}
use Rattle.replay_capture.specs.Capture.{good_record, record_size}
use Rattle.replay_capture.specs.declared.Form.{Form}
use Rattle.words.specs.Words.{if◌then◌otherwise◌}

-- Records of which every one is good, and one that the old form can hold.
record Fine (from : Form) (rs : List (List ℕ)) : Type 0 where
  good : AllPass (good_record from) rs
  held : AllPass (held_by_old from) rs

fine-rest : {from : Form} {r : List ℕ} {rs : List (List ℕ)} → Fine from (r ∷ rs) → Fine from rs
fine-rest x = record { good = λ i h. x.good (suc i) (omega arith); held = λ i h. x.held (suc i) (omega arith) }

module _ (from : Form) where
  first : (r : List ℕ) (rs : List (List ℕ)) → Fine from (r ∷ rs) → (good_record from r ≡ true) × (held_by_old from r ≡ true)
  first r rs x = (x.good 0 (omega arith), x.held 0 (omega arith))

  rewritten-cut : (rs : List (List ℕ)) → Fine from rs → Cut (record_size (other from)) (rewritten_all from rs) (map (rewritten from) rs)
  unfolding rewritten_all
  rewritten-cut [] x = none refl
  rewritten-cut (r ∷ rs) x =
      let f = first r rs x in
      next (rewritten from r) refl (rewritten-is-same from r f.0 f.1).long (rewritten-cut rs (fine-rest x))

  one_passes : (asked : Asked) (r : List ℕ) → good_record from r ≡ true → held_by_old from r ≡ true → passes (other from) asked (rewritten from r) ≡ true
  unfolding passes
  one_passes Good r g h = (rewritten-is-same from r g h).good
  one_passes Held r g h = (rewritten-is-same from r g h).held

  rewritten-passes : (asked : Asked) (rs : List (List ℕ)) → Fine from rs → first_not (other from) asked (map (rewritten from) rs) ≡ None
  unfolding first_not one_later if◌then◌otherwise◌
  rewritten-passes asked [] x = refl
  rewritten-passes asked (r ∷ rs) x = let f = first r rs x in simp (one_passes asked r f.0 f.1, rewritten-passes asked rs (fine-rest x))

  rewritten-back : {capture : List ℕ} {rs : List (List ℕ)} → Cut (record_size from) capture rs → Fine from rs → rewritten_all (other from) (map (rewritten from) rs) ≡ capture
  unfolding rewritten_all
  rewritten-back (none e) x = sym e
  rewritten-back (last {capture} h k) x = let f = first capture [] x in append-nil _ ∙ (rewritten-is-same from capture f.0 f.1).back
  rewritten-back (next {rs = rs} r e l c) x =
      let f = first r rs x in
      ap (λ (z : List ℕ). z ++ rewritten_all (other from) (map (rewritten from) rs)) (rewritten-is-same from r f.0 f.1).back
      ∙ ap (λ (z : List ℕ). r ++ z) (rewritten-back c (fine-rest x)) ∙ sym e

-- What a conversion that is not refused wrote.
record Leg (from : Form) (capture written : List ℕ) : Type 0 where
  fine : Fine from (records_from from capture)
  is : written ≡ rewritten_all from (records_from from capture)

leg : (from : Form) (capture output : List ℕ) (n : ℕ) → (convert_of from capture output).converted ≡ Ok n → Leg from capture (take n (convert_of from capture output).output)
leg from capture output n e = go (answer-is from capture output) e
  where
    go : {x : Converting} → Answered from capture output x → x.converted ≡ Ok n → Leg from capture (take n x.output)
    go (bad k y) p = absurd (let z : ◌≡◌ {A = ℕ} 0 1 = cc in omega arith)
    go (not_held k g y) p = absurd (let z : ◌≡◌ {A = ℕ} 0 1 = cc in omega arith)
    go (no_room g h k) p = absurd (let z : ◌≡◌ {A = ℕ} 0 1 = cc in omega arith)
    go (wrote g h k) p =
        let m : needed from capture ≡ n = cc in
        record {
          fine = record { good = g; held = h };
          is = take_at (rewritten_all from (records_from from capture)) (drop (needed from capture) output) n (needed-is from capture g ∙ m);
        }

module _ {from : Form} {capture written : List ℕ} (x : Leg from capture written) where
  leg-records : records_from (other from) written ≡ map (rewritten from) (records_from from capture)
  leg-records =
      ap (records_from (other from)) x.is
      ∙ records-only (record_size (other from)) _ _ (size-least (other from)) (rewritten-cut from (records_from from capture) x.fine)

  second : (output₂ : List ℕ) → convert_of (other from) written output₂ ≡ written_into capture output₂
  unfolding convert_of convert_by
  second output₂ =
      let rs = records_from from capture in
      ap (λ (ss : List (List ℕ)). convert_by (first_not (other from) Good ss) (first_not (other from) Held ss) (rewritten_all (other from) ss) output₂) leg-records
      ∙ rw (
        rewritten-passes from Good rs x.fine,
        rewritten-passes from Held rs x.fine,
        rewritten-back from (records-are (record_size from) capture (size-least from)) x.fine,
      )

pub one-for-one : OneForOne
one-for-one from capture output n e = leg-records (leg from capture output n e)

pub back-with-room : BackWithRoom
unfolding written_into if◌then◌otherwise◌
back-with-room from capture output output₂ n e h = second (leg from capture output n e) output₂ ∙ simp (le-ltb (length output₂) (length capture) h)

pub round_trip : RoundTrip
unfolding written_into if◌then◌otherwise◌
round_trip from capture output output₂ n m e f = go (dec_lt (length output₂) (length capture))
  where
    there : back from capture output n output₂ ≡ written_into capture output₂
    there = second (leg from capture output n e) output₂

    go : Dec (length output₂ < length capture) → take m (back from capture output n output₂).output ≡ capture
    go (yes h) =
        let x : back from capture output n output₂ ≡ converting (Err NoRoom) output₂ = there ∙ simp (lt-ltb (length output₂) (length capture) h) in
        let y : (Err NoRoom) ≡ Ok m = ap (λ (c : Converting). c.converted) (sym x) ∙ f in
        absurd (let z : ◌≡◌ {A = ℕ} 0 1 = cc in omega arith)
    go (no h) =
        let x : back from capture output n output₂ ≡ converting (Ok (length capture)) (capture ++ drop (length capture) output₂) =
        back-with-room from capture output output₂ n e (omega arith) in
        let y : Ok (length capture) ≡ Ok m = ap (λ (c : Converting). c.converted) (sym x) ∙ f in
        let k : length capture ≡ m = cc in
        ap (λ (c : Converting). take m c.output) x ∙ take_at capture (drop (length capture) output₂) m k
