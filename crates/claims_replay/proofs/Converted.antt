-- A capture replayed in the other form: the proof of `SameLines`. A record and its rewriting have the same events, so records and their rewritings have the same
-- upshot.
-- Assumes nothing.
use mathlib.Core.Bool.{true}
use mathlib.Core.List.{List, [], ◌++◌, ◌∷◌, map}
use mathlib.Core.Path.{◌∙◌, ◌≡◌, ap, refl, sym}
use Prim.Native.Nat.{suc, ℕ}
use native.Mathlib.Omega.{arith}
use lib.ListN.{take}
use Rattle.chip.specs.declared.Event.{Event}
use Rattle.chip.specs.declared.Event.TheVariants.{Byte}
use Rattle.claims_capture.proofs.Answers.{answer-is}
use Rattle.claims_capture.proofs.Laid.{record-of-is}
use Rattle.claims_capture.proofs.Rewritten.{rewritten-is-same}
use Rattle.claims_capture.proofs.RoundTrip.{one-for-one}
use Rattle.claims_capture.specs.Answers.{AllPass, Answered, bad, no_room, not_held, records_from, wrote}
use Rattle.claims_capture.specs.Records.{RecordIs, is_bad, is_bytes, is_gap, is_other}
use Rattle.claims_capture.specs.Rewritten.{SameRecord}
use Rattle.claims_replay.proofs.Pieces.{fresh-upshot, next_upshot, record_upshot, events_upshot, upshot_from}
use Rattle.claims_replay.specs.Converted.{SameLines}
use Rattle.claims_replay.specs.Pieces.{fresh_start, while_on}
use Rattle.claims_replay.specs.Printed.{Upshot, last_line, lines, printed}
use Rattle.conversion.specs.Conversion.{Converting, convert_of, held_by_old, other, rewritten}
use Rattle.replay_capture.specs.declared.Record.TheVariants.{BytesRecord, GapRecord, OtherSeat}
use Rattle.replay_capture.specs.declared.BadRecord.{BadRecord}
use Rattle.replay_capture.specs.declared.Record.{Record}
use Rattle.std.specs.Prelude.{Err, Ok, Result}
use Rattle.part.specs.declared.Part.{Part}
use Rattle.replay_capture.specs.Capture.{carried_bytes, good_record, record_of}
use Rattle.replay_capture.specs.declared.Form.{Form}
use Rattle.replay_play.specs.Play.{events_of}
use Rattle.replay_records.specs.Records.{replay_part}

-- One record.
same-events : (from : Form) (r s : List ℕ) (e : Result Record BadRecord) → SameRecord from r s → RecordIs from r e → events_of (other from) e s ≡ events_of from e r
unfolding events_of
same-events from r s e x (is_bad g) = refl
same-events from r s e x (is_other g q) = refl
same-events from r s e x (is_gap g q k) = refl
same-events from r s e x (is_bytes g q k) =
    ap (λ (n : ℕ). map Byte (carried_bytes (other from) n s)) (sym x.same_count) ∙ ap (map Byte) x.carried

same_next : (from : Form) (p : Part) (r : List ℕ) (g : Upshot) → good_record from r ≡ true → held_by_old from r ≡ true
    → next_upshot (other from) p (rewritten from r) g ≡ next_upshot from p r g
unfolding next_upshot record_upshot
same_next from p r g good held =
    ap (λ (e : Result Record BadRecord). record_upshot (other from) e p s g) x.played ∙ go (record_of from r) (same-events from r s (record_of from r) x (record-of-is from r))
  where
    s : List ℕ
    s = rewritten from r

    x : SameRecord from r s
    x = rewritten-is-same from r good held

    go : (e : Result Record BadRecord) → events_of (other from) e s ≡ events_of from e r → record_upshot (other from) e p s g ≡ record_upshot from e p r g
    go (Ok GapRecord) h = ap (λ (vs : List Event). events_upshot p vs g) h
    go (Ok (BytesRecord n)) h = ap (λ (vs : List Event). events_upshot p vs g) h
    go (Ok OtherSeat) h = ap (λ (vs : List Event). events_upshot p vs g) h
    go (Err _) h = refl

-- Records one after the other.
same-upshots : (from : Form) (p : Part) (rs : List (List ℕ)) (g : Upshot) → AllPass (good_record from) rs → AllPass (held_by_old from) rs
    → upshot_from (other from) p (map (rewritten from) rs) g ≡ upshot_from from p rs g
unfolding upshot_from
same-upshots from p [] g a b = refl
same-upshots from p (r ∷ rs) g a b =
    let n = next_upshot from p r g in
    ap (λ (k : Upshot). while_on k.ended (upshot_from (other from) p (map (rewritten from) rs) k) k) (same_next from p r g (a 0 (omega arith)) (b 0 (omega arith)))
    ∙ ap (λ (k : Upshot). while_on n.ended k n) (same-upshots from p rs n (λ i h. a (suc i) (omega arith)) (λ i h. b (suc i) (omega arith)))

pub same_lines : SameLines
unfolding printed
same_lines from capture output n e = go (answer-is from capture output) e
  where
    shown : Upshot → List ℕ
    shown g = lines g.said ++ last_line g g.ended

    same : AllPass (good_record from) (records_from from capture) → AllPass (held_by_old from) (records_from from capture)
        → printed (other from) (take n (convert_of from capture output).output) ≡ printed from capture
    same a b =
        ap shown
        (fresh-upshot (other from) (take n (convert_of from capture output).output)
        ∙ ap (λ (rs : List (List ℕ)). upshot_from (other from) replay_part rs fresh_start) (one-for-one from capture output n e)
        ∙ same-upshots from replay_part (records_from from capture) fresh_start a b
        ∙ sym (fresh-upshot from capture))

    go : {x : Converting} → Answered from capture output x → x.converted ≡ Ok n
        → printed (other from) (take n (convert_of from capture output).output) ≡ printed from capture
    go (bad k y) p = absurd (let z : ◌≡◌ {A = ℕ} 0 1 = cc in omega arith)
    go (not_held k g y) p = absurd (let z : ◌≡◌ {A = ℕ} 0 1 = cc in omega arith)
    go (no_room g h k) p = absurd (let z : ◌≡◌ {A = ℕ} 0 1 = cc in omega arith)
    go (wrote g h k) p = same g h
