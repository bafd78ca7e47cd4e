-- Seat 1 is skipped: the proofs of `SkipsSeatOne`, `OtherSeatStays` and `LeastOutput`. A record of seat 1 adds one to the records and nothing else to an upshot, and no
-- line of good records tells their number.
-- Assumes nothing.
use mathlib.Core.Bool.{Bool, false, true}
use mathlib.Core.List.{List, [], ◌++◌, ◌∷◌, append-nil}
use mathlib.Core.Path.{◌∙◌, ◌≡◌, ap, refl, sym}
use Prim.Native.Nat.{◌+◌, suc, zero, ℕ}
use native.Mathlib.Omega.{arith}
use lib.Dec.{eqb}
use borrow.Author.Tests.{eq-eqb}
use Rattle.replay_records.specs.declared.Halt.TheVariants as Halt
use Rattle.replay_records.specs.declared.Halt.TheVariants.{AtBadRecord, OutputFull}
use Rattle.replay_records.specs.declared.Halt.{Halt}
use Rattle.replay_capture.specs.declared.Record.TheVariants.{BytesRecord, GapRecord, OtherSeat}
use Rattle.replay_capture.specs.declared.BadRecord.{BadRecord}
use Rattle.replay_capture.specs.declared.Record.{Record}
use Rattle.part.specs.declared.refusal.Refusal.{Refusal}
use Rattle.chip_reply.specs.declared.Sent.{Sent}
use Rattle.std.specs.Prelude.{Err, Ok, Result}
use Rattle.claims_capture.proofs.Laid.{record-of-is}
use Rattle.claims_capture.proofs.Records.{records-only}
use Rattle.claims_capture.specs.Answers.{AllPass, records_from}
use Rattle.claims_capture.specs.Records.{Cut, RecordIs, is_bad, is_bytes, is_gap, is_other, next, none}
use Rattle.claims_replay.proofs.Pieces.{events_upshot, fresh-upshot, next_upshot, played_upshot, record_upshot, same-upshot, upshot_from, upshots-add}
use Rattle.claims_replay.specs.Pieces.{and_then, fresh_start, while_on}
use Rattle.claims_replay.specs.Printed.{Upshot, last_line, lines, printed}
use Rattle.claims_replay.specs.Seats.{LeastOutput, OtherSeatStays, SkipsSeatOne, end_to_end, seat_zero}
use Rattle.part.specs.declared.Part.{Part}
use Rattle.replay_capture.proofs.Laws.{good-is, size-least}
use Rattle.replay_capture.specs.Capture.{good_record, record_of, record_size, seat_of}
use Rattle.replay_capture.specs.declared.Form.{Form}
use Rattle.replay_play.proofs.Quiet.{other-quiet}
use Rattle.replay_play.specs.Play.{Playing, events_of, played}
use Rattle.replay_records.specs.Records.{replay_part}
use Rattle.words.specs.Words.{if◌then◌otherwise◌}

pub other-seat-stays : OtherSeatStays
other-seat-stays form p r c m room output e h = sym (other-quiet form p r c m room output h e)

pub least-output : LeastOutput
least-output = (refl, refl)

-- The records of seat 0 end to end are these records.
zero-cut : (form : Form) (rs : List (List ℕ)) → AllPass (good_record form) rs → Cut (record_size form) (end_to_end (seat_zero form rs)) (seat_zero form rs)
unfolding end_to_end seat_zero if◌then◌otherwise◌
zero-cut form [] a = none refl
zero-cut form (r ∷ rs) a = go (eqb (seat_of form r) 0) (zero-cut form rs (λ i h. a (suc i) (omega arith)))
  where
    go : (t : Bool) → Cut (record_size form) (end_to_end (seat_zero form rs)) (seat_zero form rs)
        → Cut (record_size form) (end_to_end (if t then r ∷ seat_zero form rs otherwise seat_zero form rs)) (if t then r ∷ seat_zero form rs otherwise seat_zero form rs)
    go true c = next r refl (good-is form r (a 0 (omega arith))).long c
    go false c = c

zero-records : (form : Form) (rs : List (List ℕ)) → AllPass (good_record form) rs → records_from form (end_to_end (seat_zero form rs)) ≡ seat_zero form rs
zero-records form rs a = records-only (record_size form) (end_to_end (seat_zero form rs)) (seat_zero form rs) (size-least form) (zero-cut form rs a)

-- An upshot but for the number of its records.
abbrev uncounted : Upshot → Upshot
uncounted x = record { ended = x.ended; records = 0; frames = x.frames; said = x.said; chip = x.chip; memory = x.memory; room = x.room }

-- One record more, and nothing else.
abbrev one_record : Upshot → Upshot
one_record g = record { ended = Ok tt; records = 1; frames = 0; said = []; chip = g.chip; memory = g.memory; room = g.room }

other-adds : (form : Form) (p : Part) (r : List ℕ) (g : Upshot) → record_of form r ≡ Ok OtherSeat → g.ended ≡ Ok tt → next_upshot form p r g ≡ and_then (one_record g) g
unfolding next_upshot record_upshot events_upshot played_upshot events_of played
other-adds form p r g e w =
    ap (λ (k : Result Record BadRecord). record_upshot form k p r g) e
    ∙ same-upshot (Ok tt) g.chip g.memory g.room (omega arith) (omega arith) (append-nil g.said)
    ∙ ap {B = Upshot}
    (λ (z : Result Unit Halt). record { ended = z; records = 1 + g.records; frames = 0 + g.frames; said = g.said; chip = g.chip; memory = g.memory; room = g.room }) (sym w)

uncounted-adds : (g h : Upshot) → uncounted (and_then (one_record g) h) ≡ uncounted h
uncounted-adds g h = same-upshot h.ended h.chip h.memory h.room refl (omega arith) refl

-- Good records never end as a bad one does.
played-good : (a : Result Sent Refusal) (y : Playing) (g : Upshot) → (played_upshot a y g).ended ≡ Err AtBadRecord → ⊥
unfolding played_upshot
played-good (Ok sent) y g e = let z : ◌≡◌ {A = ℕ} 0 1 = cc in omega arith
played-good (Err r) y g e = let z : ◌≡◌ {A = ℕ} 0 1 = cc in omega arith

good-next : (form : Form) (p : Part) (r : List ℕ) (g : Upshot) → good_record form r ≡ true → (next_upshot form p r g).ended ≡ Err AtBadRecord → ⊥
unfolding next_upshot record_upshot events_upshot
good-next form p r g h e = go (record_of form r) (record-of-is form r) e
  where
    go : (k : Result Record BadRecord) → RecordIs form r k → (record_upshot form k p r g).ended ≡ Err AtBadRecord → ⊥
    go (Ok GapRecord) x e = played-good _ _ g e
    go (Ok (BytesRecord n)) x e = played-good _ _ g e
    go (Ok OtherSeat) x e = played-good _ _ g e
    go (Err _) (is_bad b) e = let z : false ≡ true = sym b ∙ h in let y : ◌≡◌ {A = ℕ} 0 1 = cc in omega arith

upshots-good : (form : Form) (p : Part) (rs : List (List ℕ)) (g : Upshot) → AllPass (good_record form) rs → g.ended ≡ Ok tt → (upshot_from form p rs g).ended ≡ Err AtBadRecord → ⊥
unfolding upshot_from while_on
upshots-good form p [] g a w e = let z : ◌≡◌ {A = Result Unit Halt} (Ok tt) (Err AtBadRecord) = sym w ∙ e in let y : ◌≡◌ {A = ℕ} 0 1 = cc in omega arith
upshots-good form p (r ∷ rs) g a w e = go k.ended refl (λ v. upshots-good form p rs k (λ i h. a (suc i) (omega arith)) v) e
  where
    k : Upshot
    k = next_upshot form p r g

    go : (z : Result Unit Halt) → k.ended ≡ z → (k.ended ≡ Ok tt → (upshot_from form p rs k).ended ≡ Err AtBadRecord → ⊥) → (while_on z (upshot_from form p rs k) k).ended ≡ Err AtBadRecord → ⊥
    go (Ok _) v rest e = rest v e
    go (Err AtBadRecord) v rest e = good-next form p r g (a 0 (omega arith)) v
    go (Err OutputFull) v rest e = good-next form p r g (a 0 (omega arith)) e
    go (Err (Halt.Refused q)) v rest e = good-next form p r g (a 0 (omega arith)) e

-- What a record's seat says of it.
other-of : (form : Form) (r : List ℕ) → good_record form r ≡ true → eqb (seat_of form r) 0 ≡ false → record_of form r ≡ Ok OtherSeat
other-of form r h s = go (record_of form r) (record-of-is form r)
  where
    not-zero : seat_of form r ≡ 0 → ⊥
    not-zero e = let z : true ≡ false = sym (eq-eqb _ _ e) ∙ s in let y : ◌≡◌ {A = ℕ} 0 1 = cc in omega arith

    go : (k : Result Record BadRecord) → RecordIs form r k → k ≡ Ok OtherSeat
    go (Err _) (is_bad b) = absurd (let z : false ≡ true = sym b ∙ h in let y : ◌≡◌ {A = ℕ} 0 1 = cc in omega arith)
    go (Ok OtherSeat) (is_other g q) = refl
    go (Ok GapRecord) (is_gap g q k) = absurd (not-zero q)
    go (Ok (BytesRecord n)) (is_bytes g q k) = absurd (not-zero q)

-- Without the records of seat 1 the upshot is the same, but for their number.
skipped : (form : Form) (p : Part) (rs : List (List ℕ)) (g : Upshot) → AllPass (good_record form) rs → g.ended ≡ Ok tt
    → uncounted (upshot_from form p rs g) ≡ uncounted (upshot_from form p (seat_zero form rs) g)
unfolding upshot_from seat_zero while_on if◌then◌otherwise◌
skipped form p [] g a w = refl
skipped form p (r ∷ rs) g a w = go (eqb (seat_of form r) 0) refl (λ v. skipped form p rs k (λ i h. a (suc i) (omega arith)) v)
  where
    k : Upshot
    k = next_upshot form p r g

    kept : (z : Result Unit Halt) → k.ended ≡ z → (k.ended ≡ Ok tt → uncounted (upshot_from form p rs k) ≡ uncounted (upshot_from form p (seat_zero form rs) k))
        → uncounted (while_on z (upshot_from form p rs k) k) ≡ uncounted (while_on z (upshot_from form p (seat_zero form rs) k) k)
    kept (Ok _) v rest = rest v
    kept (Err AtBadRecord) v rest = refl
    kept (Err OutputFull) v rest = refl
    kept (Err (Halt.Refused q)) v rest = refl

    go : (t : Bool) → eqb (seat_of form r) 0 ≡ t → (k.ended ≡ Ok tt → uncounted (upshot_from form p rs k) ≡ uncounted (upshot_from form p (seat_zero form rs) k))
        → uncounted (while_on k.ended (upshot_from form p rs k) k) ≡ uncounted (upshot_from form p (if t then r ∷ seat_zero form rs otherwise seat_zero form rs) g)
    go true s rest = kept k.ended refl rest
    go false s rest =
        let e : k ≡ and_then (one_record g) g = other-adds form p r g (other-of form r (a 0 (omega arith)) s) w in
        let v : k.ended ≡ (Ok tt) = ap (λ (x : Upshot). x.ended) e ∙ w in
        ap (λ (z : Result Unit Halt). uncounted (while_on z (upshot_from form p rs k) k)) v
        ∙ rest v
        ∙ ap (λ (x : Upshot). uncounted (upshot_from form p (seat_zero form rs) x)) e
        ∙ ap uncounted (upshots-add form p (seat_zero form rs) (one_record g) g)
        ∙ uncounted-adds g (upshot_from form p (seat_zero form rs) g)

-- What is printed of an upshot that did not end at a bad record tells no number of records.
abbrev shown : Upshot → List ℕ
shown x = lines x.said ++ last_line x x.ended

last-uncounted : (x : Upshot) (e : Result Unit Halt) → (e ≡ Err AtBadRecord → ⊥) → last_line x e ≡ last_line (uncounted x) e
unfolding last_line
last-uncounted x (Ok _) h = refl
last-uncounted x (Err AtBadRecord) h = absurd (h refl)
last-uncounted x (Err OutputFull) h = refl
last-uncounted x (Err (Halt.Refused r)) h = refl

shown-uncounted : (x : Upshot) → (x.ended ≡ Err AtBadRecord → ⊥) → shown x ≡ shown (uncounted x)
shown-uncounted x h = ap (λ (l : List ℕ). lines x.said ++ l) (last-uncounted x x.ended h)

zero-good : (form : Form) (rs : List (List ℕ)) → AllPass (good_record form) rs → AllPass (good_record form) (seat_zero form rs)
unfolding seat_zero if◌then◌otherwise◌
zero-good form [] a = a
zero-good form (r ∷ rs) a = go (eqb (seat_of form r) 0) (zero-good form rs (λ i h. a (suc i) (omega arith)))
  where
    go : (t : Bool) → AllPass (good_record form) (seat_zero form rs) → AllPass (good_record form) (if t then r ∷ seat_zero form rs otherwise seat_zero form rs)
    go true b zero h = a 0 (omega arith)
    go true b (suc i) h = b i (omega arith)
    go false b i h = b i h

pub skips-seat-one : SkipsSeatOne
unfolding printed
skips-seat-one form capture a =
    let rs = records_from form capture in
    let whole : (upshot_from form replay_part rs fresh_start).ended ≡ Err AtBadRecord → ⊥ = upshots-good form replay_part rs fresh_start a refl in
    let part : (upshot_from form replay_part (seat_zero form rs) fresh_start).ended ≡ Err AtBadRecord → ⊥ =
    upshots-good form replay_part (seat_zero form rs) fresh_start (zero-good form rs a) refl in
    ap shown (fresh-upshot form capture)
    ∙ shown-uncounted (upshot_from form replay_part rs fresh_start) whole
    ∙ ap shown (skipped form replay_part rs fresh_start a refl)
    ∙ sym (shown-uncounted (upshot_from form replay_part (seat_zero form rs) fresh_start) part)
    ∙ sym
    (ap shown
    (fresh-upshot form (end_to_end (seat_zero form rs))
    ∙ ap (λ (ss : List (List ℕ)). upshot_from form replay_part ss fresh_start) (zero-records form rs a)))
