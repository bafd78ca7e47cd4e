-- How far the loop over a capture's records has come.
-- Assumes nothing.
use mathlib.Core.Bool.{false, true}
use mathlib.Core.List.{List, [], ◌++◌, append-nil}
use mathlib.Core.Path.{◌∙◌, ◌≡◌, ap, sym}
use Prim.Native.Nat.{◌+◌, ◌-◌, ◌<◌, ◌≤◌, min, ℕ}
use native.Mathlib.Nat.{add-zero}
use native.Mathlib.Omega.{arith}
use lib.ListN.{drop, drop_of_length-le, length, length-append, length-drop, take}
use lib.Seq.{length-take-le, take_all}
use Rattle.replay_capture.proofs.Laws.{records_is, records-none, size-least}
use Rattle.replay_capture.proofs.Records.{chunk_first, chunk_less}
use Rattle.replay_capture.specs.Capture.{record_size, records_in}
use Rattle.replay_capture.specs.declared.Form.{Form}
use Rattle.part.specs.Part.{Arrays}
use Rattle.chip_state.specs.declared.Chip.{Chip}
use Rattle.chip_core.specs.Effect.{Memory}
use Rattle.chip_core.specs.declared.Core.{Core}
use Rattle.part.specs.declared.Part.{Part}
use Rattle.replay_play.proofs.Laws.{Fits, play-fits}
use Rattle.replay_quiet.specs.Quiet.{chip_held}
use Rattle.replay_records.specs.Inner.Loop.{halt_of}
use Rattle.replay_records.specs.Records.{Replaying, after_record, next_by, replay_of, replayed_from, while_whole}
use Rattle.replay_play.specs.Play.{RecordPlaying, output_least, play_of}
use Rattle.chip_reply.specs.Reply.{sent_as}
use Rattle.replay_play.specs.declared.Unplayed.TheVariants.{NotGood, OutputShort}
use Rattle.replay_play.specs.declared.Unplayed.{Unplayed}
use Rattle.chip_reply.specs.declared.Sent.{Sent}
use Rattle.replay_records.specs.declared.Halt.{Halt}
use Rattle.std.specs.Prelude.{Err, Ok, Result}

-- The records before the bytes that are left are played, x is what they came to, and t is what the rest makes of it.
pub record ReplayedFrom (form : Form) (p : Part) (bs left : List ℕ) (x t : Replaying) : Type 0 where
  pub most : ℕ
  pub enough : length left ≤ most
  pub counted : x.records + length left ≤ length bs
  pub framed : x.frames ≤ x.bytes
  pub stands : x.bytes ≤ length x.output
  pub rest : replayed_from form p (records_in (record_size form) most left) x ≡ t

pub replayed-start : (form : Form) (p : Part) {left : List ℕ} (bs : List ℕ) (c : Chip) (m : Memory) (room output : List ℕ) → left ≡ bs
    → ReplayedFrom form p bs left (record { ended = Ok tt; records = 0; bytes = 0; frames = 0; chip = c; memory = m; room = room; output = output }) (replay_of form p bs c m room output)
unfolding replay_of
replayed-start form p bs c m room output e =
    let x : Replaying = record { ended = Ok tt; records = 0; bytes = 0; frames = 0; chip = c; memory = m; room = room; output = output } in
    rw e
    (record {
      most = length bs;
      enough = omega arith;
      counted = omega arith;
      framed = omega arith;
      stands = omega arith;
      rest = sym (ap (λ (rs : List (List ℕ)). replayed_from form p rs x) (records_is (record_size form) bs));
    })

-- The end of the output, lent as a part, goes out and comes back in these forms.
tail-out : (l : List ℕ) (n : ℕ) → take (length l - n) (drop n l) ≡ drop n l
tail-out l n = take_all (length l - n) (drop n l) (rw length-drop (omega arith))

tail-back : (l w : List ℕ) (n : ℕ) → take n l ++ (w ++ drop (length l - n) (drop n l)) ≡ take n l ++ w
tail-back l w n =
    let past : length (drop n l) ≤ length l - n = rw length-drop (omega arith) in
    ap (λ (z : List ℕ). take n l ++ z) (ap (λ (z : List ℕ). w ++ z) (drop_of_length-le (drop n l) past) ∙ append-nil w)

-- A record's turn, as the code calls it.
abbrev play_at : Form → Part → List ℕ → Replaying → RecordPlaying
play_at form p r x = play_of form p r x.chip x.memory x.room (take (length x.output - x.bytes) (drop x.bytes x.output))

-- A record comes off the front of the bytes that are left.
pub record Comes (form : Form) (left r next : List ℕ) : Type 0 where
  pub is : left ≡ r ++ next
  pub long : length r ≡ min (record_size form) (length left)
  pub some : 0 < length left

record-next : {form : Form} {p : Part} {bs left r next : List ℕ} {x t : Replaying} (u : RecordPlaying) (q : ReplayedFrom form p bs left x t) → Comes form left r next → u ≡ play_at form p r x
    → while_whole (next_by u.ended u x).ended (replayed_from form p (records_in (record_size form) (q.most - 1) next) (next_by u.ended u x)) (next_by u.ended u x) ≡ t
unfolding replayed_from
record-next {form} {p} {bs} {left} {r} {next} {x} {t} u q h e =
    let rs = records_in (record_size form) (q.most - 1) next in
    let v : u ≡ play_of form p r x.chip x.memory x.room (drop x.bytes x.output) = e ∙ ap (λ (l : List ℕ). play_of form p r x.chip x.memory x.room l) (tail-out x.output x.bytes) in
    ap (λ (w : RecordPlaying). while_whole (next_by w.ended w x).ended (replayed_from form p rs (next_by w.ended w x)) (next_by w.ended w x)) v
    ∙ sym (ap (λ (l : List (List ℕ)). replayed_from form p l x) (chunk_first (record_size form) q.most r next h.is h.long h.some q.enough))
    ∙ q.rest

-- What a turn leaves, as the code holds it.
abbrev after : Result Unit Halt → ℕ → ℕ → ℕ → RecordPlaying → Replaying → Replaying
after e records bytes frames u x =
    record {
      ended = e;
      records = records;
      bytes = bytes;
      frames = frames;
      chip = u.chip;
      memory = u.memory;
      room = u.room;
      output = take x.bytes x.output ++ (u.output ++ drop (length x.output - x.bytes) (drop x.bytes x.output));
    }

after_is : (e : Result Unit Halt) (records bytes frames : ℕ) (u : RecordPlaying) (x : Replaying)
    → after e (x.records + records) (x.bytes + bytes) (x.frames + frames) u x ≡ after_record e records bytes frames u x
after_is e records bytes frames u x =
    ap (λ (l : List ℕ). record {
      ended = e;
      records = x.records + records;
      bytes = x.bytes + bytes;
      frames = x.frames + frames;
      chip = u.chip;
      memory = u.memory;
      room = u.room;
      output = l;
    }) (tail-back x.output u.output x.bytes)

stopped-is : (e : Result Unit Halt) (u : RecordPlaying) (x : Replaying) → after e x.records x.bytes x.frames u x ≡ after_record e 0 0 0 u x
stopped-is e u x =
    ap (λ (n : ℕ). after e n x.bytes x.frames u x) (sym (add-zero x.records))
    ∙ ap (λ (n : ℕ). after e (x.records + 0) n x.frames u x) (sym (add-zero x.bytes))
    ∙ ap (λ (n : ℕ). after e (x.records + 0) (x.bytes + 0) n u x) (sym (add-zero x.frames))
    ∙ after_is e 0 0 0 u x

-- By how a turn ended.
goes : (form : Form) (p : Part) (rs : List (List ℕ)) (n k : ℕ) (a : Result Sent Unplayed) (u : RecordPlaying) (x : Replaying) → a ≡ Ok (sent_as n k)
    → while_whole (next_by a u x).ended (replayed_from form p rs (next_by a u x)) (next_by a u x) ≡ replayed_from form p rs (after_record (Ok tt) 1 n k u x)
unfolding while_whole next_by
goes form p rs n k a u x e = rw e

halts : (form : Form) (p : Part) (rs : List (List ℕ)) (v : Unplayed) (a : Result Sent Unplayed) (u : RecordPlaying) (x : Replaying) → a ≡ Err v
    → while_whole (next_by a u x).ended (replayed_from form p rs (next_by a u x)) (next_by a u x) ≡ after_record (Err (halt_of v)) 0 0 0 u x
unfolding while_whole next_by halt_of
halts form p rs NotGood a u x e = rw e
halts form p rs OutputShort a u x e = rw e
halts form p rs (Unplayed.Refused r) a u x e = rw e

pub replayed-halted : {form : Form} {p : Part} {bs left r next : List ℕ} {x t : Replaying} {v : Unplayed} {h : Halt} (u : RecordPlaying)
    → ReplayedFrom form p bs left x t → Comes form left r next → u ≡ play_at form p r x → u.ended ≡ Err v → h ≡ halt_of v → after (Err h) x.records x.bytes x.frames u x ≡ t
replayed-halted {form} {p} {bs} {left} {r} {next} {x} {t} {v} {h} u q k e z i =
    rw i (stopped-is (Err (halt_of v)) u x ∙ sym (halts form p _ v u.ended u x z) ∙ record-next u q k e)

-- What a turn says lies in the output.
pub turn-lies : {form : Form} {p : Part} {bs left : List ℕ} {x t : Replaying} {n k : ℕ} (r : List ℕ) (u : RecordPlaying)
    → ReplayedFrom form p bs left x t → Arrays p → u ≡ play_at form p r x → u.ended ≡ Ok (sent_as n k) → (x.bytes + n ≤ length x.output) × (k ≤ n)
turn-lies {form} {p} {bs} {left} {x} {t} {n} {k} r u q a e z =
    let l = take (length x.output - x.bytes) (drop x.bytes x.output) in
    let f : Fits (output_least form) u.ended (length l) = rw e (play-fits form p r x.chip x.memory x.room l a) in
    let w : length l ≡ length x.output - x.bytes = ap length (tail-out x.output x.bytes) ∙ length-drop x.bytes x.output in
    (omega (arith, f.bytes n k z, q.stands, w), f.frames n k z)

pub output-kept : {form : Form} {p : Part} {bs left : List ℕ} {x t : Replaying} (r : List ℕ) (u : RecordPlaying) → ReplayedFrom form p bs left x t → u ≡ play_at form p r x
    → length u.output ≡ length (take (length x.output - x.bytes) (drop x.bytes x.output))
    → length (take x.bytes x.output ++ (u.output ++ drop (length x.output - x.bytes) (drop x.bytes x.output))) ≡ length x.output
output-kept {form} {p} {bs} {left} {x} {t} r u q e l =
    let v : length u.output ≡ length x.output - x.bytes = l ∙ ap length (tail-out x.output x.bytes) ∙ length-drop x.bytes x.output in
    rw (tail-back x.output u.output x.bytes, length-append, length-take-le x.bytes x.output q.stands) (omega (arith, v, q.stands))

pub replayed-turn : {form : Form} {p : Part} {bs left : List ℕ} {x t : Replaying} {n k : ℕ} (r next : List ℕ) (u : RecordPlaying)
    → ReplayedFrom form p bs left x t → Arrays p → Comes form left r next → u ≡ play_at form p r x
    → u.ended ≡ Ok (sent_as n k) → length (after (Ok tt) (x.records + 1) (x.bytes + n) (x.frames + k) u x).output ≡ length x.output
    → ReplayedFrom form p bs next (after (Ok tt) (x.records + 1) (x.bytes + n) (x.frames + k) u x) t
replayed-turn {form} {p} {bs} {left} {x} {t} {n} {k} r next u q a h e z long =
    let s = turn-lies r u q a e z in
    let less : length next + 1 ≤ length left = chunk_less (record_size form) r next h.is h.long h.some (size-least form) in
    record {
      most = q.most - 1;
      enough = omega (arith, q.enough, less);
      counted = omega (arith, q.counted, less);
      framed = omega (arith, q.framed, s.1);
      stands = omega (arith, s.0, long);
      rest =
          ap (λ (y : Replaying). replayed_from form p (records_in (record_size form) (q.most - 1) next) y) (after_is (Ok tt) 1 n k u x)
          ∙ sym (goes form p (records_in (record_size form) (q.most - 1) next) n k u.ended u x z)
          ∙ record-next u q h e;
    }

-- Nothing is known before the first verdict, and after a play.
pub never : {A : Type 0} → false ≡ true → A
never e = absurd (let z : ◌≡◌ {A = ℕ} 0 1 = cc in omega arith)

-- A record that is not quiet is played on the chip as it was.
pub same-held : (form : Form) (p : Part) (bs held old : List ℕ) (k : Core) (n : ℕ) (m : Memory) (room output : List ℕ) (u : RecordPlaying) → u ≡ play_of form p bs (chip_held k held n) m room output → held ≡ old
    → u ≡ play_of form p bs (chip_held k old n) m room output
same-held form p bs held old k n m room output u e h = e ∙ ap (λ (l : List ℕ). play_of form p bs (chip_held k l n) m room output) h

pub replayed-end : {form : Form} {p : Part} {bs left : List ℕ} {x t : Replaying} → ReplayedFrom form p bs left x t → length left ≡ 0 → x ≡ t
unfolding replayed_from
replayed-end {form} {p} {bs} {left} {x} {t} q h =
    let none : records_in (record_size form) q.most left ≡ [] = ap (records_in (record_size form) q.most) (drop_of_length-le left {i = 0} (omega arith)) ∙ records-none (record_size form) q.most in
    sym (ap (λ (rs : List (List ℕ)). replayed_from form p rs x) none) ∙ q.rest
