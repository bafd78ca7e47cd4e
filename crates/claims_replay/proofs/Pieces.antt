-- A capture in pieces: the proofs of `InPieces`, `PiecesStand` and `PrintedInPieces`. An upshot is followed record by record, without the output; with enough output a
-- replay has that upshot, and upshots of records one after the other add up.
-- Assumes nothing.
use mathlib.Core.List.{List, [], ◌++◌, ◌∷◌, append_assoc, append-nil, map}
use mathlib.Core.Path.{◌∙◌, ◌≡◌, ap, refl, subst, sym}
use Prim.Native.Nat.{◌*◌, ◌+◌, ◌-◌, ◌≤◌, suc, zero, ℕ}
use native.Mathlib.Omega.{arith}
use lib.ListN.{drop, length, length-append, length-drop, length-replicate, replicate, take}
use lib.Seq.{drop-append_seam, length-take-le, take-append-add, take-append_seam}
use borrow.Author.Tests.{le-ltb}
use Rattle.replay_capture.specs.Capture.{carried_bytes, head_size, record_of, record_size, records_in, records_of}
use Rattle.replay_capture.specs.declared.Form.{Form}
use Rattle.replay_capture.specs.declared.Form.TheVariants.{New, Old}
use Rattle.claims_capture.proofs.Records.{records-append}
use Rattle.chip_reply.specs.Reply.{sent_as}
use Rattle.replay_play.specs.declared.Unplayed.TheVariants as Unplayed
use Rattle.replay_play.specs.declared.Unplayed.TheVariants.{NotGood, OutputShort}
use Rattle.replay_play.specs.declared.Unplayed.{Unplayed}
use Rattle.replay_records.specs.declared.Halt.TheVariants as Halt
use Rattle.replay_records.specs.declared.Halt.TheVariants.{AtBadRecord, OutputFull}
use Rattle.replay_records.specs.declared.Halt.{Halt}
use Rattle.part.specs.declared.refusal.Refusal.{Refusal}
use Rattle.chip_reply.specs.declared.Sent.{Sent}
use Rattle.replay_capture.specs.declared.Record.TheVariants.{BytesRecord, GapRecord, OtherSeat}
use Rattle.replay_capture.specs.declared.BadRecord.{BadRecord}
use Rattle.replay_capture.specs.declared.Record.{Record}
use Rattle.std.specs.Prelude.{Err, Ok, Result}
use Rattle.chip.specs.Run.{before}
use Rattle.chip.specs.Step.{fresh_chip}
use Rattle.chip.specs.declared.Event.{Event}
use Rattle.chip.specs.declared.Event.TheVariants.{Byte, Gap}
use Rattle.chip_state.specs.declared.Chip.{Chip}
use Rattle.chip_core.specs.Effect.{Memory}
use Rattle.claims_stars.specs.Table.{fresh_memory}
use Rattle.claims_good.proofs.Fresh.{fresh-stands, the-part-is}
use Rattle.claims_good.specs.Good.{AllProper, Stands, a_gap, and_event, no_event}
use Rattle.claims_replay.proofs.Lines.{FramesIn, frames-append, lines-append, no_frame, played-frames}
use Rattle.claims_replay.proofs.NeverRefused.{AllBelow, again, all-bytes, and_record, no_record, plays, records-below, replay-unhalted}
use Rattle.claims_replay.specs.Cases.{first_piece, second_piece}
use Rattle.claims_replay.specs.Printed.{Upshot, fresh_replay, last_line, lines, lines_in, printed, upshot_of}
use Rattle.claims_replay.specs.Pieces.{InPieces, Piece, Pieces, PiecesStand, PrintedInPieces, and_piece, and_then, fresh_start, in_pieces, joined}
use Rattle.claims_replay.specs.Pieces.{last_piece, lines_in_pieces, no_piece, of_piece, only_on, printed_in_pieces, beginning, while_on, with_piece}
use Rattle.frame.proofs.Laws.Sum.{Below, below-drop, below-take}
use Rattle.part.specs.Part.{Arrays, block_size}
use Rattle.part.specs.declared.Part.{Part}
use Rattle.replay_play.proofs.Laws.{play-fits, play-keeps}
use Rattle.replay_records.specs.Records.{Replaying, after_record, next_by, next_of, replay_of, replay_part, replayed_from, while_whole}
use Rattle.replay_play.specs.Play.{Playing, RecordPlaying, before_playing, ended_by, events_of, output_least, play_by, play_of, play_with, played, played_into}
use Rattle.words.specs.Words.{if◌then◌otherwise◌}

-- The upshot of one more record.
unfoldable pub played_upshot : Result Sent Refusal → Playing → Upshot → Upshot
played_upshot (Ok sent) y g =
    record {
      ended = Ok tt;
      records = g.records + 1;
      frames = g.frames + y.frames;
      said = g.said ++ y.said;
      chip = y.left.chip;
      memory = y.left.memory;
      room = y.left.room;
    }
played_upshot (Err r) y g =
    record {
      ended = Err (Halt.Refused r);
      records = g.records + 0;
      frames = g.frames + 0;
      said = g.said;
      chip = y.left.chip;
      memory = y.left.memory;
      room = y.left.room;
    }

unfoldable pub events_upshot : Part → List Event → Upshot → Upshot
events_upshot p vs g = let y = played p vs (before_playing g.chip g.memory g.room) in played_upshot y.left.answer y g

unfoldable pub record_upshot : Form → Result Record BadRecord → Part → List ℕ → Upshot → Upshot
record_upshot form (Ok GapRecord) p bs g = events_upshot p (events_of form (Ok GapRecord) bs) g
record_upshot form (Ok (BytesRecord n)) p bs g = events_upshot p (events_of form (Ok (BytesRecord n)) bs) g
record_upshot form (Ok OtherSeat) p bs g = events_upshot p (events_of form (Ok OtherSeat) bs) g
record_upshot form (Err _) p bs g =
    record {
      ended = Err AtBadRecord;
      records = g.records + 0;
      frames = g.frames + 0;
      said = g.said;
      chip = g.chip;
      memory = g.memory;
      room = g.room;
    }

unfoldable pub next_upshot : Form → Part → List ℕ → Upshot → Upshot
next_upshot form p r g = record_upshot form (record_of form r) p r g

unfoldable pub upshot_from : Form → Part → List (List ℕ) → Upshot → Upshot
upshot_from form p [] g = g
upshot_from form p (r ∷ rs) g = while_on (next_upshot form p r g).ended (upshot_from form p rs (next_upshot form p r g)) (next_upshot form p r g)

-- Two upshots that agree in what they count and say.
pub same-upshot : (e : Result Unit Halt) (c : Chip) (m : Memory) (room : List ℕ) {i j k l : ℕ} {s t : List ℕ} → i ≡ j → k ≡ l → s ≡ t
    → ◌≡◌ {A = Upshot} (record { ended = e; records = i; frames = k; said = s; chip = c; memory = m; room = room })
    (record { ended = e; records = j; frames = l; said = t; chip = c; memory = m; room = room })
same-upshot e c m room p q r = rw (p, q, r)

-- The output's first bytes after a record's replies.
grown : (l z : List ℕ) (b n : ℕ) → b ≤ length l → take (b + n) (take b l ++ z) ≡ take b l ++ take n z
grown l z b n h =
    ap (λ (k : ℕ). take (k + n) (take b l ++ z)) (sym (length-take-le b l h)) ∙ take-append-add (take b l) z n

grown-none : (l z : List ℕ) (b : ℕ) → b ≤ length l → take (b + 0) (take b l ++ z) ≡ take b l
grown-none l z b h = grown l z b 0 h ∙ append-nil (take b l)

module _ (form : Form) (p : Part) (r : List ℕ) (x : Replaying) (within : x.bytes ≤ length x.output) (roomy : output_least form ≤ length (drop x.bytes x.output)) where
  rest : List ℕ
  rest = drop x.bytes x.output

  played-upshot : (a : Result Sent Refusal) (y : Playing) → upshot_of (next_by (ended_by a y) (played_into y rest) x) ≡ played_upshot a y (upshot_of x)
  unfolding next_by ended_by played_into played_upshot
  played-upshot (Ok sent) y =
      same-upshot (Ok tt) _ _ _ refl refl
      (grown x.output (y.said ++ drop (length y.said) rest) x.bytes (length y.said) within
      ∙ ap (λ (s : List ℕ). take x.bytes x.output ++ s) (take-append_seam y.said (drop (length y.said) rest)))
  played-upshot (Err q) y = same-upshot (Err (Halt.Refused q)) _ _ _ refl refl (grown-none x.output _ x.bytes within)

  events-upshot : (vs : List Event) → let t = play_with form vs p x.chip x.memory x.room rest in upshot_of (next_by t.ended t x) ≡ events_upshot p vs (upshot_of x)
  unfolding rest play_with played_into events_upshot if◌then◌otherwise◌
  events-upshot vs =
      let y = played p vs (before_playing x.chip x.memory x.room) in
      rw (le-ltb (length (drop x.bytes x.output)) (output_least form) roomy) (played-upshot y.left.answer y)

  record-upshot : (k : Result Record BadRecord) → let t = play_by form k p r x.chip x.memory x.room rest in upshot_of (next_by t.ended t x) ≡ record_upshot form k p r (upshot_of x)
  unfolding play_by record_upshot next_by
  record-upshot (Ok GapRecord) = events-upshot (events_of form (Ok GapRecord) r)
  record-upshot (Ok (BytesRecord n)) = events-upshot (events_of form (Ok (BytesRecord n)) r)
  record-upshot (Ok OtherSeat) = events-upshot (events_of form (Ok OtherSeat) r)
  record-upshot (Err _) = same-upshot (Err AtBadRecord) _ _ _ refl refl (grown-none x.output rest x.bytes within)

  next-upshot : upshot_of (next_of form p r x) ≡ next_upshot form p r (upshot_of x)
  unfolding rest play_of next_upshot
  next-upshot = record-upshot (record_of form r)

-- Output with room for the replies of the records to come.
record Enough (form : Form) (rs : List (List ℕ)) (x : Replaying) : Type 0 where
  within : x.bytes ≤ length x.output
  enough : output_least form * length rs + x.bytes ≤ length x.output

room-left : (form : Form) (r : List ℕ) (rs : List (List ℕ)) (x : Replaying) → Enough form (r ∷ rs) x → output_least form ≤ length (drop x.bytes x.output)
room-left form r rs x g = omega (arith, length-drop x.bytes x.output, g.enough)

enough-next : (form : Form) (p : Part) (r : List ℕ) (rs : List (List ℕ)) (x : Replaying) (n k : ℕ) → Arrays p → Enough form (r ∷ rs) x
    → (play_of form p r x.chip x.memory x.room (drop x.bytes x.output)).ended ≡ Ok (sent_as n k)
    → Enough form rs (after_record (Ok tt) 1 n k (play_of form p r x.chip x.memory x.room (drop x.bytes x.output)) x)
enough-next form p r rs x n k a g e =
    let l = drop x.bytes x.output in
    let w : length l ≡ length x.output - x.bytes = length-drop x.bytes x.output in
    let t = play_of form p r x.chip x.memory x.room l in
    let f = play-fits form p r x.chip x.memory x.room l a in
    let o : length (take x.bytes x.output ++ t.output) ≡ length x.output =
    length-append (take x.bytes x.output) t.output
    ∙ (rw (length-take-le x.bytes x.output g.within, play-keeps form p r x.chip x.memory x.room l a) (omega (arith, w, g.within))) in
    record { within = omega (arith, o, w, f.bytes n k e, g.within); enough = omega (arith, o, g.enough, f.short n k e) }

-- A replay with enough output has the upshot of its records.
abbrev then_upshot : Form → Part → List (List ℕ) → Upshot → Upshot
then_upshot form p rs g = while_on g.ended (upshot_from form p rs g) g

replayed-upshot : (form : Form) (p : Part) (rs : List (List ℕ)) (x : Replaying) → Arrays p → Enough form rs x → upshot_of (replayed_from form p rs x) ≡ upshot_from form p rs (upshot_of x)
unfolding replayed_from upshot_from while_whole next_by while_on
replayed-upshot form p [] x a g = refl
replayed-upshot form p (r ∷ rs) x a g =
    go t.ended refl (λ y w. replayed-upshot form p rs y a w)
    ∙ ap (then_upshot form p rs) (next-upshot form p r x g.within (room-left form r rs x g))
  where
    t : RecordPlaying
    t = play_of form p r x.chip x.memory x.room (drop x.bytes x.output)

    go : (b : Result Sent Unplayed) → t.ended ≡ b → ((y : Replaying) → Enough form rs y → upshot_of (replayed_from form p rs y) ≡ upshot_from form p rs (upshot_of y))
        → upshot_of (while_whole (next_by b t x).ended (replayed_from form p rs (next_by b t x)) (next_by b t x)) ≡ then_upshot form p rs (upshot_of (next_by b t x))
    go (Ok sent) e rest = rest (after_record (Ok tt) 1 sent.bytes sent.frames t x) (enough-next form p r rs x sent.bytes sent.frames a g e)
    go (Err NotGood) e rest = refl
    go (Err OutputShort) e rest = refl
    go (Err (Unplayed.Refused s)) e rest = refl

replay-upshot : (form : Form) (p : Part) (capture : List ℕ) (c : Chip) (m : Memory) (room output : List ℕ) → Arrays p → output_least form * length (records_of (record_size form) capture) ≤ length output
    → upshot_of (replay_of form p capture c m room output) ≡ upshot_from form p (records_of (record_size form) capture) (beginning c m room)
unfolding replay_of
replay-upshot form p capture c m room output a h =
    replayed-upshot form p (records_of (record_size form) capture)
    (record { ended = Ok tt; records = 0; bytes = 0; frames = 0; chip = c; memory = m; room = room; output = output }) a
    (record { within = omega arith; enough = omega (arith, h) })

-- Upshots add up: what came before a record has no part in what it adds.
played-adds : (a : Result Sent Refusal) (y : Playing) (g h : Upshot) → played_upshot a y (and_then g h) ≡ and_then g (played_upshot a y h)
unfolding played_upshot
played-adds (Ok sent) y g h = same-upshot (Ok tt) _ _ _ (omega arith) (omega arith) (append_assoc g.said h.said y.said)
played-adds (Err r) y g h = same-upshot (Err (Halt.Refused r)) _ _ _ (omega arith) (omega arith) refl

record-adds : (form : Form) (k : Result Record BadRecord) (p : Part) (r : List ℕ) (g h : Upshot) → record_upshot form k p r (and_then g h) ≡ and_then g (record_upshot form k p r h)
unfolding record_upshot events_upshot
record-adds form (Ok GapRecord) p r g h = played-adds _ _ g h
record-adds form (Ok (BytesRecord n)) p r g h = played-adds _ _ g h
record-adds form (Ok OtherSeat) p r g h = played-adds _ _ g h
record-adds form (Err _) p r g h = same-upshot (Err AtBadRecord) _ _ _ (omega arith) (omega arith) refl

while-adds : (e : Result Unit Halt) (g x y : Upshot) → while_on e (and_then g x) (and_then g y) ≡ and_then g (while_on e x y)
unfolding while_on
while-adds (Ok _) g x y = refl
while-adds (Err AtBadRecord) g x y = refl
while-adds (Err OutputFull) g x y = refl
while-adds (Err (Halt.Refused r)) g x y = refl

next-adds : (form : Form) (p : Part) (r : List ℕ) (g h : Upshot) → next_upshot form p r (and_then g h) ≡ and_then g (next_upshot form p r h)
unfolding next_upshot
next-adds form p r g h = record-adds form (record_of form r) p r g h

pub upshots-add : (form : Form) (p : Part) (rs : List (List ℕ)) (g h : Upshot) → upshot_from form p rs (and_then g h) ≡ and_then g (upshot_from form p rs h)
unfolding upshot_from
upshots-add form p [] g h = refl
upshots-add form p (r ∷ rs) g h =
    let k = next_upshot form p r h in
    ap (then_upshot form p rs) (next-adds form p r g h)
    ∙ ap (λ (z : Upshot). while_on k.ended z (and_then g k)) (upshots-add form p rs g k)
    ∙ while-adds k.ended g (upshot_from form p rs k) k

-- Records and then more records.
upshots-append : (form : Form) (p : Part) (rs ss : List (List ℕ)) (g : Upshot) → g.ended ≡ Ok tt → upshot_from form p (rs ++ ss) g ≡ then_upshot form p ss (upshot_from form p rs g)
unfolding upshot_from while_on
upshots-append form p [] ss g e = sym (ap (λ (z : Result Unit Halt). while_on z (upshot_from form p ss g) g) e)
upshots-append form p (r ∷ rs) ss g e = go k.ended refl (λ q. upshots-append form p rs ss k q)
  where
    k : Upshot
    k = next_upshot form p r g

    go : (z : Result Unit Halt) → k.ended ≡ z → (k.ended ≡ Ok tt → upshot_from form p (rs ++ ss) k ≡ then_upshot form p ss (upshot_from form p rs k))
        → while_on z (upshot_from form p (rs ++ ss) k) k ≡ then_upshot form p ss (while_on z (upshot_from form p rs k) k)
    go (Ok _) q next = next q
    go (Err AtBadRecord) q next = sym (ap (λ (z : Result Unit Halt). while_on z (upshot_from form p ss k) k) q)
    go (Err OutputFull) q next = sym (ap (λ (z : Result Unit Halt). while_on z (upshot_from form p ss k) k) q)
    go (Err (Halt.Refused x)) q next = sym (ap (λ (z : Result Unit Halt). while_on z (upshot_from form p ss k) k) q)

-- One more piece is its records.
and-start : (g : Upshot) → g.ended ≡ Ok tt → and_then g (beginning g.chip g.memory g.room) ≡ g
and-start g e =
    same-upshot (Ok tt) g.chip g.memory g.room (omega arith) (omega arith) (append-nil g.said)
    ∙ ap {B = Upshot}
    (λ (z : Result Unit Halt). record { ended = z; records = g.records; frames = g.frames; said = g.said; chip = g.chip; memory = g.memory; room = g.room }) (sym e)

piece-upshot : (form : Form) (p : Part) (g : Upshot) (q : Piece) → Arrays p → g.ended ≡ Ok tt → output_least form * length (records_of (record_size form) q.capture) ≤ length q.output
    → with_piece form p g q ≡ upshot_from form p (records_of (record_size form) q.capture) g
piece-upshot form p g q a e h =
    ap (λ (x : Upshot). and_then g x) (replay-upshot form p q.capture g.chip g.memory g.room q.output a h)
    ∙ sym (upshots-add form p (records_of (record_size form) q.capture) g (beginning g.chip g.memory g.room))
    ∙ ap (upshot_from form p (records_of (record_size form) q.capture)) (and-start g e)

while-same : (e : Result Unit Halt) (g : Upshot) → while_on e g g ≡ g
unfolding while_on
while-same (Ok _) g = refl
while-same (Err AtBadRecord) g = refl
while-same (Err OutputFull) g = refl
while-same (Err (Halt.Refused r)) g = refl

pieces-upshot : (form : Form) (p : Part) (qs : List Piece) (g : Upshot) → Arrays p → Pieces form qs → g.ended ≡ Ok tt → in_pieces form p qs g ≡ upshot_from form p (records_of (record_size form) (joined qs)) g
unfolding in_pieces joined records_of records_in upshot_from while_on
pieces-upshot form p [] g a no_piece e = refl
pieces-upshot form p (q ∷ []) g a (last_piece x h) e =
    while-same (with_piece form p g q).ended (with_piece form p g q)
    ∙ piece-upshot form p g q a e h
    ∙ ap (λ (bs : List ℕ). upshot_from form p (records_of (record_size form) bs) g) (sym (append-nil q.capture))
pieces-upshot form p (q ∷ qs) g a (and_piece x xs w h r) e =
    ap (λ (z : Upshot). while_on z.ended (in_pieces form p qs z) z) (piece-upshot form p g q a e h)
    ∙ go k.ended refl (λ z. pieces-upshot form p qs k a r z)
    ∙ sym (upshots-append form p (records_of (record_size form) q.capture) (records_of (record_size form) (joined qs)) g e)
    ∙ ap (λ (rs : List (List ℕ)). upshot_from form p rs g) (sym (records-append form q.capture (joined qs) w))
  where
    k : Upshot
    k = upshot_from form p (records_of (record_size form) q.capture) g

    go : (z : Result Unit Halt) → k.ended ≡ z → (k.ended ≡ Ok tt → in_pieces form p qs k ≡ upshot_from form p (records_of (record_size form) (joined qs)) k)
        → while_on z (in_pieces form p qs k) k ≡ while_on z (upshot_from form p (records_of (record_size form) (joined qs)) k) k
    go (Ok _) y next = next y
    go (Err AtBadRecord) y next = refl
    go (Err OutputFull) y next = refl
    go (Err (Halt.Refused x)) y next = refl

pub in-pieces : InPieces
in-pieces form p qs c m room output a r h =
    pieces-upshot form p qs (beginning c m room) a r refl ∙ sym (replay-upshot form p (joined qs) c m room output a h)

pub pieces-stand : PiecesStand
pieces-stand form p qs c m room s b r =
    let n : ℕ = output_least form * length (records_of (record_size form) (joined qs)) in
    let output : List ℕ = replicate n 0 in
    let h : n ≤ length output = omega (arith, length-replicate {A = ℕ} n 0) in
    let u = replay-unhalted form p (joined qs) c m room output s b h in
    rw (in-pieces form p qs c m room output s.arrays r h) (record { stands = u.stands; unrefused = u.unrefused })

-- An upshot of whole frames and a chip that stands stays one.
record Kept (p : Part) (g : Upshot) : Type 0 where
  stands : Stands p (before g.chip g.memory g.room)
  frames : FramesIn g.said

played-kept : (p : Part) (a : Result Sent Refusal) (y : Playing) (g : Upshot) → Stands p y.left → FramesIn y.said → Kept p g → Kept p (played_upshot a y g)
unfolding played_upshot
played-kept p (Ok sent) y g s f k = record { stands = again s; frames = frames-append k.frames f }
played-kept p (Err r) y g s f k = record { stands = again s; frames = k.frames }

events-kept : (p : Part) (vs : List Event) (g : Upshot) → AllProper vs → Kept p g → Kept p (events_upshot p vs g)
unfolding events_upshot
events-kept p vs g q k =
    let b = before_playing g.chip g.memory g.room in
    let w = plays p vs b (record { bytes = 0; frames = 0; replied = refl; stands = k.stands }) q in
    played-kept p _ (played p vs b) g w.stands (played-frames p vs b k.stands q no_frame) k

record-kept : (form : Form) (e : Result Record BadRecord) (p : Part) (r : List ℕ) (g : Upshot) → Below 256 r → Kept p g → Kept p (record_upshot form e p r g)
unfolding record_upshot events_of
record-kept form (Ok GapRecord) p r g b k = events-kept p (Gap ∷ []) g (and_event a_gap no_event) k
record-kept form (Ok (BytesRecord n)) p r g b k =
    events-kept p (map Byte (carried_bytes form n r)) g (all-bytes (carried_bytes form n r) (below-take 256 n (below-drop 256 (head_size form) b))) k
record-kept form (Ok OtherSeat) p r g b k = events-kept p [] g no_event k
record-kept form (Err _) p r g b k = record { stands = k.stands; frames = k.frames }

while-kept : (p : Part) (e : Result Unit Halt) (x y : Upshot) → Kept p x → Kept p y → Kept p (while_on e x y)
unfolding while_on
while-kept p (Ok _) x y k l = k
while-kept p (Err AtBadRecord) x y k l = l
while-kept p (Err OutputFull) x y k l = l
while-kept p (Err (Halt.Refused r)) x y k l = l

upshots-kept : (form : Form) (p : Part) (rs : List (List ℕ)) (g : Upshot) → AllBelow rs → Kept p g → Kept p (upshot_from form p rs g)
unfolding upshot_from next_upshot
upshots-kept form p [] g no_record k = k
upshots-kept form p (r ∷ rs) g (and_record b bs) k =
    let l = record-kept form (record_of form r) p r g b k in
    while-kept p _ _ _ (upshots-kept form p rs (next_upshot form p r g) bs l) l

capture-kept : (form : Form) (p : Part) (capture : List ℕ) (g : Upshot) → Below 256 capture → Kept p g → Kept p (upshot_from form p (records_of (record_size form) capture) g)
unfolding records_of
capture-kept form p capture g b k = upshots-kept form p (records_in (record_size form) (length capture) capture) g (records-below (record_size form) (length capture) capture b) k

-- The lines of the pieces.
module _ (form : Form) (p : Part) (q : Piece) (qs : List Piece) (g : Upshot) (kept : Kept p g) (e : g.ended ≡ Ok tt)
    (h : output_least form * length (records_of (record_size form) q.capture) ≤ length q.output) (b : Below 256 q.capture)
    (rest : (k : Upshot) → Kept p k → k.ended ≡ Ok tt → lines k.said ++ lines_in_pieces form p qs k ≡ lines (in_pieces form p qs k).said) where
  piece-kept : Kept p (with_piece form p g q)
  piece-kept = rw (piece-upshot form p g q kept.stands.arrays e h) (capture-kept form p q.capture g b kept)

  piece-lines : lines g.said ++ lines_in_pieces form p (q ∷ qs) g ≡ lines (in_pieces form p (q ∷ qs) g).said
  unfolding lines_in_pieces in_pieces only_on while_on
  piece-lines = go k.ended refl
    where
      k : Upshot
      k = with_piece form p g q

      shown : lines k.said ≡ lines g.said ++ lines (of_piece form p g q).said
      shown = lines-append kept.frames (of_piece form p g q).said

      go : (z : Result Unit Halt) → k.ended ≡ z
          → lines g.said ++ (lines (of_piece form p g q).said ++ only_on z (lines_in_pieces form p qs k)) ≡ lines (while_on z (in_pieces form p qs k) k).said
      go (Ok _) y =
          sym (append_assoc (lines g.said) (lines (of_piece form p g q).said) (lines_in_pieces form p qs k))
          ∙ ap (λ (t : List ℕ). t ++ lines_in_pieces form p qs k) (sym shown)
          ∙ rest k piece-kept y
      go (Err AtBadRecord) y = ap (λ (t : List ℕ). lines g.said ++ t) (append-nil (lines (of_piece form p g q).said)) ∙ sym shown
      go (Err OutputFull) y = ap (λ (t : List ℕ). lines g.said ++ t) (append-nil (lines (of_piece form p g q).said)) ∙ sym shown
      go (Err (Halt.Refused r)) y = ap (λ (t : List ℕ). lines g.said ++ t) (append-nil (lines (of_piece form p g q).said)) ∙ sym shown

below-front : (xs ys : List ℕ) → Below 256 (xs ++ ys) → Below 256 xs
below-front xs ys b = subst (λ (l : List ℕ). Below 256 l) (take-append_seam xs ys) (below-take 256 (length xs) b)

below-back : (xs ys : List ℕ) → Below 256 (xs ++ ys) → Below 256 ys
below-back xs ys b = subst (λ (l : List ℕ). Below 256 l) (drop-append_seam xs ys) (below-drop 256 (length xs) b)

pieces-lines : (form : Form) (p : Part) (qs : List Piece) (g : Upshot) → Pieces form qs → Below 256 (joined qs) → Kept p g → g.ended ≡ Ok tt
    → lines g.said ++ lines_in_pieces form p qs g ≡ lines (in_pieces form p qs g).said
unfolding joined lines_in_pieces in_pieces
pieces-lines form p [] g no_piece b k e = append-nil (lines g.said)
pieces-lines form p (q ∷ []) g (last_piece x h) b k e =
    piece-lines form p q [] g k e h (below-front q.capture [] b) (λ l m z. append-nil (lines l.said))
pieces-lines form p (q ∷ qs) g (and_piece x xs w h r) b k e =
    piece-lines form p q qs g k e h (below-front q.capture (joined qs) b) (λ l m z. pieces-lines form p qs l r (below-back q.capture (joined qs) b) m z)

-- From a fresh chip.
records-few : (size most : ℕ) (bs : List ℕ) → length (records_in size most bs) ≤ most
unfolding records_in
records-few size zero bs = omega arith
records-few size (suc most) [] = omega arith
records-few size (suc most) (b ∷ bs) = omega (arith, records-few size most (drop size (b ∷ bs)))

scaled : (form : Form) {m n : ℕ} → m ≤ n → output_least form * m ≤ output_least form * n
scaled Old h = omega arith
scaled New h = omega arith

fresh-output : (form : Form) (capture : List ℕ)
    → output_least form * length (records_of (record_size form) capture) ≤ length (replicate {A = ℕ} (output_least form * length capture) 0x00)
unfolding records_of
fresh-output form capture =
    let few : length (records_in (record_size form) (length capture) capture) ≤ length capture = records-few (record_size form) (length capture) capture in
    rw (length-replicate {A = ℕ} (output_least form * length capture) 0x00) (scaled form few)

fresh_kept : Kept replay_part fresh_start
unfolding block_size
fresh_kept =
    record {
      stands =
          fresh-stands replay_part fresh_memory (replicate 32 0x00) the-part-is (record { device_long = refl; name_long = refl; version_long = refl })
          (length-replicate {A = ℕ} 16384 0xFF) (length-replicate {A = ℕ} 4096 0xFF) (omega (arith, length-replicate {A = ℕ} 32 0x00));
      frames = no_frame;
    }

-- What is printed is of this upshot.
pub fresh-upshot : (form : Form) (capture : List ℕ) → upshot_of (fresh_replay form capture) ≡ upshot_from form replay_part (records_of (record_size form) capture) fresh_start
fresh-upshot form capture =
    replay-upshot form replay_part capture (fresh_chip replay_part) fresh_memory (replicate 32 0x00) (replicate (output_least form * length capture) 0x00) fresh_kept.stands.arrays
    (fresh-output form capture)

pub printed-in-pieces : PrintedInPieces
unfolding printed_in_pieces printed lines_in
printed-in-pieces form qs b r =
    let g = in_pieces form replay_part qs fresh_start in
    ap (λ (t : List ℕ). t ++ last_line g g.ended) (pieces-lines form replay_part qs fresh_start r b fresh_kept refl)
    ∙ ap (λ (z : Upshot). lines z.said ++ last_line z z.ended)
    (in-pieces form replay_part qs (fresh_chip replay_part) fresh_memory (replicate 32 0x00) (replicate (output_least form * length (joined qs)) 0x00) fresh_kept.stands.arrays r
    (fresh-output form (joined qs)))

-- The whole case, cut in the middle of a frame, meets the premise.
pub whole-case-cut : Pieces Old (first_piece ∷ second_piece ∷ [])
unfolding records_of records_in
whole-case-cut = and_piece first_piece (second_piece ∷ []) refl (omega arith) (last_piece second_piece (omega arith))
