-- The chip's refusals do not occur in the replay of a capture: from a chip that stands (a fresh one does: `fresh-stands`), no record is stopped by the chip, and
-- the chip stands again after it. Only output that is too short halts a capture.
-- Assumes nothing.
use mathlib.Core.List.{List, [], ◌++◌, ◌∷◌, map}
use mathlib.Core.Path.{◌∙◌, ◌≡◌, ap, refl, subst, sym}
use Prim.Native.Nat.{◌*◌, ◌+◌, ◌-◌, ◌≤◌, suc, zero, ℕ}
use native.Mathlib.Omega.{arith}
use lib.ListN.{drop, length, length-append, length-drop, take}
use lib.Seq.{length-take-le}
use borrow.Author.Tests.{le-ltb}
use Rattle.replay_capture.specs.Capture.{carried_bytes, head_size, record_of, record_size, records_in, records_of}
use Rattle.replay_capture.specs.declared.Form.{Form}
use Rattle.chip_reply.specs.Reply.{sent_as}
use Rattle.replay_play.specs.declared.Unplayed.TheVariants as Unplayed
use Rattle.replay_play.specs.declared.Unplayed.TheVariants.{NotGood, OutputShort}
use Rattle.replay_play.specs.declared.Unplayed.{Unplayed}
use Rattle.replay_records.specs.declared.Halt.TheVariants as Halt
use Rattle.replay_records.specs.declared.Halt.TheVariants.{OutputFull}
use Rattle.replay_records.specs.declared.Halt.{Halt}
use Rattle.chip_reply.specs.declared.Sent.{Sent}
use Rattle.replay_capture.specs.declared.Record.TheVariants.{BytesRecord, GapRecord, OtherSeat}
use Rattle.replay_capture.specs.declared.BadRecord.{BadRecord}
use Rattle.replay_capture.specs.declared.Record.{Record}
use Rattle.std.specs.Prelude.{Err, Ok, Result}
use Rattle.chip.specs.Run.{answers, before, onward, spoken_in}
use Rattle.chip.specs.Step.{Outcome}
use Rattle.chip_state.specs.declared.Chip.{Chip}
use Rattle.chip.specs.declared.Event.{Event}
use Rattle.chip.specs.declared.Event.TheVariants.{Byte, Gap}
use Rattle.claims_good.proofs.Rooms.{never-refused}
use Rattle.claims_good.proofs.Stays.{stays}
use Rattle.chip_state.proofs.Laws.{accepted}
use Rattle.claims_good.specs.Good.{AllAnswered, AllProper, Answered, Proper, Stands, a_byte, a_gap, and_answer, and_event, no_event}
use Rattle.chip_core.specs.Effect.{Memory}
use Rattle.frame.proofs.Laws.Sum.{Below, below-drop, below-take, more, none}
use Rattle.part.specs.declared.Part.{Part}
use Rattle.part.specs.declared.refusal.Refusal.{Refusal}
use Rattle.replay_play.proofs.Laws.{goes-replied, play-fits, play-keeps}
use Rattle.replay_records.specs.Records.{Replaying, after_record, next_by, replay_of, replayed_from, while_whole}
use Rattle.replay_play.specs.Play.{Playing, RecordPlaying, events_of, played_into, output_least, played, answering, before_playing, play_by, play_of, play_with, ended_by}
use Rattle.words.specs.Words.{if◌then◌otherwise◌}

-- An outcome stands whatever its last answer was.
pub again : {p : Part} {o : Outcome} → Stands p o → Stands p (before o.chip o.memory o.room)
again s = record { accepted = s.accepted; places = s.places; bytes = s.bytes; arrays = s.arrays }

one-answered : (p : Part) (v : Event) (o : Outcome) → Stands p o → Proper v → Answered (spoken_in (onward p o v))
unfolding answers
one-answered p v o s e = go (never-refused p (v ∷ []) o s (and_event e no_event))
  where
    go : AllAnswered (spoken_in (onward p o v) ∷ []) → Answered (spoken_in (onward p o v))
    go (and_answer a r) = a

-- What playing leaves: the chip stands, and its last answer is no refusal.
pub record Plays (p : Part) (x : Playing) : Type 0 where
  pub bytes : ℕ
  pub frames : ℕ
  pub replied : x.left.answer ≡ Ok (sent_as bytes frames)
  pub stands : Stands p x.left

saying-left : (a : Result Sent Refusal) (o : Outcome) (x : Playing) → (answering a o x).left ≡ o
unfolding answering
saying-left (Ok sent) o x = refl
saying-left (Err r) o x = refl

pub plays : (p : Part) (vs : List Event) (x : Playing) → Plays p x → AllProper vs → Plays p (played p vs x)
unfolding played
plays p [] x w no_event = w
plays p (v ∷ vs) x w (and_event e es) =
    let o = onward p x.left v in
    let a = one-answered p v x.left w.stands e in
    let y = answering o.answer o x in
    let l : y.left ≡ o = saying-left o.answer o x in
    let z : Plays p y =
    record {
      bytes = a.count;
      frames = a.frames;
      replied = ap (λ (q : Outcome). q.answer) l ∙ a.replied;
      stands = subst (λ (q : Outcome). Stands p q) (sym l) (stays p x.left v w.stands e);
    } in
    subst (λ (q : Playing). Plays p q) (sym (goes-replied o.answer a.count a.frames (played p vs y) y a.replied)) (plays p vs y z es)

pub all-bytes : (bs : List ℕ) → Below 256 bs → AllProper (map Byte bs)
all-bytes [] none = no_event
all-bytes (b ∷ bs) (more h r) = and_event (a_byte h) (all-bytes bs r)

-- What a record's turn leaves, where its output suffices.
pub record Turns (p : Part) (t : RecordPlaying) : Type 0 where
  pub goes : (r : Refusal) → t.ended ≡ Err (Unplayed.Refused r) → ⊥
  pub fits : t.ended ≡ Err OutputShort → ⊥
  pub stands : Stands p (before t.chip t.memory t.room)

by-goes : (a : Result Sent Refusal) (n k : ℕ) (x : Playing) → a ≡ Ok (sent_as n k) → (r : Refusal) → ended_by a x ≡ Err (Unplayed.Refused r) → ⊥
unfolding ended_by
by-goes (Ok sent) n k x e r q = let z : ◌≡◌ {A = ℕ} 0 1 = cc in omega arith
by-goes (Err s) n k x e r q = let z : ◌≡◌ {A = ℕ} 0 1 = cc in omega arith

by_fits : (a : Result Sent Refusal) (x : Playing) → ended_by a x ≡ Err OutputShort → ⊥
unfolding ended_by
by_fits (Ok sent) x q = let z : ◌≡◌ {A = ℕ} 0 1 = cc in omega arith
by_fits (Err s) x q = let z : ◌≡◌ {A = ℕ} 0 1 = cc in omega arith

kept-turns : (p : Part) (x : Playing) (output : List ℕ) → Plays p x → Turns p (played_into x output)
unfolding played_into
kept-turns p x output w = record { goes = λ r e. by-goes x.left.answer w.bytes w.frames x w.replied r e; fits = λ e. by_fits x.left.answer x e; stands = again w.stands }

with-turns : (form : Form) (p : Part) (vs : List Event) (c : Chip) (m : Memory) (room output : List ℕ) → Stands p (before c m room) → AllProper vs → output_least form ≤ length output
    → Turns p (play_with form vs p c m room output)
unfolding play_with if◌then◌otherwise◌
with-turns form p vs c m room output s e h =
    rw (le-ltb (length output) (output_least form) h)
    (kept-turns p (played p vs (before_playing c m room)) output (plays p vs (before_playing c m room) (record { bytes = 0; frames = 0; replied = refl; stands = s }) e))

pub turn-plays : (form : Form) (p : Part) (bs : List ℕ) (c : Chip) (m : Memory) (room output : List ℕ) → Stands p (before c m room) → Below 256 bs → output_least form ≤ length output
    → Turns p (play_of form p bs c m room output)
unfolding play_of play_by events_of
turn-plays form p bs c m room output s b h = go (record_of form bs)
  where
    go : (r : Result Record BadRecord) → Turns p (play_by form r p bs c m room output)
    go (Ok GapRecord) = with-turns form p (Gap ∷ []) c m room output s (and_event a_gap no_event) h
    go (Ok (BytesRecord n)) = with-turns form p (map Byte (carried_bytes form n bs)) c m room output s (all-bytes (carried_bytes form n bs) (below-take 256 n (below-drop 256 (head_size form) b))) h
    go (Ok OtherSeat) = with-turns form p [] c m room output s no_event h
    go (Err _) = record { goes = λ r e. let z : ◌≡◌ {A = ℕ} 0 1 = cc in omega arith; fits = λ e. let z : ◌≡◌ {A = ℕ} 0 1 = cc in omega arith; stands = s }

-- A whole capture: with output for every record it is never halted.
pub data AllBelow : List (List ℕ) → Type 0 where
  no_record : AllBelow []
  and_record : {r : List ℕ} {rs : List (List ℕ)} → Below 256 r → AllBelow rs → AllBelow (r ∷ rs)

pub record Goes (form : Form) (p : Part) (rs : List (List ℕ)) (x : Replaying) : Type 0 where
  pub stands : Stands p (before x.chip x.memory x.room)
  pub whole : x.ended ≡ Ok tt
  pub within : x.bytes ≤ length x.output
  pub enough : output_least form * length rs + x.bytes ≤ length x.output

goes_on : (form : Form) (p : Part) (r : List ℕ) (rs : List (List ℕ)) (x : Replaying) (n k : ℕ) → Goes form p (r ∷ rs) x → Below 256 r
    → (play_of form p r x.chip x.memory x.room (drop x.bytes x.output)).ended ≡ Ok (sent_as n k)
    → Goes form p rs (after_record (Ok tt) 1 n k (play_of form p r x.chip x.memory x.room (drop x.bytes x.output)) x)
goes_on form p r rs x n k g b e =
    let l = drop x.bytes x.output in
    let w : length l ≡ length x.output - x.bytes = length-drop x.bytes x.output in
    let a : output_least form ≤ length l = omega (arith, w, g.enough) in
    let t = play_of form p r x.chip x.memory x.room l in
    let f = play-fits form p r x.chip x.memory x.room l g.stands.arrays in
    let o : length (take x.bytes x.output ++ t.output) ≡ length x.output =
    length-append (take x.bytes x.output) t.output
    ∙ (rw (length-take-le x.bytes x.output g.within, play-keeps form p r x.chip x.memory x.room l g.stands.arrays) (omega (arith, w, g.within))) in
    record {
      stands = (turn-plays form p r x.chip x.memory x.room l g.stands b a).stands;
      whole = refl;
      within = omega (arith, o, w, f.bytes n k e, g.within);
      enough = omega (arith, o, g.enough, f.short n k e);
    }

-- What it leaves: no refusal and no want of output, and a chip that stands.
pub record Unhalted (p : Part) (x : Replaying) : Type 0 where
  pub stands : Stands p (before x.chip x.memory x.room)
  pub unrefused : (q : Refusal) → x.ended ≡ Err (Halt.Refused q) → ⊥
  pub unfilled : x.ended ≡ Err OutputFull → ⊥

not-whole : {x : Result Unit Halt} (q : Refusal) → x ≡ Ok tt → x ≡ Err (Halt.Refused q) → ⊥
not-whole q e f = let z : ◌≡◌ {A = Result Unit Halt} (Ok tt) (Err (Halt.Refused q)) = sym e ∙ f in let y : ◌≡◌ {A = ℕ} 0 1 = cc in omega arith

not_full : {x : Result Unit Halt} → x ≡ Ok tt → x ≡ Err OutputFull → ⊥
not_full e f = let z : ◌≡◌ {A = Result Unit Halt} (Ok tt) (Err OutputFull) = sym e ∙ f in let y : ◌≡◌ {A = ℕ} 0 1 = cc in omega arith

pub replayed-unhalted : (form : Form) (p : Part) (rs : List (List ℕ)) (x : Replaying) → AllBelow rs → Goes form p rs x → Unhalted p (replayed_from form p rs x)
unfolding replayed_from while_whole next_by
replayed-unhalted form p [] x no_record g = record { stands = g.stands; unrefused = λ q e. not-whole q g.whole e; unfilled = λ e. not_full g.whole e }
replayed-unhalted form p (r ∷ rs) x (and_record b bs) g = go t.ended refl (λ y w. replayed-unhalted form p rs y bs w)
  where
    t : RecordPlaying
    t = play_of form p r x.chip x.memory x.room (drop x.bytes x.output)

    room : output_least form ≤ length (drop x.bytes x.output)
    room = let w : length (drop x.bytes x.output) ≡ length x.output - x.bytes = length-drop x.bytes x.output in omega (arith, w, g.enough)

    turns : Turns p t
    turns = turn-plays form p r x.chip x.memory x.room (drop x.bytes x.output) g.stands b room

    go : (a : Result Sent Unplayed) → t.ended ≡ a → ((y : Replaying) → Goes form p rs y → Unhalted p (replayed_from form p rs y))
        → Unhalted p (while_whole (next_by a t x).ended (replayed_from form p rs (next_by a t x)) (next_by a t x))
    go (Ok sent) e rest = rest (after_record (Ok tt) 1 sent.bytes sent.frames t x) (goes_on form p r rs x sent.bytes sent.frames g b e)
    go (Err NotGood) e rest = record { stands = turns.stands; unrefused = λ q f. let z : ◌≡◌ {A = ℕ} 0 1 = cc in omega arith; unfilled = λ f. let z : ◌≡◌ {A = ℕ} 0 1 = cc in omega arith }
    go (Err OutputShort) e rest = absurd (turns.fits e)
    go (Err (Unplayed.Refused s)) e rest = absurd (turns.goes s e)

pub records-below : (size most : ℕ) (bs : List ℕ) → Below 256 bs → AllBelow (records_in size most bs)
unfolding records_in
records-below size zero bs b = no_record
records-below size (suc most) [] b = no_record
records-below size (suc most) (x ∷ bs) b = and_record (below-take 256 size b) (records-below size most (drop size (x ∷ bs)) (below-drop 256 size b))

pub replay-unhalted : (form : Form) (p : Part) (capture : List ℕ) (c : Chip) (m : Memory) (room output : List ℕ) → Stands p (before c m room) → Below 256 capture
    → output_least form * length (records_of (record_size form) capture) ≤ length output → Unhalted p (replay_of form p capture c m room output)
unfolding replay_of records_of
replay-unhalted form p capture c m room output s b h =
    replayed-unhalted form p (records_in (record_size form) (length capture) capture)
    (record { ended = Ok tt; records = 0; bytes = 0; frames = 0; chip = c; memory = m; room = room; output = output })
    (records-below (record_size form) (length capture) capture b)
    (record { stands = s; whole = refl; within = omega arith; enough = omega (arith, h) })

pub never-halted : (form : Form) (p : Part) (capture : List ℕ) (c : Chip) (m : Memory) (room output : List ℕ) → Stands p (before c m room) → Below 256 capture
    → output_least form * length (records_of (record_size form) capture) ≤ length output → (q : Refusal) → (replay_of form p capture c m room output).ended ≡ Err (Halt.Refused q) → ⊥
never-halted form p capture c m room output s b h q e = (replay-unhalted form p capture c m room output s b h).unrefused q e

-- And never for want of output.
pub never-filled : (form : Form) (p : Part) (capture : List ℕ) (c : Chip) (m : Memory) (room output : List ℕ) → Stands p (before c m room) → Below 256 capture
    → output_least form * length (records_of (record_size form) capture) ≤ length output → (replay_of form p capture c m room output).ended ≡ Err OutputFull → ⊥
never-filled form p capture c m room output s b h e = (replay-unhalted form p capture c m room output s b h).unfilled e
