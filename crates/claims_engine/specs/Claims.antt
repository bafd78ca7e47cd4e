-- The statements of document 02, §7, each proved in proofs/ under its own name: the plain engine, `engine_of`, does what `step_of`, demand 2's definition, does with the
-- bytes fed one by one, "for every stretch, empty too, wherever it begins"; what it refuses; and that a stretch may be cut anywhere.
use Rattle.engine.specs.declared.EngineRefusal.TheVariants.{NoRoom}
use Rattle.std.specs.Prelude.{List, ◌++◌, map, ◌≢◌, ◌≡◌, ◌*◌, ◌+◌, ◌<◌, ◌≤◌, ℕ, drop, length, take, Err, Ok, Result}
use Rattle.chip.specs.Run.{Spoken, answers, before, heard_back, run}
use Rattle.chip.specs.Step.{Outcome, step_of}
use Rattle.chip_reply.specs.Reply.{sent_as}
use Rattle.engine.specs.declared.EngineRefusal.TheVariants as EngineRefusal
use Rattle.engine.specs.declared.EngineRefusal.{EngineRefusal}
use Rattle.chip_reply.specs.declared.Sent.{Sent}
use Rattle.chip.specs.declared.Event.TheVariants.{Byte}
use Rattle.chip_core.specs.Effect.{Memory}
use Rattle.chip_state.specs.declared.Chip.{Chip}
use Rattle.claims_engine.specs.Feeding.{faults_back, first_fault, frames_back}
use Rattle.claims_good.specs.Good.{Alike, Stands}
use Rattle.claims_noise.specs.Claims.{AsIf}
use Rattle.engine.specs.Engine.{EngineLeft, Stand, engine_of, facing, played_out, refused_with}
use Rattle.frame.proofs.Laws.Sum.{Below}
use Rattle.frame.specs.Judgement.{is_good}
use Rattle.part.specs.declared.Part.{Part}
use Rattle.part.specs.declared.refusal.Refusal.{Refusal}
use Rattle.part.specs.declared.refusal.Refusal.TheVariants.{ShortRoom}
use Rattle.words.specs.Words.{if◌then◌otherwise◌}

-- "gives all replies, the final flash and the options": e is what the engine left of a chip c and a room that was lent; u is what the same bytes left that were fed
-- one by one, and ss what was said to each of them. The replies are the same, byte for byte, at the start of the room, and the rest of the room is as it was; the
-- faults of §4 are as many, and the first is the same; flash, the kept sums, options, rate, phase and what is held are the same, and the collector's spare bytes
-- past what is held are as they were handed in.
pub record Feeds (e : EngineLeft) (u : Outcome) (ss : List Spoken) (c : Chip) (lent one : List ℕ) : Type 0 where
  pub answer : e.answer ≡ Ok (sent_as (length (heard_back ss)) (frames_back ss))
  pub faults : e.faults ≡ length (faults_back ss)
  pub first : e.first ≡ first_fault (faults_back ss)
  pub room : e.room ≡ heard_back ss ++ drop (length (heard_back ss)) lent
  pub fits : length (heard_back ss) ≤ length lent
  pub alike : Alike u (before e.chip e.memory one)
  pub spare : drop e.chip.collector.len e.chip.collector.bytes ≡ drop e.chip.collector.len c.collector.bytes

-- "Prove it equal to feeding the bytes one by one, for every stretch, empty too, wherever it begins": from any chip that stands, which may hold part of a frame. The
-- engine's room is what the document asks; one is the room that is lent for each byte that is fed.
abbrev pub EngineIsFeeding : Type 0
EngineIsFeeding =
    (p : Part) (bs : List ℕ) (c : Chip) (m : Memory) (room one : List ℕ) → Stands p (before c m one) → Below 256 bs → 32 * length bs ≤ length room
    → Feeds (engine_of p bs c m room) (run p (map Byte bs) (before c m one)) (answers p (map Byte bs) (before c m one)) c room one

-- "ending with a chip that may hold a partial frame": what it leaves is accepted again, and every later event, whatever room is lent for it, is answered as after the
-- bytes fed one by one.
pub record LaterAlike (p : Part) (e : EngineLeft) (u : Outcome) (one : List ℕ) : Type 0 where
  pub stands : Stands p (before e.chip e.memory one)
  pub later : AsIf step_of p u (before e.chip e.memory one)

abbrev pub EngineGoesOn : Type 0
EngineGoesOn =
    (p : Part) (bs : List ℕ) (c : Chip) (m : Memory) (room one : List ℕ) → Stands p (before c m one) → Below 256 bs → 32 * length bs ≤ length room
    → LaterAlike p (engine_of p bs c m room) (run p (map Byte bs) (before c m one)) one

-- "Refusals: 12 if the reply room is shorter than 32 bytes for each byte fed, in place of 4": b is any byte, with enough room lent for it. What refuses it refuses every
-- stretch, the empty one too, and nothing changes; no other stretch is refused so, and never by 4. Where a byte is not refused, a room too short, and only that, is 12.
pub record RefusesAs (p : Part) (c : Chip) (m : Memory) (b : ℕ) (one bs room : List ℕ) : Type 0 where
  pub refused : (r : Refusal) → (step_of p c (Byte b) m one).answer ≡ Err r
      → engine_of p bs c m room ≡ refused_with (Err (EngineRefusal.Refused r)) c m room
  pub only : (r : Refusal) → (engine_of p bs c m room).answer ≡ Err (EngineRefusal.Refused r) → (step_of p c (Byte b) m one).answer ≡ Err r
  pub never : (r : Refusal) → (engine_of p bs c m room).answer ≡ Err (EngineRefusal.Refused r) → r ≢ ShortRoom
  pub short : ((r : Refusal) → (step_of p c (Byte b) m one).answer ≢ Err r) → length room < 32 * length bs
      → engine_of p bs c m room ≡ refused_with (Err NoRoom) c m room
  pub only_short : (engine_of p bs c m room).answer ≡ Err NoRoom → length room < 32 * length bs
  pub not_refused : (engine_of p bs c m room).answer ≡ Err NoRoom → (r : Refusal) → (step_of p c (Byte b) m one).answer ≢ Err r

abbrev pub EngineRefused : Type 0
EngineRefused = (p : Part) (c : Chip) (m : Memory) (b : ℕ) (one bs room : List ℕ) → 32 ≤ length one → RefusesAs p c m b one bs room

-- What an answer counts, and the replies that lie in the room.
abbrev pub reply_bytes : Result Sent EngineRefusal → ℕ
reply_bytes (Ok sent) = sent.bytes
reply_bytes (Err (EngineRefusal.Refused r)) = 0
reply_bytes (Err NoRoom) = 0

abbrev pub reply_frames : Result Sent EngineRefusal → ℕ
reply_frames (Ok sent) = sent.frames
reply_frames (Err (EngineRefusal.Refused r)) = 0
reply_frames (Err NoRoom) = 0

abbrev pub replies_in : EngineLeft → List ℕ
replies_in e = take (reply_bytes e.answer) e.room

-- "wherever it begins": a stretch cut anywhere, d what the first part left and f what the second part left after it, is as the whole, which left e.
pub record Joined (d f e : EngineLeft) : Type 0 where
  pub said : replies_in e ≡ replies_in d ++ replies_in f
  pub answer : e.answer ≡ Ok (sent_as (reply_bytes d.answer + reply_bytes f.answer) (reply_frames d.answer + reply_frames f.answer))
  pub faults : e.faults ≡ d.faults + f.faults
  pub first : e.first ≡ (if is_good d.first then f.first otherwise d.first)
  pub alike : Alike (before f.chip f.memory f.room) (before e.chip e.memory e.room)

abbrev pub EngineAppend : Type 0
EngineAppend =
    (p : Part) (xs ys : List ℕ) (c : Chip) (m : Memory) (room part rest one : List ℕ) → Stands p (before c m one) → Below 256 xs → Below 256 ys
    → 32 * length xs ≤ length part → 32 * length ys ≤ length rest → 32 * length (xs ++ ys) ≤ length room
    → let d = engine_of p xs c m part in
    Joined d (engine_of p ys d.chip d.memory rest) (engine_of p (xs ++ ys) c m room)

-- The same of the definition's turns, with no premise: what the first bytes leave ahead lies before the rest.
abbrev pub TurnsAppend : Type 0
TurnsAppend =
    (p : Part) (xs ys : List ℕ) (s : Stand)
    → let x = played_out p (facing xs s) in
    played_out p (facing (xs ++ ys) s) ≡ played_out p (facing (x.ahead ++ ys) x.stands)
