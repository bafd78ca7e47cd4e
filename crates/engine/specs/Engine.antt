-- A plain engine: document 02, §7. A second software chip, to be read before the first. All bytes of a stretch lie ahead at once, those that the chip held from
-- before first; turn by turn the front of them is taken: a mode byte, a byte before a header, or a whole frame where it lies. Nothing is collected.
use Rattle.std.specs.Prelude.{not, List, [], ◌++◌, ◌∷◌, ◌+◌, ◌/◌, suc, zero, ℕ, eqb, ltb, drop, get_or, length, take, Err, Ok, Result}
use Rattle.chip_core.specs.Effect.{Memory}
use Rattle.chip_core.specs.Hearing.{hearing}
use Rattle.chip_core.specs.declared.Core.{Core}
use Rattle.chip_core.specs.declared.Hearing.{Hearing}
use Rattle.chip_core.specs.declared.Hearing.TheVariants.{HearsCommands, HearsData, HearsNothing}
use Rattle.chip_frame.specs.Does.{frame_does, mode_byte}
use Rattle.chip_reply.specs.Reply.{fault_in, frames_of, payloads, sent_as}
use Rattle.chip_state.specs.Refusals.{verdict_on}
use Rattle.chip_state.specs.declared.Chip.{Chip}
use Rattle.part.specs.declared.refusal.Refusal.{Refusal}
use Rattle.engine.specs.declared.EngineRefusal.TheVariants.{NoRoom}
use Rattle.engine.specs.declared.EngineRefusal.{EngineRefusal}
use Rattle.chip_reply.specs.declared.Sent.{Sent}
use Rattle.engine.specs.declared.Front.{Front}
use Rattle.engine.specs.declared.Front.TheVariants.{Held, Mode, Skipped, Whole}
use Rattle.engine.specs.declared.Played.{Played}
use Rattle.frame.specs.Collector.{heard, holding}
use Rattle.frame.specs.Frame.{complete, counted, header_byte, overhead}
use Rattle.frame.specs.Judgement.{is_good}
use Rattle.frame.specs.declared.Header.{Header}
use Rattle.frame.specs.declared.Header.TheVariants.{Command, Data}
use Rattle.frame.specs.declared.judgement.Judgement.{Judgement}
use Rattle.frame.specs.declared.judgement.Judgement.TheVariants.{Good}
use Rattle.part.specs.declared.Part.{Part}
use Rattle.words.specs.Words.{if◌then◌otherwise◌}

-- What lies at the front of the bytes ahead, by what the phase hears. Before the header that is awaited bytes are skipped; from it on a frame is whole at LEN + 4
-- bytes; where fewer lie ahead, all of them are held.
unfoldable pub front_for : Header → List ℕ → Front
front_for h bs =
    if not (eqb (get_or bs 0 0) (header_byte h)) then Skipped
    otherwise if complete bs then Whole (counted (get_or bs 1 0) + overhead)
    otherwise Held

unfoldable pub front_of : Hearing → List ℕ → Front
front_of f [] = Held
front_of HearsNothing (b ∷ bs) = Mode
front_of HearsCommands (b ∷ bs) = front_for Command (b ∷ bs)
front_of (HearsData w) (b ∷ bs) = front_for Data (b ∷ bs)

-- Where the engine stands: the chip's record, flash and the kept sums; the reply frames so far, end to end, and their number; how many frames were judged bad,
-- and the judgement of the first of them (document 02, §4).
pub record Stand : Type 0 where
  pub core : Core
  pub memory : Memory
  pub said : List ℕ
  pub frames : ℕ
  pub faults : ℕ
  pub first : Judgement

abbrev pub after_mode : ℕ → Stand → Stand
after_mode b s = record { core = mode_byte s.core b; memory = s.memory; said = s.said; frames = s.frames; faults = s.faults; first = s.first }

-- A whole frame does its work, and its reply follows those before it.
unfoldable pub after_frame : Part → List ℕ → Stand → Stand
after_frame p f s =
    let does = frame_does (hearing s.core.phase) p s.core f s.memory in
    let replies = payloads p does.core.options does.reply in
    let judgement = fault_in does.reply in
    record {
      core = does.core;
      memory = does.memory;
      said = s.said ++ frames_of replies;
      frames = s.frames + length replies;
      faults = if is_good judgement then s.faults otherwise s.faults + 1;
      first = if is_good s.first then judgement otherwise s.first;
    }

-- The bytes ahead, and where the engine stands before them.
pub record Plain : Type 0 where
  pub ahead : List ℕ
  pub stands : Stand

abbrev pub facing : List ℕ → Stand → Plain
facing bs s = record { ahead = bs; stands = s }

-- One turn, by what lies at the front. What is awaited next is asked anew at each: a mode byte, 9Ah, 40h, a last page and a bad page change it.
unfoldable pub turn_by : Front → Part → Plain → Plain
turn_by Held p x = x
turn_by Skipped p x = facing (drop 1 x.ahead) x.stands
turn_by Mode p x = facing (drop 1 x.ahead) (after_mode (get_or x.ahead 0 0) x.stands)
turn_by (Whole n) p x = facing (drop n x.ahead) (after_frame p (take n x.ahead) x.stands)

unfoldable pub turn : Part → Plain → Plain
turn p x = turn_by (front_of (hearing x.stands.core.phase) x.ahead) p x

unfoldable pub turns : ℕ → Part → Plain → Plain
turns zero p x = x
turns (suc n) p x = turns n p (turn p x)

-- A turn takes a byte at least, or what lies ahead is held and stays: as many turns as there are bytes take all that can be taken.
unfoldable pub played_out : Part → Plain → Plain
played_out p x = turns (length x.ahead) p x

-- What is left: the answer, the faults, the chip and all that was lent.
pub record EngineLeft : Type 0 where
  pub answer : Result Sent EngineRefusal
  pub faults : ℕ
  pub first : Judgement
  pub chip : Chip
  pub memory : Memory
  pub room : List ℕ

abbrev pub engine_left : Played → Memory → List ℕ → EngineLeft
engine_left r m room = record { answer = r.answer; faults = r.faults; first = r.first; chip = r.chip; memory = m; room = room }

-- It starts with what the chip holds and ends with what it holds then; the replies lie at the start of the room.
abbrev pub begins : Chip → List ℕ → Memory → Plain
begins c bs m = facing (heard c.collector ++ bs) (record { core = c.core; memory = m; said = []; frames = 0; faults = 0; first = Good })

unfoldable pub leaves : Plain → Chip → List ℕ → EngineLeft
leaves x c room =
    record {
      answer = Ok (sent_as (length x.stands.said) x.stands.frames);
      faults = x.stands.faults;
      first = x.stands.first;
      chip = record { core = x.stands.core; collector = holding c.collector x.ahead };
      memory = x.stands.memory;
      room = x.stands.said ++ drop (length x.stands.said) room;
    }

abbrev pub refused_with : Result Sent EngineRefusal → Chip → Memory → List ℕ → EngineLeft
refused_with a c m room = record { answer = a; faults = 0; first = Good; chip = c; memory = m; room = room }

-- "12 if the reply room is shorter than 32 bytes for each byte fed, in place of 4": after 1, 2, 3 and 9, which are a byte's in enough room.
unfoldable pub engine_by : Result Unit Refusal → Part → List ℕ → Chip → Memory → List ℕ → EngineLeft
engine_by (Err r) p bs c m room = refused_with (Err (EngineRefusal.Refused r)) c m room
engine_by (Ok _) p bs c m room =
    if ltb (length room / 32) (length bs) then refused_with (Err NoRoom) c m room
    otherwise leaves (played_out p (begins c bs m)) c room

unfoldable pub engine_of : Part → List ℕ → Chip → Memory → List ℕ → EngineLeft
engine_of p bs c m room = engine_by (verdict_on p c (length m.flash.code_flash) (length m.flash.data_flash) 32) p bs c m room
