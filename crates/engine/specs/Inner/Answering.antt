-- Where the engine stands, as the code has it: the chip's record and the numbers told, beside flash, the sums and the room that are lent.
use Rattle.std.specs.Prelude.{List, ◌≡◌, ◌*◌, ◌+◌, ◌≤◌, ℕ, drop, get_or, length, take, Ok}
use Rattle.chip_core.specs.Effect.{Memory}
use Rattle.chip_core.specs.Hearing.{hearing}
use Rattle.chip_core.specs.declared.Core.{Core}
use Rattle.engine.specs.Engine.{Stand, front_of}
use Rattle.chip_reply.specs.Reply.{sent_as}
use Rattle.engine.specs.declared.Front.TheVariants.{Whole}
use Rattle.engine.specs.declared.Played.{Played}
use Rattle.engine.specs.declared.ToldSoFar.{ToldSoFar}
use Rattle.frame.specs.Collector.{holding}
use Rattle.frame.specs.Frame.{complete, counted, overhead}
use Rattle.frame.specs.declared.collector.Collector.{Collector}
use Rattle.words.specs.Words.{if◌then◌otherwise◌}

abbrev pub stand_of : Core → ToldSoFar → Memory → List ℕ → Stand
stand_of k t m room =
    record { core = k; memory = m; said = take t.bytes room; frames = t.frames; faults = t.faults; first = t.first }

-- How long the frame is that lies whole at the front; 0 where none does.
unfoldable pub whole_of : List ℕ → ℕ
whole_of bs = if complete bs then counted (get_or bs 1 0) + overhead otherwise 0

-- The room has 32 bytes left for each of n bytes ahead; a frame has a byte at least in what was said.
pub record RoomAhead (t : ToldSoFar) (n : ℕ) (room : List ℕ) : Type 0 where
  pub left : t.bytes + 32 * n ≤ length room
  pub framed : t.frames ≤ t.bytes

-- The room suffices for what lies ahead: 32 bytes for each byte, or, where one whole frame lies ahead and nothing else, for its reply.
pub data Ample (k : Core) (t : ToldSoFar) (ahead room : List ℕ) : Type 0 where
  for_each : RoomAhead t (length ahead) room → Ample k t ahead room
  for_one : front_of (hearing k.phase) ahead ≡ Whole (length ahead) → RoomAhead t 1 room → Ample k t ahead room

-- From what was told before on: more was said, it lies in the room, and the room past it is as it was.
pub record Past (t₀ t : ToldSoFar) (room room₀ : List ℕ) : Type 0 where
  pub grows : t₀.bytes ≤ t.bytes
  pub lies : t.bytes ≤ length room
  pub stays : drop t.bytes room ≡ drop t.bytes room₀

-- What is handed back: the numbers told, and the chip with what is held.
abbrev pub ended_of : Core → ToldSoFar → Collector → List ℕ → Played
ended_of k t c hs =
    record {
      answer = Ok (sent_as t.bytes t.frames);
      faults = t.faults;
      first = t.first;
      chip = record { core = k; collector = holding c hs };
    }
