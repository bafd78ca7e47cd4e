-- One step: document 01, "Phases", "Collecting" and "Refusal numbers" (chip). An event comes; what was heard becomes what is heard now, a complete
-- frame does its work, replies become bytes in the room. Refusals come first.
use Rattle.std.specs.Prelude.{List, [], ℕ, length, Err, Ok, Result}
use Rattle.part.specs.declared.refusal.Refusal.{Refusal}
use Rattle.chip_state.specs.declared.Chip.{Chip}
use Rattle.chip.specs.declared.Event.{Event}
use Rattle.chip.specs.declared.Event.TheVariants.{Byte, Gap, PowerOn}
use Rattle.chip.specs.declared.Step.{Step}
use Rattle.chip_state.specs.Refusals.{verdict_on}
use Rattle.chip_core.specs.Effect.{Effect, Memory}
use Rattle.chip_core.specs.declared.Core.{Core}
use Rattle.chip_frame.specs.Does.{frame_does, mode_byte, silent}
use Rattle.chip_core.specs.Hearing.{hearing}
use Rattle.chip_core.specs.declared.Hearing.{Hearing}
use Rattle.chip_core.specs.declared.Hearing.TheVariants.{HearsCommands, HearsData, HearsNothing}
use Rattle.chip_core.specs.declared.Phase.TheVariants.{ModeByte}
use Rattle.frame.specs.Collector.{fresh, hear, heard, holding}
use Rattle.frame.specs.Frame.{complete}
use Rattle.frame.specs.declared.judgement.Judgement.{Judgement}
use Rattle.frame.specs.declared.judgement.Judgement.TheVariants.{Good}
use Rattle.frame.specs.declared.Header.TheVariants.{Command, Data}
use Rattle.chip_options.specs.Options.{fresh_options}
use Rattle.part.specs.Part.{described}
use Rattle.part.specs.declared.Part.{Part}
use Rattle.part.specs.declared.refusal.Refusal.TheVariants.{BadPart}
use Rattle.chip_reply.specs.Reply.{fault_in, payloads, said_of, sent_as}
use Rattle.chip_reply.specs.declared.Sent.{Sent}
use Rattle.words.specs.Words.{if◌then◌otherwise◌}

-- What is heard now, and what was done.
pub record Reaction : Type 0 where
  pub hears : List ℕ
  pub does : Effect

abbrev pub reaction : List ℕ → Effect → Reaction
reaction hs x = record { hears = hs; does = x }

-- A byte while a frame is awaited: a complete frame does its work, and nothing is collected then.
unfoldable pub heard_byte : List ℕ → Effect → Core → Memory → Reaction
heard_byte hs x k m = if complete hs then reaction [] x otherwise reaction hs (silent k m)

-- A byte: the mode byte where no frame is awaited, else one more byte of a frame.
unfoldable pub byte_in : Hearing → Part → Core → List ℕ → ℕ → Memory → Reaction
byte_in HearsNothing p k hs b m = reaction hs (silent (mode_byte k b) m)
byte_in HearsCommands p k hs b m = heard_byte (hear Command hs b) (frame_does HearsCommands p k (hear Command hs b) m) k m
byte_in (HearsData w) p k hs b m = heard_byte (hear Data hs b) (frame_does (HearsData w) p k (hear Data hs b) m) k m

-- "A gap drops what is collected and changes nothing else. Power-on drops it too, keeps flash and options, and returns to the first phase."
-- The rate code is 00h from power-on.
abbrev pub powered_on : Core → Core
powered_on k = record { options = k.options; rate = 0x00; phase = ModeByte }

unfoldable pub react_to : Event → Part → Core → List ℕ → Memory → Reaction
react_to (Byte b) p k hs m = byte_in (hearing k.phase) p k hs b m
react_to Gap p k hs m = reaction [] (silent k m)
react_to PowerOn p k hs m = reaction [] (silent (powered_on k) m)

-- All that a step leaves: the answer, the judgement of the frame that it answers where that was judged bad (document 02, §4), the chip, and what was lent.
pub record Outcome : Type 0 where
  pub answer : Result Sent Refusal
  pub fault : Judgement
  pub chip : Chip
  pub memory : Memory
  pub room : List ℕ

abbrev pub outcome : Step → Memory → List ℕ → Outcome
outcome s m r = record { answer = s.answer; fault = s.fault; chip = s.chip; memory = m; room = r }

abbrev pub replied : Sent → Result Sent Refusal
replied s = Ok (sent_as s.bytes s.frames)

-- A refused call changes nothing; otherwise what is heard becomes the collector, and the replies become bytes in the room.
unfoldable pub settled : Result Unit Refusal → Part → Reaction → Chip → Memory → List ℕ → Outcome
settled (Err r) p x c m room = record { answer = Err r; fault = Good; chip = c; memory = m; room = room }
settled (Ok _) p x c m room =
    let sends = said_of (payloads p x.does.core.options x.does.reply) room in
    record {
      answer = replied sends.sent;
      fault = fault_in x.does.reply;
      chip = record { core = x.does.core; collector = holding c.collector x.hears };
      memory = x.does.memory;
      room = sends.room;
    }

unfoldable pub step_of : Part → Chip → Event → Memory → List ℕ → Outcome
step_of p c v m room =
    let verdict = verdict_on p c (length m.flash.code_flash) (length m.flash.data_flash) (length room) in
    let reaction = react_to v p c.core (heard c.collector) m in
    settled verdict p reaction c m room

-- A fresh chip of a part: phase 1, rate 00h, fresh options, nothing collected.
unfoldable pub fresh_chip : Part → Chip
fresh_chip p = record { core = record { options = fresh_options p; rate = 0x00; phase = ModeByte }; collector = fresh }

unfoldable pub fresh_of : Part → Step
fresh_of p =
    if described p then record { answer = Ok (sent_as 0 0); fault = Good; chip = fresh_chip p }
    otherwise record { answer = Err BadPart; fault = Good; chip = fresh_chip p }
