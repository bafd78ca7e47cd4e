-- A chip that stands: what makes the next call accepted. Document 01, "Refusal numbers"; and what a run says, without the room that was lent for it.
use Rattle.std.specs.Prelude.{List, [], ◌∷◌, map, ◌≡◌, ◌<◌, ◌≤◌, ℕ, length, None, Ok, Result}
use Rattle.part.specs.Part.{Arrays}
use Rattle.chip.specs.Run.{Spoken, answers, bytes_said, spoken_in}
use Rattle.chip.specs.Step.{Outcome}
use Rattle.chip_state.specs.Refusals.{verdict_on}
use Rattle.chip_reply.specs.Reply.{sent_as}
use Rattle.part.specs.declared.refusal.Refusal.{Refusal}
use Rattle.chip_reply.specs.declared.Sent.{Sent}
use Rattle.chip.specs.declared.Event.{Event}
use Rattle.chip.specs.declared.Event.TheVariants.{Byte, Gap, PowerOn}
use Rattle.frame.proofs.Laws.Sum.{Below}
use Rattle.frame.specs.Collector.{heard}
use Rattle.frame.specs.declared.judgement.Judgement.{Judgement}
use Rattle.part.specs.declared.Part.{Part}

-- The verdict on a call with what an outcome left: its chip, its flash and its room.
abbrev pub verdict_in : Part → Outcome → Result Unit Refusal
verdict_in p o = verdict_on p o.chip (length o.memory.flash.code_flash) (length o.memory.flash.data_flash) (length o.room)

-- None of the refusals 1, 2, 3, 9 and 4 is given. The rest holds of all that the language can hand in: the collector's array has 260 places, each a
-- byte, and the description's arrays have their lengths.
pub record Stands (p : Part) (o : Outcome) : Type 0 where
  pub accepted : verdict_in p o ≡ Ok tt
  pub places : length o.chip.collector.bytes ≡ 260
  pub bytes : Below 256 o.chip.collector.bytes
  pub arrays : Arrays p

-- An event is a byte, a gap or power-on.
pub data Proper : Event → Type 0 where
  a_byte : {b : ℕ} → b < 256 → Proper (Byte b)
  a_gap : Proper Gap
  a_power_on : Proper PowerOn

pub data AllProper : List Event → Type 0 where
  no_event : AllProper []
  and_event : {v : Event} {vs : List Event} → Proper v → AllProper vs → AllProper (v ∷ vs)

-- An answer that is no refusal, with "the longest reply has 31" bytes.
pub record Answered (s : Spoken) : Type 0 where
  pub count : ℕ
  pub frames : ℕ
  pub replied : s.answer ≡ Ok (sent_as count frames)
  pub short : count ≤ 31

pub data AllAnswered : List Spoken → Type 0 where
  no_answer : AllAnswered []
  and_answer : {s : Spoken} {ss : List Spoken} → Answered s → AllAnswered ss → AllAnswered (s ∷ ss)

-- What is said: the answer, its fault, and the bytes of the room that the answer counts; not the room past them.
pub record Utterance : Type 0 where
  pub answer : Result Sent Refusal
  pub fault : Judgement
  pub bytes : List ℕ

abbrev pub uttered : Spoken → Utterance
uttered s = record { answer = s.answer; fault = s.fault; bytes = bytes_said s.answer s.room }

-- What is said to each event of a run.
unfoldable pub utterances : Part → List Event → Outcome → List Utterance
utterances p vs o = map uttered (answers p vs o)

-- Two outcomes that differ at most in their rooms, in the last answer, and in the collector's bytes past its count.
pub record Alike (o u : Outcome) : Type 0 where
  pub core : o.chip.core ≡ u.chip.core
  pub count : o.chip.collector.len ≡ u.chip.collector.len
  pub hears : heard o.chip.collector ≡ heard u.chip.collector
  pub memory : o.memory ≡ u.memory

-- Two outcomes that differ at most in their rooms and in the last answer.
pub record SameChip (o u : Outcome) : Type 0 where
  pub chip : o.chip ≡ u.chip
  pub memory : o.memory ≡ u.memory

-- The same, and what was said is the same.
pub record SameStep (o u : Outcome) : Type 0 where
  pub chip : o.chip ≡ u.chip
  pub memory : o.memory ≡ u.memory
  pub said : uttered (spoken_in o) ≡ uttered (spoken_in u)
