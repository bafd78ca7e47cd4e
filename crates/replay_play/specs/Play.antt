-- The play of one record, of either form: document 01, "Replay", and 02, section 5. The events of a good record go to the chip one after the other;
-- its reply frames are kept in order, end to end.
use Rattle.std.specs.Prelude.{List, [], ◌++◌, ◌∷◌, map, ◌*◌, ◌+◌, ℕ, ltb, drop, length, take, Err, Ok, Result}
use Rattle.replay_capture.specs.Capture.{carried_bytes, data_size, record_of}
use Rattle.replay_capture.specs.declared.Form.{Form}
use Rattle.chip_reply.specs.Reply.{sent_as}
use Rattle.replay_play.specs.declared.Unplayed.TheVariants.{NotGood, OutputShort}
use Rattle.replay_play.specs.declared.Unplayed.{Unplayed}
use Rattle.part.specs.declared.refusal.Refusal.{Refusal}
use Rattle.chip_reply.specs.declared.Sent.{Sent}
use Rattle.replay_capture.specs.declared.Record.TheVariants.{BytesRecord, GapRecord, OtherSeat}
use Rattle.replay_capture.specs.declared.BadRecord.{BadRecord}
use Rattle.replay_capture.specs.declared.Record.{Record}
use Rattle.chip.specs.Run.{before, onward}
use Rattle.chip.specs.Step.{Outcome}
use Rattle.chip_state.specs.declared.Chip.{Chip}
use Rattle.chip.specs.declared.Event.{Event}
use Rattle.chip.specs.declared.Event.TheVariants.{Byte, Gap}
use Rattle.chip_core.specs.Effect.{Memory}
use Rattle.part.specs.declared.Part.{Part}
use Rattle.replay_play.specs.declared.PlayedRecord.{PlayedRecord}
use Rattle.words.specs.Words.{if◌then◌otherwise◌}

-- What has been played so far: what the last event left, and all reply frames with their number.
pub record Playing : Type 0 where
  pub left : Outcome
  pub said : List ℕ
  pub frames : ℕ

-- Before any event nothing has been said.
abbrev pub before_playing : Chip → Memory → List ℕ → Playing
before_playing c m room = record { left = before c m room; said = []; frames = 0 }

-- An event was answered: its reply frames are the first bytes of the room.
unfoldable pub answering : Result Sent Refusal → Outcome → Playing → Playing
answering (Ok sent) o x = record { left = o; said = x.said ++ take sent.bytes o.room; frames = x.frames + sent.frames }
answering (Err r) o x = record { left = o; said = x.said; frames = x.frames }

-- Only a refusal stops what is played. (From a fresh chip on there is none: claims_good.)
unfoldable pub goes_on : Result Sent Refusal → Playing → Playing → Playing
goes_on (Ok sent) rest stopped = rest
goes_on (Err r) rest stopped = stopped

-- Events one after the other.
unfoldable pub played : Part → List Event → Playing → Playing
played p [] x = x
played p (v ∷ vs) x =
    let o = onward p x.left v in
    let y = answering o.answer o x in
    goes_on o.answer (played p vs y) y

-- The events of a record: "Kind 00h is a gap (count 0); 01h carries 1 to 6 bytes", in the new form 1 to 8. Replay "skips seat 1".
unfoldable pub events_of : Form → Result Record BadRecord → List ℕ → List Event
events_of form (Ok GapRecord) bs = Gap ∷ []
events_of form (Ok (BytesRecord n)) bs = map Byte (carried_bytes form n bs)
events_of form (Ok OtherSeat) bs = []
events_of form (Err _) bs = []

-- What playing leaves: how it ended, the chip, flash and the kept sums, the room, and the reply frames from the start of the lent output.
pub record RecordPlaying : Type 0 where
  pub ended : Result Sent Unplayed
  pub chip : Chip
  pub memory : Memory
  pub room : List ℕ
  pub output : List ℕ

abbrev pub record_playing : PlayedRecord → Memory → List ℕ → List ℕ → RecordPlaying
record_playing t m room output = record { ended = t.ended; chip = t.chip; memory = m; room = room; output = output }

unfoldable pub ended_by : Result Sent Refusal → Playing → Result Sent Unplayed
ended_by (Ok sent) x = Ok (sent_as (length x.said) x.frames)
ended_by (Err r) x = Err (Unplayed.Refused r)

unfoldable pub played_into : Playing → List ℕ → RecordPlaying
played_into x output =
    record {
      ended = ended_by x.left.answer x;
      chip = x.left.chip;
      memory = x.left.memory;
      room = x.left.room;
      output = x.said ++ drop (length x.said) output;
    }

-- Each byte has a reply of at most 31 bytes: 32 bytes of output for each that a record can carry always suffice (192 in the old form, 256 in the new), and with
-- fewer none is played.
abbrev pub output_least : Form → ℕ
output_least form = 32 * data_size form

abbrev pub unchanged : Result Sent Unplayed → Chip → Memory → List ℕ → List ℕ → RecordPlaying
unchanged t c m room output = record { ended = t; chip = c; memory = m; room = room; output = output }

unfoldable pub play_with : Form → List Event → Part → Chip → Memory → List ℕ → List ℕ → RecordPlaying
play_with form vs p c m room output =
    if ltb (length output) (output_least form) then unchanged (Err OutputShort) c m room output
    otherwise played_into (played p vs (before_playing c m room)) output

-- A record is judged whole before any of its bytes is fed, whichever seat's it is.
unfoldable pub play_by : Form → Result Record BadRecord → Part → List ℕ → Chip → Memory → List ℕ → List ℕ → RecordPlaying
play_by form (Ok GapRecord) p bs c m room output = play_with form (events_of form (Ok GapRecord) bs) p c m room output
play_by form (Ok (BytesRecord n)) p bs c m room output = play_with form (events_of form (Ok (BytesRecord n)) bs) p c m room output
play_by form (Ok OtherSeat) p bs c m room output = play_with form (events_of form (Ok OtherSeat) bs) p c m room output
play_by form (Err _) p bs c m room output = unchanged (Err NotGood) c m room output

unfoldable pub play_of : Form → Part → List ℕ → Chip → Memory → List ℕ → List ℕ → RecordPlaying
play_of form p bs c m room output = play_by form (record_of form bs) p bs c m room output
