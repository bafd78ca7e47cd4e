-- Replay of a capture, of either form: document 01, "Replay", and 02, section 5. Its records are played one after the other, up to the first that
-- is not good; the reply frames stand end to end.
use Rattle.std.specs.Prelude.{List, [], ◌++◌, ◌∷◌, ◌+◌, ℕ, drop, take, Err, Ok, Result}
use Rattle.replay_capture.specs.Capture.{record_size, records_of}
use Rattle.replay_capture.specs.declared.Form.{Form}
use Rattle.chip_state.specs.declared.Chip.{Chip}
use Rattle.chip_core.specs.Effect.{Memory}
use Rattle.part.specs.declared.Part.{Part}
use Rattle.replay_play.specs.declared.Unplayed.TheVariants.{NotGood, OutputShort}
use Rattle.replay_play.specs.declared.Unplayed.{Unplayed}
use Rattle.chip_reply.specs.declared.Sent.{Sent}
use Rattle.replay_records.specs.declared.Halt.TheVariants.{AtBadRecord, OutputFull}
use Rattle.replay_records.specs.declared.Halt.{Halt}
use Rattle.replay_records.specs.declared.Replayed.{Replayed}
use Rattle.replay_play.specs.Play.{RecordPlaying, play_of}

-- A capture's records one after the other: how it ended, how many records were played, how many bytes and frames of replies stand in the output, and what
-- the last record left.
pub record Replaying : Type 0 where
  pub ended : Result Unit Halt
  pub records : ℕ
  pub bytes : ℕ
  pub frames : ℕ
  pub chip : Chip
  pub memory : Memory
  pub room : List ℕ
  pub output : List ℕ

abbrev pub replaying : Replayed → Memory → List ℕ → List ℕ → Replaying
replaying r m room output =
    record {
      ended = r.ended;
      records = r.records;
      bytes = r.bytes;
      frames = r.frames;
      chip = r.chip;
      memory = m;
      room = room;
      output = output;
    }

-- A record's replies follow those of the records before it.
abbrev pub after_record : Result Unit Halt → ℕ → ℕ → ℕ → RecordPlaying → Replaying → Replaying
after_record e records bytes frames t x =
    record {
      ended = e;
      records = x.records + records;
      bytes = x.bytes + bytes;
      frames = x.frames + frames;
      chip = t.chip;
      memory = t.memory;
      room = t.room;
      output = take x.bytes x.output ++ t.output;
    }

unfoldable pub next_by : Result Sent Unplayed → RecordPlaying → Replaying → Replaying
next_by (Ok sent) t x = after_record (Ok tt) 1 sent.bytes sent.frames t x
next_by (Err NotGood) t x = after_record (Err AtBadRecord) 0 0 0 t x
next_by (Err OutputShort) t x = after_record (Err OutputFull) 0 0 0 t x
next_by (Err (Unplayed.Refused r)) t x = after_record (Err (Halt.Refused r)) 0 0 0 t x

abbrev pub next_of : Form → Part → List ℕ → Replaying → Replaying
next_of form p r x =
    let t = play_of form p r x.chip x.memory x.room (drop x.bytes x.output) in
    next_by t.ended t x

-- "a bad or short record prints `BAD`, a space and its number from 0, and stops there": its number is that of the records before it, whichever seat's they are.
unfoldable pub while_whole : Result Unit Halt → Replaying → Replaying → Replaying
while_whole (Ok _) rest x = rest
while_whole (Err AtBadRecord) rest x = x
while_whole (Err OutputFull) rest x = x
while_whole (Err (Halt.Refused r)) rest x = x

unfoldable pub replayed_from : Form → Part → List (List ℕ) → Replaying → Replaying
replayed_from form p [] x = x
replayed_from form p (r ∷ rs) x = while_whole (next_of form p r x).ended (replayed_from form p rs (next_of form p r x)) (next_of form p r x)

-- "Replay reads either form, told which"
unfoldable pub replay_of : Form → Part → List ℕ → Chip → Memory → List ℕ → List ℕ → Replaying
replay_of form p capture c m room output =
    replayed_from form p (records_of (record_size form) capture)
    (record { ended = Ok tt; records = 0; bytes = 0; frames = 0; chip = c; memory = m; room = room; output = output })

-- "The chip has 16 code and 4 data blocks, clock 32". Device code, name and version are those of 000, table 3-2, its misprint of one digit mended.
abbrev pub replay_part : Part
replay_part =
    record {
      code_blocks = 16;
      data_blocks = 4;
      clock = 32;
      device = 0x10 ∷ 0x00 ∷ 0x06 ∷ [];
      name = 0x52 ∷ 0x35 ∷ 0x46 ∷ 0x31 ∷ 0x30 ∷ 0x30 ∷ 0x4C ∷ 0x45 ∷ 0x20 ∷ 0x20 ∷ [];
      version = 0x01 ∷ 0x02 ∷ 0x03 ∷ [];
    }
