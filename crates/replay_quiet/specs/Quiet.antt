-- Records that change what is collected alone: document 01, "Replay" and "Frames" ("Collecting"). "A gap drops what is collected and changes nothing else"; bytes
-- after which what is collected is still the front of a frame that is awaited are added to it; and a record of the other seat changes nothing (02, section 5). What
-- playing such a record leaves is said in replay_play; here is which records they are, and where they are settled.
use Rattle.std.specs.Prelude.{Bool, false, true, List, ◌++◌, ℕ, leb, Err, None, Ok, Option, Result, Some}
use Rattle.chip_core.specs.declared.Core.{Core}
use Rattle.chip_core.specs.declared.Phase.{Phase}
use Rattle.chip_state.specs.Refusals.{good_heard, verdict_on}
use Rattle.chip_state.specs.declared.Chip.{Chip}
use Rattle.frame.specs.Collector.{added, collecting, dropped, heard}
use Rattle.frame.specs.declared.collector.Collector.{Collector}
use Rattle.part.specs.declared.Part.{Part}
use Rattle.replay_capture.specs.declared.Record.TheVariants.{BytesRecord, GapRecord, OtherSeat}
use Rattle.replay_capture.specs.declared.BadRecord.{BadRecord}
use Rattle.replay_capture.specs.declared.Record.{Record}
use Rattle.part.specs.declared.refusal.Refusal.{Refusal}
use Rattle.replay_capture.specs.Capture.{carried_bytes, record_of}
use Rattle.replay_capture.specs.declared.Form.{Form}
use Rattle.replay_play.specs.Play.{output_least}
use Rattle.replay_quiet.specs.declared.Lengths.{Lengths}
use Rattle.words.specs.Words.{◌and◌, ◌or◌}

-- A chip by its record, its collector's bytes and their count.
abbrev pub chip_held : Core → List ℕ → ℕ → Chip
chip_held k held count = record { core = k; collector = collecting held count }

-- hs is what has been heard, bs the record's bytes.
unfoldable pub is_quiet : Form → Result Record BadRecord → Phase → List ℕ → List ℕ → Bool
is_quiet form (Ok GapRecord) f hs bs = true
is_quiet form (Ok (BytesRecord n)) f hs bs = good_heard f (hs ++ carried_bytes form n bs)
is_quiet form (Ok OtherSeat) f hs bs = true
is_quiet form (Err _) f hs bs = false

-- What is collected after such a record.
unfoldable pub collected_by : Form → Result Record BadRecord → List ℕ → Collector → Collector
collected_by form (Ok GapRecord) bs c = dropped c
collected_by form (Ok (BytesRecord n)) bs c = added c (carried_bytes form n bs)
collected_by form (Ok OtherSeat) bs c = c
collected_by form (Err _) bs c = c

-- What is left: what became of the record, and all of the lent bytes.
pub record Settling : Type 0 where
  pub quiet : Option ℕ
  pub held : List ℕ

abbrev pub settling : Option ℕ → List ℕ → Settling
settling q l = record { quiet = q; held = l }

unfoldable pub settled_if : Bool → Form → Result Record BadRecord → List ℕ → Collector → Settling
settled_if true form r bs c = settling (Some (collected_by form r bs c).len) (collected_by form r bs c).bytes
settled_if false form r bs c = settling None c.bytes

abbrev pub is_accepted : Result Unit Refusal → Bool
is_accepted (Ok _) = true
is_accepted (Err r) = false

-- The chip accepts the call: it is known to, or its verdict says so.
abbrev pub accepted_in : Bool → Part → Chip → Lengths → Bool
accepted_in known p c l = known or is_accepted (verdict_on p c l.code l.«data» l.room)

-- The record is settled where the output has room for a record's replies, it is quiet, and the chip accepts the call.
unfoldable pub settle_of : Form → Bool → Part → Chip → List ℕ → Lengths → Settling
settle_of form known p c bs l =
    settled_if
    (leb (output_least form) l.output
    and is_quiet form (record_of form bs) c.core.phase (heard c.collector) bs
    and accepted_in known p c l)
    form
    (record_of form bs)
    bs
    c.collector
