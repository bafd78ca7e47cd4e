-- What a record's turn leaves, and how it ends a capture.
use Rattle.std.specs.Prelude.{List, ℕ}
use Rattle.chip_core.specs.Effect.{Memory}
use Rattle.chip_core.specs.declared.Core.{Core}
use Rattle.replay_play.specs.Play.{RecordPlaying}
use Rattle.replay_quiet.specs.Quiet.{chip_held}
use Rattle.replay_play.specs.declared.Unplayed.TheVariants.{NotGood, OutputShort}
use Rattle.replay_play.specs.declared.Unplayed.{Unplayed}
use Rattle.replay_records.specs.declared.Halt.TheVariants.{AtBadRecord, OutputFull}
use Rattle.replay_records.specs.declared.Halt.{Halt}
use Rattle.replay_records.specs.declared.RecordTurn.{RecordTurn}

abbrev pub turn_left : RecordTurn → Core → List ℕ → Memory → List ℕ → List ℕ → RecordPlaying
turn_left t core held m room output = record { ended = t.ended; chip = chip_held core held t.count; memory = m; room = room; output = output }

-- A record that is not played to its end is the last one.
unfoldable pub halt_of : Unplayed → Halt
halt_of NotGood = AtBadRecord
halt_of OutputShort = OutputFull
halt_of (Unplayed.Refused r) = Halt.Refused r
