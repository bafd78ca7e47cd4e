-- `replay_records::replay` meets its contract: what the records still to come make of what was replayed stays the same from turn to turn.
-- Assumes nothing.
use mathlib.Core.Bool.{true}
use mathlib.Core.Path.{◌≡◌}
use Prim.Native.Nat.{◌<◌, ◌^◌}
use lib.ListN.{length}
use Rattle.chip.proofs.Adding.{verdict_at}
use Rattle.part.specs.Part.{Arrays}
use Rattle.std.specs.Prelude.{Ok}
use Rattle.chip_core.specs.Effect.{memory}
use Rattle.replay_capture.specs.Capture.{record_size}
use Rattle.replay_quiet.specs.Quiet.{chip_held}
use Rattle.replay_records.proofs.Loop.{ReplayedFrom}
use Rattle.replay_records.specs.Records.{replay_of}
use Rattle.replay_records.proofs.replay.Given as goal

abbrev pub invariant-loop-record : goal.invariant-loop-record
invariant-loop-record l =
    (length l.code ≡ length l.initial.code)
    × (length l.data ≡ length l.initial.data)
    × (length l.room ≡ length l.initial.room)
    × (length l.output ≡ length l.initial.output)
    × (length l.initial.output < 2 ^ 64)
    × Arrays l.part
    × (length l.held ≡ 260)
    × (l.known ≡ true → verdict_at l.part (chip_held l.core l.held l.count) (memory l.code l.data l.sums) l.room ≡ Ok tt)
    × ReplayedFrom l.form l.part l.capture l.record-iterator.rest.now
    (record { ended = Ok tt; records = l.records; bytes = l.bytes; frames = l.frames; chip = chip_held l.core l.held l.count; memory = memory l.code l.data l.sums; room = l.room; output = l.output })
    (replay_of l.form l.part l.capture (chip_held l.initial.core l.initial.held l.initial.count) (memory l.initial.code l.initial.data l.initial.sums) l.initial.room l.initial.output)
    × (l.record-iterator.size ≡ record_size l.form)
    × (l.ended ≡ Ok tt)
    × (goal.iterator-loop-record).can_next l.record-iterator
    × (goal.iterator-loop-record).is_finite l.record-iterator
