-- `conversion::write_records` meets its contract: what stands in the output and what the records still to come add to it stay the same from turn to turn.
-- Assumes nothing.
use mathlib.Core.Path.{◌≡◌}
use Prim.Native.Nat.{◌<◌, ◌^◌}
use lib.ListN.{length}
use Rattle.replay_capture.specs.Capture.{record_size, records_of}
use Rattle.conversion.proofs.Writing.{WritingFrom}
use Rattle.conversion.specs.Conversion.{other, rewritten_all}
use Rattle.conversion.proofs.write_records.Given as goal

abbrev pub invariant-loop-record : goal.invariant-loop-record
invariant-loop-record l =
    (goal.iterator-loop-record).can_next l.record-iterator
    × (goal.iterator-loop-record).is_finite l.record-iterator
    × (l.record-iterator.size ≡ record_size l.from)
    × (length l.initial.output < 2 ^ 64)
    × (l.size_to ≡ record_size (other l.from))
    × WritingFrom l.from l.record-iterator.rest.now l.initial.output l.written l.output (rewritten_all l.from (records_of (record_size l.from) l.capture))
