-- `conversion::first_not` meets its contract: what is found among the records still to come stays the same from turn to turn.
-- Assumes nothing.
use mathlib.Core.Path.{◌≡◌}
use Rattle.replay_capture.specs.Capture.{record_size, records_of}
use Rattle.conversion.proofs.First.{FoundFrom}
use Rattle.conversion.proofs.Tail.{Left}
use Rattle.conversion.specs.Conversion.{first_not}
use Rattle.conversion.proofs.first_not.Given as goal

abbrev pub invariant-loop-n : goal.invariant-loop-n
invariant-loop-n l =
    (goal.iterator-loop-n).can_next l.n-iterator
    × (goal.iterator-loop-n).is_finite l.n-iterator
    × (l.n-iterator.iter.size ≡ record_size l.form)
    × FoundFrom l.form l.asked l.n-iterator.iter.rest.now l.n-iterator.count (first_not l.form l.asked (records_of (record_size l.form) l.capture))
    × Left l.size l.capture l.n-iterator.iter.rest.now l.n-iterator.count l.tail
