-- `lent::are_all` meets its contract: the flag says of the bytes so far what the contract says of all.
-- Assumes nothing.
use Rattle.std.proofs.Common.{◌≡◌, take}
use Rattle.lent.specs.Lent.{all_are}
use Rattle.lent.proofs.are_all.Given as goal

abbrev pub invariant-loop-b : goal.invariant-loop-b
invariant-loop-b l = l.ok ≡ all_are l.value (take l.b-index l.bytes)
