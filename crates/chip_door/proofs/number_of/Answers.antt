-- `chip_door::number_of` meets its contract: by the two ways a call ends.
-- Assumes nothing.
use borrow.Author.Rules.{rules}
use Rattle.chip_layout.proofs.Laws.{accepted-number, refused-number}
use Rattle.chip_door.proofs.number_of.Goals as goal

pub returns-in-Err : goal.returns-in-Err
returns-in-Err c = rw (c.in-Err.is, ← refused-number) (search rules)

pub returns-in-Ok : goal.returns-in-Ok
returns-in-Ok c = rw c.in-Ok.is accepted-number
