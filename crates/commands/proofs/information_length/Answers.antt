-- `commands::information_length` meets its contract: each command's information.
-- Assumes nothing.
use native.Mathlib.Omega.{arith}
use lib.ListN.{length-append}
use Rattle.commands.proofs.Laws.{low3_long}
use Rattle.commands.specs.Commands.{information_of}
use Rattle.commands.proofs.information_length.Goals as goal

pub returns-in-BlankCheck : goal.returns-in-BlankCheck
unfolding information_of
returns-in-BlankCheck c = (simp (c.in-BlankCheck.is, length-append, low3_long), omega arith)
