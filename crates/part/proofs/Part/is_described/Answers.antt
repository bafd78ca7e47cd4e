-- `part::Part::is_described` meets its contract: each test is the definition's, in its order.
-- Assumes nothing.
use borrow.Author.Rules.{rules}
use Rattle.part.specs.Part.{described}
use Rattle.words.specs.Words.{◌and◌, ◌from◌to◌}
use Rattle.part.proofs.Part.is_described.Goals as goal

pub returns-then-contains-2 : goal.returns-then-contains-2
unfolding described ◌and◌ ◌from◌to◌
returns-then-contains-2 c = search rules

pub returns-else-contains-2 : goal.returns-else-contains-2
unfolding described ◌and◌ ◌from◌to◌
returns-else-contains-2 c = search rules
