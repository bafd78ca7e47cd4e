-- `part::rate::accepts` meets its contract: each test is the definition's, in its order.
-- Assumes nothing.
use borrow.Author.Rules.{rules}
use Rattle.part.specs.Rate.{accepts_rate}
use Rattle.words.specs.Words.{◌and◌, ◌from◌to◌}
use Rattle.part.proofs.rate.accepts.Goals as goal

pub returns-then-rate-le3 : goal.returns-then-rate-le3
unfolding accepts_rate ◌and◌ ◌from◌to◌
returns-then-rate-le3 c = search rules

pub returns-else-rate-le3 : goal.returns-else-rate-le3
unfolding accepts_rate ◌and◌ ◌from◌to◌
returns-else-rate-le3 c = search rules
