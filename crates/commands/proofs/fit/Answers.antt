-- `commands::fit` meets its contract: the LEN's test is the definition's.
-- Assumes nothing.
use borrow.Author.Tests.{eq-eqb, ne_eqb}
use Rattle.commands.specs.Commands.{fitted}
use Rattle.words.specs.Words.{if◌then◌otherwise◌}
use Rattle.commands.proofs.fit.Goals as goal

pub returns-then-n-len : goal.returns-then-n-len
unfolding fitted if◌then◌otherwise◌
returns-then-n-len c = simp (eq-eqb _ _ c.if-n-len.true)

pub returns : goal.returns
unfolding fitted if◌then◌otherwise◌
returns c = simp (ne_eqb _ _ c.if-n-len.false)
