-- `engine::whole` meets its contract: as many bytes as the frame begun needs, or more, hold it.
-- Assumes nothing.
use native.Mathlib.Omega.{arith}
use borrow.Author.Rules.{rules}
use Rattle.engine.specs.Inner.Answering.{whole_of}
use Rattle.frame.proofs.Laws.Collector.{complete-is}
use Rattle.frame.proofs.Laws.Frame.{counted-small}
use Rattle.words.specs.Words.{if◌then◌otherwise◌}
use Rattle.engine.proofs.whole.Goals as goal

pub overflow_add-result : goal.overflow_add-result
overflow_add-result c = omega (arith, counted-small c.byte_at-len.result (search rules))

pub returns-then-is_full : goal.returns-then-is_full
unfolding whole_of if◌then◌otherwise◌
returns-then-is_full c = (simp (complete-is, ← c.byte_at-len.ensures, ← c.is_full.ensures, c.if-is_full.true, ← c.counted.ensures), rw (← c.byte_at-len.ensures) (counted-small c.byte_at-len.result (search rules)))

pub returns : goal.returns
unfolding whole_of if◌then◌otherwise◌
returns c = (simp (complete-is, ← c.byte_at-len.ensures, ← c.is_full.ensures, c.if-is_full.false), rw (← c.byte_at-len.ensures) (counted-small c.byte_at-len.result (search rules)))
