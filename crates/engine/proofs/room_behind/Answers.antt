-- `engine::room_behind` meets its contract: the lesser of what is there and what has a place.
-- Assumes nothing.
use borrow.Author.Tests.{le-ltb, lt-ltb}
use Rattle.words.specs.Words.{if◌then◌otherwise◌}
use Rattle.engine.proofs.room_behind.Goals as goal

pub returns-then-n-count : goal.returns-then-n-count
unfolding if◌then◌otherwise◌
returns-then-n-count c = simp (lt-ltb _ _ c.if-n-count.true)

pub returns : goal.returns
unfolding if◌then◌otherwise◌
returns c = simp (le-ltb _ _ c.if-n-count.false)
