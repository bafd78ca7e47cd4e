-- `replay_quiet::is_front` meets its contract: by the count, the first and the LEN byte of all of it.
-- Assumes nothing.
use mathlib.Core.Path.{refl}
use borrow.Author.Rules.{rules}
use Rattle.replay_quiet.proofs.Laws.{front-is, full-is-none}
use Rattle.replay_quiet.proofs.is_front.Goals as goal

pub returns-then-count-ge-LONGEST : goal.returns-then-count-ge-LONGEST
returns-then-count-ge-LONGEST c = full-is-none _ _ _ _ (search rules) c.if-count-ge-LONGEST.true

pub returns : goal.returns
returns c = front-is _ _ _ _ (search rules) c.if-count-ge-LONGEST.false c.is_good_collected.ensures c.hearing.ensures refl c.byte_after-head.ensures c.byte_after-len.ensures
