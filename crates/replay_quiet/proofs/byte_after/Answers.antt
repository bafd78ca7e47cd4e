-- `replay_quiet::byte_after` meets its contract: the byte lies in what is collected, or behind it.
-- Assumes nothing.
use mathlib.Core.Path.{◌∙◌}
use borrow.Author.Rules.{rules}
use Rattle.replay_quiet.proofs.Laws.{behind-at, front_at}
use Rattle.replay_quiet.proofs.byte_after.Goals as goal

pub returns-then-i-count : goal.returns-then-i-count
returns-then-i-count c = front_at _ _ _ _ (search rules) c.if-i-count.true

pub returns : goal.returns
returns c = c.byte_at.ensures ∙ behind-at _ _ _ _ (search rules) c.if-i-count.false
