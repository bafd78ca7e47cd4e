-- `replay_quiet::is_accepted` meets its contract: known, or by the chip's verdict.
-- Assumes nothing.
use Rattle.words.specs.Words.{◌or◌}
use Rattle.replay_quiet.proofs.Laws.{accepted-is}
use Rattle.replay_quiet.proofs.is_accepted.Goals as goal

pub returns-then-known : goal.returns-then-known
unfolding ◌or◌
returns-then-known c = simp c.if-known.true

pub returns : goal.returns
unfolding ◌or◌
returns c = simp (c.if-known.false, ← c.verdict.ensures, c.is_ok.ensures.value) (accepted-is c.verdict.result)
