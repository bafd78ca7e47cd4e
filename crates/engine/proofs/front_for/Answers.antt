-- `engine::front_for` meets its contract: the header decides, then whether the frame is whole.
-- Assumes nothing.
use mathlib.Core.Path.{◌∙◌, sym}
use Rattle.engine.proofs.Fronts.{front-holds, front-skips, front-whole}
use Rattle.engine.proofs.front_for.Goals as goal

pub returns-then-byte_at-byte : goal.returns-then-byte_at-byte
returns-then-byte_at-byte c = front-skips _ _ (λ q. c.if-byte_at-byte.true (c.byte_at.ensures ∙ q ∙ sym c.byte.ensures))

pub returns-then-n-eq0 : goal.returns-then-n-eq0
returns-then-n-eq0 c = front-holds _ _ _ (sym c.byte_at.ensures ∙ c.if-byte_at-byte.false ∙ c.byte.ensures) c.whole-n.ensures.0 c.if-n-eq0.true

pub returns : goal.returns
returns c = front-whole _ _ _ (sym c.byte_at.ensures ∙ c.if-byte_at-byte.false ∙ c.byte.ensures) c.whole-n.ensures.0 c.if-n-eq0.false
