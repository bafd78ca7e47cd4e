-- `frame::wire::is_unfit` meets its contract: where LEN fits and the frame has come whole, what follows it decides.
-- Assumes nothing.
use Rattle.std.proofs.Common.{ℕ, ◌+◌, true, false, sym, ap, ◌∙◌}
use Rattle.frame.proofs.Laws.Wire.{unfit-over}
use Rattle.frame.specs.Frame.{counted}
use Rattle.words.specs.Words.{◌and◌}
use Rattle.frame.proofs.wire.is_unfit.Goals as goal

pub returns-then-last : goal.returns-then-last
unfolding ◌and◌
returns-then-last c =
    let len = ap counted c.byte_at-len.ensures in
    let fits = c.if-bytes-end.false in
    unfit-over _ _ _ _ true c.if-last.true (sym (c.counted.ensures ∙ len) ∙ fits.0) (c.needed-end.ensures.0 ∙ ap (λ (x : ℕ). x + 4) len) fits.1

pub returns-else-last : goal.returns-else-last
unfolding ◌and◌
returns-else-last c =
    let len = ap counted c.byte_at-len.ensures in
    let fits = c.if-bytes-end.false in
    c.if-last.false ∙ unfit-over _ _ _ _ false c.if-last.false (sym (c.counted.ensures ∙ len) ∙ fits.0) (c.needed-end.ensures.0 ∙ ap (λ (x : ℕ). x + 4) len) fits.1
