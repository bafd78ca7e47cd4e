-- No second outcome for the callable functions of `replay_hex`, each over the contract that its own `ensures` generates.
-- Assumes nothing.
use mathlib.Core.Path.{◌∙◌, sym}
use Rattle.lent.specs.Lent.{left}
use Rattle.claims_outcome.proofs.Outcome.{Once}
use Rattle.replay_hex.proofs.line.Reads as line
use Rattle.replay_hex.proofs.line.Kinds as line-kinds

pub line-once : Once line-kinds.ps line-kinds.r line.Post (λ κs r x. left r x.1.0.now)
line-once κs a r s x y p q = p ∙ sym q
