-- No second outcome for the callable function of `replay_quiet`, over the contract that its own `ensures` generates.
-- Assumes nothing.
use mathlib.Core.Path.{◌∙◌, sym}
use Rattle.replay_quiet.specs.Quiet.{settling}
use Rattle.claims_outcome.proofs.Outcome.{Once}
use Rattle.replay_quiet.proofs.settle.Reads as settle
use Rattle.replay_quiet.proofs.settle.Kinds as settle-kinds

pub settle-once : Once settle-kinds.ps settle-kinds.r settle.Post (λ κs r x. settling r x.1.1.1.1.0.now)
settle-once κs a r s x y p q = p ∙ sym q
