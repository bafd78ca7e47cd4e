-- No second outcome for the callable functions of `replay_records`, each over the contract that its own `ensures` generates.
-- Assumes nothing.
use mathlib.Core.Path.{◌∙◌, sym}
use Rattle.chip_core.specs.Effect.{memory}
use Rattle.replay_records.specs.Records.{replaying}
use Rattle.claims_outcome.proofs.Outcome.{Once}
use Rattle.replay_records.proofs.replay.Reads as replay
use Rattle.replay_records.proofs.replay.Kinds as replay-kinds
use Rattle.replay_records.proofs.replay_part.Reads as replay-part
use Rattle.replay_records.proofs.replay_part.Kinds as replay-part-kinds

pub replay-once : Once replay-kinds.ps replay-kinds.r replay.Post
    (λ κs r x. replaying r (memory x.1.1.1.1.0.now x.1.1.1.1.1.0.now x.1.1.1.1.1.1.0.now) x.1.1.1.1.1.1.1.0.now x.1.1.1.1.1.1.1.1.0.now)
replay-once κs a r s x y p q = p ∙ sym q

pub replay-part-once : Once replay-part-kinds.ps replay-part-kinds.r replay-part.Post (λ κs r x. r)
replay-part-once κs a r s x y p q = p ∙ sym q
