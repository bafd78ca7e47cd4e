-- No second outcome for the callable functions of `replay_door`, each over the contract that its own `ensures` generates.
-- Assumes nothing.
use mathlib.Core.Path.{◌∙◌, sym}
use Rattle.chip_core.specs.Effect.{memory}
use Rattle.replay_door.specs.Calls.{replay_told}
use Rattle.claims_outcome.proofs.Outcome.{Once}
use Rattle.replay_door.proofs.zc_replay.Reads as zc-replay
use Rattle.replay_door.proofs.zc_replay.Kinds as zc-replay-kinds
use Rattle.replay_door.proofs.zc_replay_new.Reads as zc-replay-new
use Rattle.replay_door.proofs.zc_replay_new.Kinds as zc-replay-new-kinds

pub zc-replay-once : Once zc-replay-kinds.ps zc-replay-kinds.r zc-replay.Post
    (λ κs r x. replay_told r x.1.1.1.1.1.1.1.1.0.now x.1.0.now (memory x.1.1.1.0.now x.1.1.1.1.0.now x.1.1.1.1.1.0.now) x.1.1.1.1.1.1.0.now
    x.1.1.1.1.1.1.1.0.now)
zc-replay-once κs a r s x y p q = p ∙ sym q

pub zc-replay-new-once : Once zc-replay-new-kinds.ps zc-replay-new-kinds.r zc-replay-new.Post
    (λ κs r x. replay_told r x.1.1.1.1.1.1.1.1.0.now x.1.0.now (memory x.1.1.1.0.now x.1.1.1.1.0.now x.1.1.1.1.1.0.now) x.1.1.1.1.1.1.0.now
    x.1.1.1.1.1.1.1.0.now)
zc-replay-new-once κs a r s x y p q = p ∙ sym q
