-- No second outcome for the call of `engine_door`, over the contract that its own `ensures` generates.
-- Assumes nothing.
use mathlib.Core.Path.{◌∙◌, sym}
use Rattle.chip_core.specs.Effect.{memory}
use Rattle.claims_outcome.proofs.Outcome.{Once}
use Rattle.engine_door.proofs.zc_engine.Reads as zc-engine
use Rattle.engine_door.proofs.zc_engine.Kinds as zc-engine-kinds
use Rattle.engine_door.specs.Calls.{engine_told}

pub zc-engine-once : Once zc-engine-kinds.ps zc-engine-kinds.r zc-engine.Post
    (λ κs r x. engine_told r x.1.1.1.1.1.1.1.0.now x.1.0.now (memory x.1.1.1.0.now x.1.1.1.1.0.now x.1.1.1.1.1.0.now) x.1.1.1.1.1.1.0.now)
zc-engine-once κs a r s x y p q = p ∙ sym q
