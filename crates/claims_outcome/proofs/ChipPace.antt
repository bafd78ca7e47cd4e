-- No second outcome for the callable functions of `chip_pace`, each over the contract that its own `ensures` generates.
-- Assumes nothing.
use mathlib.Core.Path.{◌∙◌, sym}
use Rattle.chip_core.specs.Effect.{memory}
use Rattle.chip_pace.specs.Pace.{paced}
use Rattle.claims_outcome.proofs.Outcome.{Once}
use Rattle.chip_pace.proofs.zp_steps.Reads as zp-steps
use Rattle.chip_pace.proofs.zp_steps.Kinds as zp-steps-kinds

pub zp-steps-once : Once zp-steps-kinds.ps zp-steps-kinds.r zp-steps.Post (λ κs r x. paced r (memory x.1.1.0.now x.1.1.1.0.now x.1.1.1.1.0.now) x.1.1.1.1.1.0.now)
zp-steps-once κs a r s x y p q = p ∙ sym q
