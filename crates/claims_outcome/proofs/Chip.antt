-- No second outcome for the callable functions of `chip`, each over the contract that its own `ensures` generates.
-- Assumes nothing.
use mathlib.Core.Path.{◌∙◌, sym}
use Rattle.chip.specs.Step.{outcome}
use Rattle.chip_core.specs.Effect.{memory}
use Rattle.claims_outcome.proofs.Outcome.{Once}
use Rattle.chip.proofs.events.fresh.Reads as events-fresh
use Rattle.chip.proofs.events.fresh.Kinds as events-fresh-kinds
use Rattle.chip.proofs.events.step.Reads as events-step
use Rattle.chip.proofs.events.step.Kinds as events-step-kinds

pub events-fresh-once : Once events-fresh-kinds.ps events-fresh-kinds.r events-fresh.Post (λ κs r x. r)
events-fresh-once κs a r s x y p q = p ∙ sym q

pub events-step-once : Once events-step-kinds.ps events-step-kinds.r events-step.Post (λ κs r x. outcome r (memory x.1.1.1.0.now x.1.1.1.1.0.now x.1.1.1.1.1.0.now) x.1.1.1.1.1.1.0.now)
events-step-once κs a r s x y p q = p ∙ sym q
