-- No second outcome for the callable function of `engine`, over the contract that its own `ensures` generates.
-- Assumes nothing.
use mathlib.Core.Path.{◌∙◌, sym}
use Rattle.chip_core.specs.Effect.{memory}
use Rattle.claims_outcome.proofs.Outcome.{Once}
use Rattle.engine.proofs.play.Reads as play
use Rattle.engine.proofs.play.Kinds as play-kinds
use Rattle.engine.specs.Engine.{engine_left}

pub play-once : Once play-kinds.ps play-kinds.r play.Post (λ κs r x. engine_left r (memory x.1.1.1.0.now x.1.1.1.1.0.now x.1.1.1.1.1.0.now) x.1.1.1.1.1.1.0.now)
play-once κs a r s x y p q = p ∙ sym q
