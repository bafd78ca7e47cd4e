-- No second outcome for the callable functions of `replay_play`, each over the contract that its own `ensures` generates.
-- Assumes nothing.
use mathlib.Core.Path.{◌∙◌, sym}
use Rattle.chip_core.specs.Effect.{memory}
use Rattle.replay_play.specs.Play.{record_playing}
use Rattle.claims_outcome.proofs.Outcome.{Once}
use Rattle.replay_play.proofs.output_least.Reads as output-least
use Rattle.replay_play.proofs.output_least.Kinds as output-least-kinds
use Rattle.replay_play.proofs.play.Reads as play
use Rattle.replay_play.proofs.play.Kinds as play-kinds

pub output-least-once : Once output-least-kinds.ps output-least-kinds.r output-least.Post (λ κs r x. r)
output-least-once κs a r s x y p q = p ∙ sym q

pub play-once : Once play-kinds.ps play-kinds.r play.Post (λ κs r x. record_playing r (memory x.1.1.1.1.0.now x.1.1.1.1.1.0.now x.1.1.1.1.1.1.0.now) x.1.1.1.1.1.1.1.0.now x.1.1.1.1.1.1.1.1.0.now)
play-once κs a r s x y p q = p ∙ sym q
