-- No second outcome for the callable functions of `chip_feed`, each over the contract that its own `ensures` generates.
-- Assumes nothing.
use mathlib.Core.Path.{◌∙◌, sym}
use Rattle.chip_core.specs.Effect.{memory}
use Rattle.chip_feed.specs.Feed.{fed}
use Rattle.claims_outcome.proofs.Outcome.{Once}
use Rattle.chip_feed.proofs.feed.Reads as feed
use Rattle.chip_feed.proofs.feed.Kinds as feed-kinds

pub feed-once : Once feed-kinds.ps feed-kinds.r feed.Post (λ κs r x. fed r (memory x.1.1.1.0.now x.1.1.1.1.0.now x.1.1.1.1.1.0.now) x.1.1.1.1.1.1.0.now)
feed-once κs a r s x y p q = p ∙ sym q
