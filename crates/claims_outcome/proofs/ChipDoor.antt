-- No second outcome for the callable functions of `chip_door`, each over the contract that its own `ensures` generates.
-- Assumes nothing.
use mathlib.Core.Path.{◌∙◌, sym}
use Rattle.chip_core.specs.Effect.{memory}
use Rattle.chip_door.specs.Calls.{made, step_told, sums_told}
use Rattle.claims_outcome.proofs.Outcome.{Once}
use Rattle.chip_door.proofs.zc_fresh.Reads as zc-fresh
use Rattle.chip_door.proofs.zc_fresh.Kinds as zc-fresh-kinds
use Rattle.chip_door.proofs.zc_sums.Reads as zc-sums
use Rattle.chip_door.proofs.zc_sums.Kinds as zc-sums-kinds
use Rattle.chip_door.proofs.zc_byte.Reads as zc-byte
use Rattle.chip_door.proofs.zc_byte.Kinds as zc-byte-kinds
use Rattle.chip_door.proofs.zc_gap.Reads as zc-gap
use Rattle.chip_door.proofs.zc_gap.Kinds as zc-gap-kinds
use Rattle.chip_door.proofs.zc_power_on.Reads as zc-power-on
use Rattle.chip_door.proofs.zc_power_on.Kinds as zc-power-on-kinds
use Rattle.chip_door.proofs.zc_feed.Reads as zc-feed
use Rattle.chip_door.proofs.zc_feed.Kinds as zc-feed-kinds

pub zc-fresh-once : Once zc-fresh-kinds.ps zc-fresh-kinds.r zc-fresh.Post (λ κs r x. made r x.1.0.now)
zc-fresh-once κs a r s x y p q = p ∙ sym q

pub zc-sums-once : Once zc-sums-kinds.ps zc-sums-kinds.r zc-sums.Post (λ κs r x. sums_told r x.1.1.1.0.now)
zc-sums-once κs a r s x y p q = p ∙ sym q

pub zc-byte-once : Once zc-byte-kinds.ps zc-byte-kinds.r zc-byte.Post
    (λ κs r x. step_told r x.1.1.1.1.1.1.1.0.now x.1.0.now (memory x.1.1.1.0.now x.1.1.1.1.0.now x.1.1.1.1.1.0.now) x.1.1.1.1.1.1.0.now)
zc-byte-once κs a r s x y p q = p ∙ sym q

pub zc-gap-once : Once zc-gap-kinds.ps zc-gap-kinds.r zc-gap.Post
    (λ κs r x. step_told r x.1.1.1.1.1.1.0.now x.1.0.now (memory x.1.1.0.now x.1.1.1.0.now x.1.1.1.1.0.now) x.1.1.1.1.1.0.now)
zc-gap-once κs a r s x y p q = p ∙ sym q

pub zc-power-on-once : Once zc-power-on-kinds.ps zc-power-on-kinds.r zc-power-on.Post
    (λ κs r x. step_told r x.1.1.1.1.1.1.0.now x.1.0.now (memory x.1.1.0.now x.1.1.1.0.now x.1.1.1.1.0.now) x.1.1.1.1.1.0.now)
zc-power-on-once κs a r s x y p q = p ∙ sym q

pub zc-feed-once : Once zc-feed-kinds.ps zc-feed-kinds.r zc-feed.Post
    (λ κs r x. step_told r x.1.1.1.1.1.1.1.0.now x.1.0.now (memory x.1.1.1.0.now x.1.1.1.1.0.now x.1.1.1.1.1.0.now) x.1.1.1.1.1.1.0.now)
zc-feed-once κs a r s x y p q = p ∙ sym q
