-- No second outcome for the callable functions of `conversion_door`, each over the contract that its own `ensures` generates.
-- Assumes nothing.
use mathlib.Core.Path.{◌∙◌, sym}
use Rattle.conversion_door.specs.Calls.{convert_told}
use Rattle.claims_outcome.proofs.Outcome.{Once}
use Rattle.conversion_door.proofs.zc_to_new.Reads as zc-to-new
use Rattle.conversion_door.proofs.zc_to_new.Kinds as zc-to-new-kinds
use Rattle.conversion_door.proofs.zc_to_old.Reads as zc-to-old
use Rattle.conversion_door.proofs.zc_to_old.Kinds as zc-to-old-kinds

pub zc-to-new-once : Once zc-to-new-kinds.ps zc-to-new-kinds.r zc-to-new.Post (λ κs r x. convert_told r x.1.1.0.now x.1.0.now)
zc-to-new-once κs a r s x y p q = p ∙ sym q

pub zc-to-old-once : Once zc-to-old-kinds.ps zc-to-old-kinds.r zc-to-old.Post (λ κs r x. convert_told r x.1.1.0.now x.1.0.now)
zc-to-old-once κs a r s x y p q = p ∙ sym q
