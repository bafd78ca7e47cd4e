-- No second outcome for the callable functions of `chip_pages`, each over the contract that its own `ensures` generates.
-- Assumes nothing.
use mathlib.Core.Path.{◌∙◌, sym}
use Rattle.chip_core.specs.Effect.{effect, memory}
use Rattle.claims_outcome.proofs.Outcome.{Once}
use Rattle.chip_pages.proofs.page.Reads as page
use Rattle.chip_pages.proofs.page.Kinds as page-kinds

pub page-once : Once page-kinds.ps page-kinds.r page.Post (λ κs r x. effect r (memory x.1.1.1.1.0.now x.1.1.1.1.1.0.now x.1.1.1.1.1.1.0.now))
page-once κs a r s x y p q = p ∙ sym q
