-- No second outcome for the callable functions of `chip_sums`, each over the contract that its own `ensures` generates.
-- Assumes nothing.
use mathlib.Core.Path.{◌∙◌, sym}
use Rattle.chip_sums.specs.Sums.{summing}
use Rattle.claims_outcome.proofs.Outcome.{Once}
use Rattle.chip_sums.proofs.kept.Reads as kept
use Rattle.chip_sums.proofs.kept.Kinds as kept-kinds
use Rattle.chip_sums.proofs.resum.Reads as resum
use Rattle.chip_sums.proofs.resum.Kinds as resum-kinds
use Rattle.chip_sums.proofs.work_out.Reads as work-out
use Rattle.chip_sums.proofs.work_out.Kinds as work-out-kinds
use Rattle.chip_sums.proofs.flash_verdict.Reads as flash-verdict
use Rattle.chip_sums.proofs.flash_verdict.Kinds as flash-verdict-kinds

pub kept-once : Once kept-kinds.ps kept-kinds.r kept.Post (λ κs r x. r)
kept-once κs a r s x y p q = p ∙ sym q

pub resum-once : Once resum-kinds.ps resum-kinds.r resum.Post (λ κs r x. x.1.1.1.1.0.now)
resum-once κs a r s x y p q = p ∙ sym q

pub work-out-once : Once work-out-kinds.ps work-out-kinds.r work-out.Post (λ κs r x. summing r x.1.1.1.0.now)
work-out-once κs a r s x y p q = p ∙ sym q

pub flash-verdict-once : Once flash-verdict-kinds.ps flash-verdict-kinds.r flash-verdict.Post (λ κs r x. r)
flash-verdict-once κs a r s x y p q = p ∙ sym q
