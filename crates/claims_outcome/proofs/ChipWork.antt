-- No second outcome for the callable functions of `chip_work`, each over the contract that its own `ensures` generates.
-- Assumes nothing.
use mathlib.Core.Path.{◌∙◌, sym}
use Rattle.chip_core.specs.Effect.{effect, memory}
use Rattle.claims_outcome.proofs.Outcome.{Once}
use Rattle.chip_work.proofs.rate_set.Reads as rate-set
use Rattle.chip_work.proofs.rate_set.Kinds as rate-set-kinds
use Rattle.chip_work.proofs.block_erase.Reads as block-erase
use Rattle.chip_work.proofs.block_erase.Kinds as block-erase-kinds
use Rattle.chip_work.proofs.blank_check.Reads as blank-check
use Rattle.chip_work.proofs.blank_check.Kinds as blank-check-kinds
use Rattle.chip_work.proofs.programming.Reads as programming
use Rattle.chip_work.proofs.programming.Kinds as programming-kinds
use Rattle.chip_work.proofs.verify.Reads as verify
use Rattle.chip_work.proofs.verify.Kinds as verify-kinds
use Rattle.chip_work.proofs.checksum.Reads as checksum
use Rattle.chip_work.proofs.checksum.Kinds as checksum-kinds
use Rattle.chip_work.proofs.release.Reads as release
use Rattle.chip_work.proofs.release.Kinds as release-kinds

pub rate-set-once : Once rate-set-kinds.ps rate-set-kinds.r rate-set.Post (λ κs r x. r)
rate-set-once κs a r s x y p q = p ∙ sym q

pub block-erase-once : Once block-erase-kinds.ps block-erase-kinds.r block-erase.Post (λ κs r x. effect r (memory x.1.1.1.0.now x.1.1.1.1.0.now x.1.1.1.1.1.0.now))
block-erase-once κs a r s x y p q = p ∙ sym q

pub blank-check-once : Once blank-check-kinds.ps blank-check-kinds.r blank-check.Post (λ κs r x. r)
blank-check-once κs a r s x y p q = p ∙ sym q

pub programming-once : Once programming-kinds.ps programming-kinds.r programming.Post (λ κs r x. r)
programming-once κs a r s x y p q = p ∙ sym q

pub verify-once : Once verify-kinds.ps verify-kinds.r verify.Post (λ κs r x. r)
verify-once κs a r s x y p q = p ∙ sym q

pub checksum-once : Once checksum-kinds.ps checksum-kinds.r checksum.Post (λ κs r x. r)
checksum-once κs a r s x y p q = p ∙ sym q

pub release-once : Once release-kinds.ps release-kinds.r release.Post (λ κs r x. r)
release-once κs a r s x y p q = p ∙ sym q
