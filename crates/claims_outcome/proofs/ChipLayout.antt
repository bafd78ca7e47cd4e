-- No second outcome for the callable functions of `chip_layout`, each over the contract that its own `ensures` generates.
-- Assumes nothing.
use mathlib.Core.Path.{◌∙◌, sym}
use Rattle.claims_outcome.proofs.Outcome.{Once}
use Rattle.chip_layout.proofs.admission.chip_admission.Reads as admission-chip-admission
use Rattle.chip_layout.proofs.admission.chip_admission.Kinds as admission-chip-admission-kinds
use Rattle.chip_layout.proofs.admission.chip_acceptance.Reads as admission-chip-acceptance
use Rattle.chip_layout.proofs.admission.chip_acceptance.Kinds as admission-chip-acceptance-kinds
use Rattle.chip_layout.proofs.admission.judge.Reads as admission-judge
use Rattle.chip_layout.proofs.admission.judge.Kinds as admission-judge-kinds
use Rattle.chip_layout.proofs.chip_in.Reads as chip-in
use Rattle.chip_layout.proofs.chip_in.Kinds as chip-in-kinds
use Rattle.chip_layout.proofs.lay_chip.Reads as lay-chip
use Rattle.chip_layout.proofs.lay_chip.Kinds as lay-chip-kinds
use Rattle.chip_layout.proofs.in_place.lay_count.Reads as in-place-lay-count
use Rattle.chip_layout.proofs.in_place.lay_count.Kinds as in-place-lay-count-kinds
use Rattle.chip_layout.proofs.in_place.is_added.Reads as in-place-is-added
use Rattle.chip_layout.proofs.in_place.is_added.Kinds as in-place-is-added-kinds
use Rattle.chip_layout.proofs.in_place.add_byte.Reads as in-place-add-byte
use Rattle.chip_layout.proofs.in_place.add_byte.Kinds as in-place-add-byte-kinds

pub admission-chip-admission-once : Once admission-chip-admission-kinds.ps admission-chip-admission-kinds.r admission-chip-admission.Post (λ κs r x. r)
admission-chip-admission-once κs a r s x y p q = p ∙ sym q

pub admission-chip-acceptance-once : Once admission-chip-acceptance-kinds.ps admission-chip-acceptance-kinds.r admission-chip-acceptance.Post (λ κs r x. r)
admission-chip-acceptance-once κs a r s x y p q = p ∙ sym q

pub admission-judge-once : Once admission-judge-kinds.ps admission-judge-kinds.r admission-judge.Post (λ κs r x. r)
admission-judge-once κs a r s x y p q = p ∙ sym q

pub chip-in-once : Once chip-in-kinds.ps chip-in-kinds.r chip-in.Post (λ κs r x. r)
chip-in-once κs a r s x y p q = p ∙ sym q

pub lay-chip-once : Once lay-chip-kinds.ps lay-chip-kinds.r lay-chip.Post (λ κs r x. x.1.0.now)
lay-chip-once κs a r s x y p q = p ∙ sym q

pub in-place-lay-count-once : Once in-place-lay-count-kinds.ps in-place-lay-count-kinds.r in-place-lay-count.Post (λ κs r x. x.0.now)
in-place-lay-count-once κs a r s x y p q = p ∙ sym q

pub in-place-is-added-once : Once in-place-is-added-kinds.ps in-place-is-added-kinds.r in-place-is-added.Post (λ κs r x. r)
in-place-is-added-once κs a r s x y p q = p ∙ sym q

pub in-place-add-byte-once : Once in-place-add-byte-kinds.ps in-place-add-byte-kinds.r in-place-add-byte.Post (λ κs r x. x.0.now)
in-place-add-byte-once κs a r s x y p q = p ∙ sym q
