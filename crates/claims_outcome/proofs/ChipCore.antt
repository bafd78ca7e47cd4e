-- No second outcome for the callable functions of `chip_core`, each over the contract that its own `ensures` generates.
-- Assumes nothing.
use mathlib.Core.Path.{◌∙◌, sym}
use Rattle.claims_outcome.proofs.Outcome.{Once}
use Rattle.chip_core.proofs.Phase.hearing.Reads as Phase-hearing
use Rattle.chip_core.proofs.Phase.hearing.Kinds as Phase-hearing-kinds
use Rattle.chip_core.proofs.Core.entered.Reads as Core-entered
use Rattle.chip_core.proofs.Core.entered.Kinds as Core-entered-kinds
use Rattle.chip_core.proofs.area_bytes.Reads as area-bytes
use Rattle.chip_core.proofs.area_bytes.Kinds as area-bytes-kinds
use Rattle.chip_core.proofs.says.Reads as says
use Rattle.chip_core.proofs.says.Kinds as says-kinds
use Rattle.chip_core.proofs.awaiting.Reads as awaiting
use Rattle.chip_core.proofs.awaiting.Kinds as awaiting-kinds

pub Phase-hearing-once : Once Phase-hearing-kinds.ps Phase-hearing-kinds.r Phase-hearing.Post (λ κs r x. r)
Phase-hearing-once κs a r s x y p q = p ∙ sym q

pub Core-entered-once : Once Core-entered-kinds.ps Core-entered-kinds.r Core-entered.Post (λ κs r x. r)
Core-entered-once κs a r s x y p q = p ∙ sym q

pub says-once : Once says-kinds.ps says-kinds.r says.Post (λ κs r x. r)
says-once κs a r s x y p q = p ∙ sym q

pub awaiting-once : Once awaiting-kinds.ps awaiting-kinds.r awaiting.Post (λ κs r x. r)
awaiting-once κs a r s x y p q = p ∙ sym q

pub area-bytes-once : Once area-bytes-kinds.ps area-bytes-kinds.r area-bytes.Post (λ κs r x. r.now)
area-bytes-once κs a r s x y p q = p ∙ sym q
