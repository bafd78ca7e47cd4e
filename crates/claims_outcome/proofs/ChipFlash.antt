-- No second outcome for the callable functions of `chip_flash`, each over the contract that its own `ensures` generates.
-- Assumes nothing.
use mathlib.Core.Path.{◌∙◌, sym}
use Rattle.lent.specs.Lent.{left}
use Rattle.claims_outcome.proofs.Outcome.{Once}
use Rattle.chip_flash.proofs.is_blank.Reads as is-blank
use Rattle.chip_flash.proofs.is_blank.Kinds as is-blank-kinds
use Rattle.chip_flash.proofs.erase.Reads as erase
use Rattle.chip_flash.proofs.erase.Kinds as erase-kinds
use Rattle.chip_flash.proofs.lands.Reads as lands
use Rattle.chip_flash.proofs.lands.Kinds as lands-kinds
use Rattle.chip_flash.proofs.program.Reads as program
use Rattle.chip_flash.proofs.program.Kinds as program-kinds
use Rattle.chip_flash.proofs.sum.Reads as sum
use Rattle.chip_flash.proofs.sum.Kinds as sum-kinds

pub is-blank-once : Once is-blank-kinds.ps is-blank-kinds.r is-blank.Post (λ κs r x. r)
is-blank-once κs a r s x y p q = p ∙ sym q

pub erase-once : Once erase-kinds.ps erase-kinds.r erase.Post (λ κs r x. left r x.0.now)
erase-once κs a r s x y p q = p ∙ sym q

pub lands-once : Once lands-kinds.ps lands-kinds.r lands.Post (λ κs r x. r)
lands-once κs a r s x y p q = p ∙ sym q

pub program-once : Once program-kinds.ps program-kinds.r program.Post (λ κs r x. x.0.now)
program-once κs a r s x y p q = p ∙ sym q

pub sum-once : Once sum-kinds.ps sum-kinds.r sum.Post (λ κs r x. r)
sum-once κs a r s x y p q = p ∙ sym q
