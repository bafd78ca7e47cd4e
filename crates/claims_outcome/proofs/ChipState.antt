-- No second outcome for the callable functions of `chip_state`, each over the contract that its own `ensures` generates.
-- Assumes nothing.
use mathlib.Core.Path.{◌∙◌, sym}
use Rattle.claims_outcome.proofs.Outcome.{Once}
use Rattle.chip_state.proofs.is_good_collected.Reads as is-good-collected
use Rattle.chip_state.proofs.is_good_collected.Kinds as is-good-collected-kinds
use Rattle.chip_state.proofs.is_good_state.Reads as is-good-state
use Rattle.chip_state.proofs.is_good_state.Kinds as is-good-state-kinds
use Rattle.chip_state.proofs.verdict.Reads as verdict
use Rattle.chip_state.proofs.verdict.Kinds as verdict-kinds

pub is-good-collected-once : Once is-good-collected-kinds.ps is-good-collected-kinds.r is-good-collected.Post (λ κs r x. r)
is-good-collected-once κs a r s x y p q = p ∙ sym q

pub is-good-state-once : Once is-good-state-kinds.ps is-good-state-kinds.r is-good-state.Post (λ κs r x. r)
is-good-state-once κs a r s x y p q = p ∙ sym q

pub verdict-once : Once verdict-kinds.ps verdict-kinds.r verdict.Post (λ κs r x. r)
verdict-once κs a r s x y p q = p ∙ sym q
