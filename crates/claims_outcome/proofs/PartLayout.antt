-- No second outcome for the callable functions of `part_layout`, each over the contract that its own `ensures` generates.
-- Assumes nothing.
use mathlib.Core.Path.{◌∙◌, sym}
use Rattle.claims_outcome.proofs.Outcome.{Once}
use Rattle.part_layout.proofs.part_in.Reads as part_in
use Rattle.part_layout.proofs.part_in.Kinds as part-in-kinds
use Rattle.part_layout.proofs.bare_in.Reads as bare-in
use Rattle.part_layout.proofs.bare_in.Kinds as bare-in-kinds

pub part-in-once : Once part-in-kinds.ps part-in-kinds.r part_in.Post (λ κs r x. r)
part-in-once κs a r s x y p q = p ∙ sym q

pub bare-in-once : Once bare-in-kinds.ps bare-in-kinds.r bare-in.Post (λ κs r x. r)
bare-in-once κs a r s x y p q = p ∙ sym q
