-- No second outcome for the callable functions of `dock_answer`, each over the contract that its own `ensures` generates.
-- Assumes nothing.
use mathlib.Core.Path.{◌∙◌, sym}
use Rattle.claims_outcome.proofs.Outcome.{Once}
use Rattle.dock_answer.proofs.read.Reads as read
use Rattle.dock_answer.proofs.read.Kinds as read-kinds
use Rattle.dock_answer.proofs.wanted.Reads as wanted
use Rattle.dock_answer.proofs.wanted.Kinds as wanted-kinds

pub read-once : Once read-kinds.ps read-kinds.r read.Post (λ κs r x. r)
read-once κs a r s x y p q = p ∙ sym q

pub wanted-once : Once wanted-kinds.ps wanted-kinds.r wanted.Post (λ κs r x. r)
wanted-once κs a r s x y p q = p ∙ sym q
