-- No second outcome for the callable functions of `commands`, each over the contract that its own `ensures` generates.
-- Assumes nothing.
use mathlib.Core.Path.{◌∙◌, sym}
use Rattle.frame.specs.Wire.{wrote}
use Rattle.claims_outcome.proofs.Outcome.{Once}
use Rattle.commands.proofs.com.Reads as the-com
use Rattle.commands.proofs.com.Kinds as the-com-kinds
use Rattle.commands.proofs.read.Reads as read
use Rattle.commands.proofs.read.Kinds as read-kinds
use Rattle.commands.proofs.write.Reads as write
use Rattle.commands.proofs.write.Kinds as write-kinds

pub the-com-once : Once the-com-kinds.ps the-com-kinds.r the-com.Post (λ κs r x. r)
the-com-once κs a r s x y p q = p ∙ sym q

pub read-once : Once read-kinds.ps read-kinds.r read.Post (λ κs r x. r)
read-once κs a r s x y p q = p ∙ sym q

pub write-once : Once write-kinds.ps write-kinds.r write.Post (λ κs r x. wrote r x.0.now)
write-once κs a r s x y p q = p ∙ sym q
