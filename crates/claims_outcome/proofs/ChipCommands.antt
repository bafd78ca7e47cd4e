-- No second outcome for the callable functions of `chip_commands`, each over the contract that its own `ensures` generates.
-- Assumes nothing.
use mathlib.Core.Path.{◌∙◌, sym}
use Rattle.chip_core.specs.Effect.{effect, memory}
use Rattle.claims_outcome.proofs.Outcome.{Once}
use Rattle.chip_commands.proofs.command.Reads as command
use Rattle.chip_commands.proofs.command.Kinds as command-kinds

pub command-once : Once command-kinds.ps command-kinds.r command.Post (λ κs r x. effect r (memory x.1.1.1.0.now x.1.1.1.1.0.now x.1.1.1.1.1.0.now))
command-once κs a r s x y p q = p ∙ sym q
