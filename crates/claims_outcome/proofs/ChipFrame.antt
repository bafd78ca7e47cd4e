-- No second outcome for the callable functions of `chip_frame`, each over the contract that its own `ensures` generates.
-- Assumes nothing.
use mathlib.Core.Path.{◌∙◌, sym}
use Rattle.chip_core.specs.Effect.{effect, memory}
use Rattle.claims_outcome.proofs.Outcome.{Once}
use Rattle.chip_frame.proofs.frame_does.Reads as frame-does
use Rattle.chip_frame.proofs.frame_does.Kinds as frame-does-kinds
use Rattle.chip_frame.proofs.mode_byte.Reads as mode-byte
use Rattle.chip_frame.proofs.mode_byte.Kinds as mode-byte-kinds

pub mode-byte-once : Once mode-byte-kinds.ps mode-byte-kinds.r mode-byte.Post (λ κs r x. r)
mode-byte-once κs a r s x y p q = p ∙ sym q

pub frame-does-once : Once frame-does-kinds.ps frame-does-kinds.r frame-does.Post (λ κs r x. effect r (memory x.1.1.1.0.now x.1.1.1.1.0.now x.1.1.1.1.1.0.now))
frame-does-once κs a r s x y p q = p ∙ sym q
