-- No second outcome for the callable functions of `chip_reply`, each over the contract that its own `ensures` generates.
-- Assumes nothing.
use mathlib.Core.Path.{◌∙◌, sym}
use Rattle.chip_reply.specs.Reply.{said}
use Rattle.claims_outcome.proofs.Outcome.{Once}
use Rattle.chip_reply.proofs.Reply.fault.Reads as Reply-fault
use Rattle.chip_reply.proofs.Reply.fault.Kinds as Reply-fault-kinds
use Rattle.chip_reply.proofs.send.Reads as send
use Rattle.chip_reply.proofs.send.Kinds as send-kinds

pub Reply-fault-once : Once Reply-fault-kinds.ps Reply-fault-kinds.r Reply-fault.Post (λ κs r x. r)
Reply-fault-once κs a r s x y p q = p ∙ sym q

pub send-once : Once send-kinds.ps send-kinds.r send.Post (λ κs r x. said r x.1.1.1.0.now)
send-once κs a r s x y p q = p ∙ sym q
