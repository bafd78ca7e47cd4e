-- No second outcome for the callable functions of `dock`, each over the contract that its own `ensures` generates.
-- Assumes nothing.
use mathlib.Core.Path.{◌∙◌, sym}
use Rattle.dock.specs.Calls.{asking}
use Rattle.claims_outcome.proofs.Outcome.{Once}
use Rattle.dock.proofs.calls.begin.Reads as calls-begin
use Rattle.dock.proofs.calls.begin.Kinds as calls-begin-kinds
use Rattle.dock.proofs.calls.ask.Reads as calls-ask
use Rattle.dock.proofs.calls.ask.Kinds as calls-ask-kinds
use Rattle.dock.proofs.calls.answer.Reads as calls-answer
use Rattle.dock.proofs.calls.answer.Kinds as calls-answer-kinds
use Rattle.dock.proofs.calls.timeout.Reads as calls-timeout
use Rattle.dock.proofs.calls.timeout.Kinds as calls-timeout-kinds
use Rattle.dock.proofs.calls.wants.Reads as calls-wants
use Rattle.dock.proofs.calls.wants.Kinds as calls-wants-kinds

pub calls-begin-once : Once calls-begin-kinds.ps calls-begin-kinds.r calls-begin.Post (λ κs r x. r)
calls-begin-once κs a r s x y p q = p ∙ sym q

pub calls-ask-once : Once calls-ask-kinds.ps calls-ask-kinds.r calls-ask.Post (λ κs r x. asking r x.1.1.1.0.now)
calls-ask-once κs a r s x y p q = p ∙ sym q

pub calls-answer-once : Once calls-answer-kinds.ps calls-answer-kinds.r calls-answer.Post (λ κs r x. r)
calls-answer-once κs a r s x y p q = p ∙ sym q

pub calls-timeout-once : Once calls-timeout-kinds.ps calls-timeout-kinds.r calls-timeout.Post (λ κs r x. r)
calls-timeout-once κs a r s x y p q = p ∙ sym q

pub calls-wants-once : Once calls-wants-kinds.ps calls-wants-kinds.r calls-wants.Post (λ κs r x. r)
calls-wants-once κs a r s x y p q = p ∙ sym q
