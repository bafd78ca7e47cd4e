-- No second outcome for the callable functions of `dock_flow`, each over the contract that its own `ensures` generates.
-- Assumes nothing.
use mathlib.Core.Path.{◌∙◌, sym}
use Rattle.dock_flow.specs.Frames.{handing}
use Rattle.claims_outcome.proofs.Outcome.{Once}
use Rattle.dock_flow.proofs.frames.hand.Reads as frames-hand
use Rattle.dock_flow.proofs.frames.hand.Kinds as frames-hand-kinds
use Rattle.dock_flow.proofs.first_stage.Reads as first-stage
use Rattle.dock_flow.proofs.first_stage.Kinds as first-stage-kinds
use Rattle.dock_flow.proofs.after_answer.Reads as after-answer
use Rattle.dock_flow.proofs.after_answer.Kinds as after-answer-kinds
use Rattle.dock_flow.proofs.after_timeout.Reads as after-timeout
use Rattle.dock_flow.proofs.after_timeout.Kinds as after-timeout-kinds
use Rattle.dock_flow.proofs.wanted.Reads as wanted
use Rattle.dock_flow.proofs.wanted.Kinds as wanted-kinds

pub frames-hand-once : Once frames-hand-kinds.ps frames-hand-kinds.r frames-hand.Post (λ κs r x. handing r x.1.1.1.0.now)
frames-hand-once κs a r s x y p q = p ∙ sym q

pub first-stage-once : Once first-stage-kinds.ps first-stage-kinds.r first-stage.Post (λ κs r x. r)
first-stage-once κs a r s x y p q = p ∙ sym q

pub after-answer-once : Once after-answer-kinds.ps after-answer-kinds.r after-answer.Post (λ κs r x. r)
after-answer-once κs a r s x y p q = p ∙ sym q

pub after-timeout-once : Once after-timeout-kinds.ps after-timeout-kinds.r after-timeout.Post (λ κs r x. r)
after-timeout-once κs a r s x y p q = p ∙ sym q

pub wanted-once : Once wanted-kinds.ps wanted-kinds.r wanted.Post (λ κs r x. r)
wanted-once κs a r s x y p q = p ∙ sym q
