-- No second outcome for the callable functions of `dock_door`, each over the contract that its own `ensures` generates.
-- Assumes nothing.
use mathlib.Core.Path.{◌∙◌, sym}
use Rattle.dock_door.specs.Calls.{ask_told, hear_told, start_told}
use Rattle.claims_outcome.proofs.Outcome.{Once}
use Rattle.dock_door.proofs.zc_start.Reads as zc-start
use Rattle.dock_door.proofs.zc_start.Kinds as zc-start-kinds
use Rattle.dock_door.proofs.zc_ask.Reads as zc-ask
use Rattle.dock_door.proofs.zc_ask.Kinds as zc-ask-kinds
use Rattle.dock_door.proofs.zc_answer.Reads as zc-answer
use Rattle.dock_door.proofs.zc_answer.Kinds as zc-answer-kinds
use Rattle.dock_door.proofs.zc_timeout.Reads as zc-timeout
use Rattle.dock_door.proofs.zc_timeout.Kinds as zc-timeout-kinds
use Rattle.dock_door.proofs.zc_wants.Reads as zc-wants
use Rattle.dock_door.proofs.zc_wants.Kinds as zc-wants-kinds

pub zc-start-once : Once zc-start-kinds.ps zc-start-kinds.r zc-start.Post (λ κs r x. start_told r x.1.1.1.0.now)
zc-start-once κs a r s x y p q = p ∙ sym q

pub zc-ask-once : Once zc-ask-kinds.ps zc-ask-kinds.r zc-ask.Post
    (λ κs r x. ask_told r x.1.1.1.1.1.0.now x.1.1.1.0.now x.1.1.1.1.0.now)
zc-ask-once κs a r s x y p q = p ∙ sym q

pub zc-answer-once : Once zc-answer-kinds.ps zc-answer-kinds.r zc-answer.Post (λ κs r x. hear_told r x.1.1.1.1.1.0.now x.1.1.1.0.now)
zc-answer-once κs a r s x y p q = p ∙ sym q

pub zc-timeout-once : Once zc-timeout-kinds.ps zc-timeout-kinds.r zc-timeout.Post (λ κs r x. hear_told r x.1.1.1.1.0.now x.1.1.1.0.now)
zc-timeout-once κs a r s x y p q = p ∙ sym q

pub zc-wants-once : Once zc-wants-kinds.ps zc-wants-kinds.r zc-wants.Post (λ κs r x. r)
zc-wants-once κs a r s x y p q = p ∙ sym q
