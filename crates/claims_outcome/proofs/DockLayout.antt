-- No second outcome for the callable functions of `dock_layout`, each over the contract that its own `ensures` generates.
-- Assumes nothing.
use mathlib.Core.Path.{◌∙◌, sym}
use Rattle.claims_outcome.proofs.Outcome.{Once}
use Rattle.dock_layout.proofs.job.job_in.Reads as job-in
use Rattle.dock_layout.proofs.job.job_in.Kinds as job-in-kinds
use Rattle.dock_layout.proofs.dock_in.Reads as dock-in
use Rattle.dock_layout.proofs.dock_in.Kinds as dock-in-kinds
use Rattle.dock_layout.proofs.is_dock.Reads as is-dock
use Rattle.dock_layout.proofs.is_dock.Kinds as is-dock-kinds
use Rattle.dock_layout.proofs.lay_dock.Reads as lay-dock
use Rattle.dock_layout.proofs.lay_dock.Kinds as lay-dock-kinds

pub job-in-once : Once job-in-kinds.ps job-in-kinds.r job-in.Post (λ κs r x. r)
job-in-once κs a r s x y p q = p ∙ sym q

pub dock-in-once : Once dock-in-kinds.ps dock-in-kinds.r dock-in.Post (λ κs r x. r)
dock-in-once κs a r s x y p q = p ∙ sym q

pub is-dock-once : Once is-dock-kinds.ps is-dock-kinds.r is-dock.Post (λ κs r x. r)
is-dock-once κs a r s x y p q = p ∙ sym q

pub lay-dock-once : Once lay-dock-kinds.ps lay-dock-kinds.r lay-dock.Post (λ κs r x. x.1.0.now)
lay-dock-once κs a r s x y p q = p ∙ sym q
