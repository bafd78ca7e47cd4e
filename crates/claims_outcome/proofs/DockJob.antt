-- No second outcome for the callable functions of `dock_job`, each over the contract that its own `ensures` generates.
-- Assumes nothing.
use mathlib.Core.Path.{◌∙◌, sym}
use Rattle.claims_outcome.proofs.Outcome.{Once}
use Rattle.dock_job.proofs.refusals.verdict.Reads as refusals-verdict
use Rattle.dock_job.proofs.refusals.verdict.Kinds as refusals-verdict-kinds
use Rattle.dock_job.proofs.Job.area.Reads as Job-area
use Rattle.dock_job.proofs.Job.area.Kinds as Job-area-kinds
use Rattle.dock_job.proofs.Job.blocks.Reads as Job-blocks
use Rattle.dock_job.proofs.Job.blocks.Kinds as Job-blocks-kinds
use Rattle.dock_job.proofs.Job.block_size.Reads as Job-block-size
use Rattle.dock_job.proofs.Job.block_size.Kinds as Job-block-size-kinds
use Rattle.dock_job.proofs.Job.pages.Reads as Job-pages
use Rattle.dock_job.proofs.Job.pages.Kinds as Job-pages-kinds
use Rattle.dock_job.proofs.Stage.is_over.Reads as Stage-is-over
use Rattle.dock_job.proofs.Stage.is_over.Kinds as Stage-is-over-kinds

pub refusals-verdict-once : Once refusals-verdict-kinds.ps refusals-verdict-kinds.r refusals-verdict.Post (λ κs r x. r)
refusals-verdict-once κs a r s x y p q = p ∙ sym q

pub Job-area-once : Once Job-area-kinds.ps Job-area-kinds.r Job-area.Post (λ κs r x. r)
Job-area-once κs a r s x y p q = p ∙ sym q

pub Job-blocks-once : Once Job-blocks-kinds.ps Job-blocks-kinds.r Job-blocks.Post (λ κs r x. r)
Job-blocks-once κs a r s x y p q = p ∙ sym q

pub Job-block-size-once : Once Job-block-size-kinds.ps Job-block-size-kinds.r Job-block-size.Post (λ κs r x. r)
Job-block-size-once κs a r s x y p q = p ∙ sym q

pub Job-pages-once : Once Job-pages-kinds.ps Job-pages-kinds.r Job-pages.Post (λ κs r x. r)
Job-pages-once κs a r s x y p q = p ∙ sym q

pub Stage-is-over-once : Once Stage-is-over-kinds.ps Stage-is-over-kinds.r Stage-is-over.Post (λ κs r x. r)
Stage-is-over-once κs a r s x y p q = p ∙ sym q
