-- No second outcome for the callable functions of `part`, each over the contract that its own `ensures` generates.
-- Assumes nothing.
use mathlib.Core.Path.{◌∙◌, sym}
use Rattle.claims_outcome.proofs.Outcome.{Once}
use Rattle.part.proofs.rate.accepts.Reads as rate-accepts
use Rattle.part.proofs.rate.accepts.Kinds as rate-accepts-kinds
use Rattle.part.proofs.rate.mode.Reads as rate-mode
use Rattle.part.proofs.rate.mode.Kinds as rate-mode-kinds
use Rattle.part.proofs.refusal.Refusal.number.Reads as refusal-Refusal-number
use Rattle.part.proofs.refusal.Refusal.number.Kinds as refusal-Refusal-number-kinds
use Rattle.part.proofs.signature.bytes.Reads as signature-bytes
use Rattle.part.proofs.signature.bytes.Kinds as signature-bytes-kinds
use Rattle.part.proofs.Area.first.Reads as Area-first
use Rattle.part.proofs.Area.first.Kinds as Area-first-kinds
use Rattle.part.proofs.page_size.Reads as page-size
use Rattle.part.proofs.page_size.Kinds as page-size-kinds
use Rattle.part.proofs.Part.is_described.Reads as Part-is-described
use Rattle.part.proofs.Part.is_described.Kinds as Part-is-described-kinds
use Rattle.part.proofs.Part.blocks.Reads as Part-blocks
use Rattle.part.proofs.Part.blocks.Kinds as Part-blocks-kinds
use Rattle.part.proofs.Part.block_size.Reads as Part-block-size
use Rattle.part.proofs.Part.block_size.Kinds as Part-block-size-kinds
use Rattle.part.proofs.Part.pages.Reads as Part-pages
use Rattle.part.proofs.Part.pages.Kinds as Part-pages-kinds
use Rattle.part.proofs.Part.size.Reads as Part-size
use Rattle.part.proofs.Part.size.Kinds as Part-size-kinds
use Rattle.part.proofs.Part.last.Reads as Part-last
use Rattle.part.proofs.Part.last.Kinds as Part-last-kinds
use Rattle.part.proofs.Part.place.Reads as Part-place
use Rattle.part.proofs.Part.place.Kinds as Part-place-kinds
use Rattle.part.proofs.Part.range.Reads as Part-range
use Rattle.part.proofs.Part.range.Kinds as Part-range-kinds

pub rate-accepts-once : Once rate-accepts-kinds.ps rate-accepts-kinds.r rate-accepts.Post (λ κs r x. r)
rate-accepts-once κs a r s x y p q = p ∙ sym q

pub rate-mode-once : Once rate-mode-kinds.ps rate-mode-kinds.r rate-mode.Post (λ κs r x. r)
rate-mode-once κs a r s x y p q = p ∙ sym q

pub refusal-Refusal-number-once : Once refusal-Refusal-number-kinds.ps refusal-Refusal-number-kinds.r refusal-Refusal-number.Post (λ κs r x. r)
refusal-Refusal-number-once κs a r s x y p q = p ∙ sym q

pub signature-bytes-once : Once signature-bytes-kinds.ps signature-bytes-kinds.r signature-bytes.Post (λ κs r x. r)
signature-bytes-once κs a r s x y p q = p ∙ sym q

pub Area-first-once : Once Area-first-kinds.ps Area-first-kinds.r Area-first.Post (λ κs r x. r)
Area-first-once κs a r s x y p q = p ∙ sym q

pub page-size-once : Once page-size-kinds.ps page-size-kinds.r page-size.Post (λ κs r x. r)
page-size-once κs a r s x y p q = p ∙ sym q

pub Part-is-described-once : Once Part-is-described-kinds.ps Part-is-described-kinds.r Part-is-described.Post (λ κs r x. r)
Part-is-described-once κs a r s x y p q = p ∙ sym q

pub Part-blocks-once : Once Part-blocks-kinds.ps Part-blocks-kinds.r Part-blocks.Post (λ κs r x. r)
Part-blocks-once κs a r s x y p q = p ∙ sym q

pub Part-block-size-once : Once Part-block-size-kinds.ps Part-block-size-kinds.r Part-block-size.Post (λ κs r x. r)
Part-block-size-once κs a r s x y p q = p ∙ sym q

pub Part-pages-once : Once Part-pages-kinds.ps Part-pages-kinds.r Part-pages.Post (λ κs r x. r)
Part-pages-once κs a r s x y p q = p ∙ sym q

pub Part-size-once : Once Part-size-kinds.ps Part-size-kinds.r Part-size.Post (λ κs r x. r)
Part-size-once κs a r s x y p q = p ∙ sym q

pub Part-last-once : Once Part-last-kinds.ps Part-last-kinds.r Part-last.Post (λ κs r x. r)
Part-last-once κs a r s x y p q = p ∙ sym q

pub Part-place-once : Once Part-place-kinds.ps Part-place-kinds.r Part-place.Post (λ κs r x. r)
Part-place-once κs a r s x y p q = p ∙ sym q

pub Part-range-once : Once Part-range-kinds.ps Part-range-kinds.r Part-range.Post (λ κs r x. r)
Part-range-once κs a r s x y p q = p ∙ sym q
