-- No second outcome for the callable functions of `lent`, each over the contract that its own `ensures` generates.
-- Assumes nothing.
use mathlib.Core.Path.{◌∙◌, sym}
use Rattle.lent.specs.Lent.{left}
use Rattle.claims_outcome.proofs.Outcome.{Once}
use Rattle.lent.proofs.put.Reads as put
use Rattle.lent.proofs.put.Kinds as put-kinds
use Rattle.lent.proofs.are_all.Reads as are_all
use Rattle.lent.proofs.are_all.Kinds as are-all-kinds
use Rattle.lent.proofs.is_same.Reads as is_same
use Rattle.lent.proofs.is_same.Kinds as is-same-kinds
use Rattle.lent.proofs.byte_at.Reads as byte_at
use Rattle.lent.proofs.byte_at.Kinds as byte-at-kinds
use Rattle.lent.proofs.is_same_at.Reads as is-same-at
use Rattle.lent.proofs.is_same_at.Kinds as is-same-at-kinds
use Rattle.lent.proofs.span.Reads as span
use Rattle.lent.proofs.span.Kinds as span-kinds

pub put-once : Once put-kinds.ps put-kinds.r put.Post (λ κs r x. left r x.0.now)
put-once κs a r s x y p q = p ∙ sym q

pub are-all-once : Once are-all-kinds.ps are-all-kinds.r are_all.Post (λ κs r x. r)
are-all-once κs a r s x y p q = p ∙ sym q

pub is-same-once : Once is-same-kinds.ps is-same-kinds.r is_same.Post (λ κs r x. r)
is-same-once κs a r s x y p q = p ∙ sym q

pub byte-at-once : Once byte-at-kinds.ps byte-at-kinds.r byte_at.Post (λ κs r x. r)
byte-at-once κs a r s x y p q = p ∙ sym q

pub is-same-at-once : Once is-same-at-kinds.ps is-same-at-kinds.r is-same-at.Post (λ κs r x. r)
is-same-at-once κs a r s x y p q = p ∙ sym q

pub span-once : Once span-kinds.ps span-kinds.r span.Post (λ κs r x. r.now)
span-once κs a r s x y p q = p ∙ sym q
