-- No second outcome for the callable functions of `conversion`, each over the contract that its own `ensures` generates.
-- Assumes nothing.
use mathlib.Core.Path.{◌∙◌, sym}
use Rattle.conversion.specs.Conversion.{converting}
use Rattle.claims_outcome.proofs.Outcome.{Once}
use Rattle.conversion.proofs.other.Reads as other
use Rattle.conversion.proofs.other.Kinds as other-kinds
use Rattle.conversion.proofs.first_not.Reads as first-not
use Rattle.conversion.proofs.first_not.Kinds as first-not-kinds
use Rattle.conversion.proofs.convert.Reads as convert
use Rattle.conversion.proofs.convert.Kinds as convert-kinds
use Rattle.conversion.proofs.number.Reads as number
use Rattle.conversion.proofs.number.Kinds as number-kinds
use Rattle.conversion.proofs.record_named.Reads as record-named
use Rattle.conversion.proofs.record_named.Kinds as record-named-kinds
use Rattle.conversion.proofs.bytes_written.Reads as bytes-written
use Rattle.conversion.proofs.bytes_written.Kinds as bytes-written-kinds

pub other-once : Once other-kinds.ps other-kinds.r other.Post (λ κs r x. r)
other-once κs a r s x y p q = p ∙ sym q

pub first-not-once : Once first-not-kinds.ps first-not-kinds.r first-not.Post (λ κs r x. r)
first-not-once κs a r s x y p q = p ∙ sym q

pub convert-once : Once convert-kinds.ps convert-kinds.r convert.Post (λ κs r x. converting r x.1.1.0.now)
convert-once κs a r s x y p q = p ∙ sym q

pub number-once : Once number-kinds.ps number-kinds.r number.Post (λ κs r x. r)
number-once κs a r s x y p q = p ∙ sym q

pub record-named-once : Once record-named-kinds.ps record-named-kinds.r record-named.Post (λ κs r x. r)
record-named-once κs a r s x y p q = p ∙ sym q

pub bytes-written-once : Once bytes-written-kinds.ps bytes-written-kinds.r bytes-written.Post (λ κs r x. r)
bytes-written-once κs a r s x y p q = p ∙ sym q
