-- No second outcome for the callable functions of `numbers`, each over the contract that its own `ensures` generates.
-- Assumes nothing.
use mathlib.Core.Path.{◌∙◌, sym}
use Prim.Native.Nat.{ℕ}
use mir.Syntax.{w64}
use mir.Val.{Fits}
use Rattle.claims_outcome.proofs.Outcome.{Once}
use Rattle.numbers.proofs.bytes_at.Reads as bytes_at
use Rattle.numbers.proofs.bytes_at.Kinds as bytes_at-kinds
use Rattle.numbers.proofs.number3.Reads as number3
use Rattle.numbers.proofs.number3.Kinds as number3-kinds
use Rattle.numbers.proofs.low3.Reads as low3
use Rattle.numbers.proofs.low3.Kinds as low3-kinds

pub bytes_at-once : (N : ℕ) (f : Fits w64 N) → Once (bytes_at-kinds.ps N f) (bytes_at-kinds.r N f) (bytes_at.Post N f) (λ κs r x. r)
bytes_at-once N f κs a r s x y p q = p ∙ sym q

pub number3-once : Once number3-kinds.ps number3-kinds.r number3.Post (λ κs r x. r)
number3-once κs a r s x y p q = p ∙ sym q

pub low3-once : Once low3-kinds.ps low3-kinds.r low3.Post (λ κs r x. r)
low3-once κs a r s x y p q = p ∙ sym q
