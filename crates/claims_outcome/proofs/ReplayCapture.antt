-- No second outcome for the callable functions of `replay_capture`, each over the contract that its own `ensures` generates.
-- Assumes nothing.
use mathlib.Core.Path.{◌∙◌, sym}
use Rattle.claims_outcome.proofs.Outcome.{Once}
use Rattle.replay_capture.proofs.record_size.Reads as record-size
use Rattle.replay_capture.proofs.record_size.Kinds as record-size-kinds
use Rattle.replay_capture.proofs.head_size.Reads as head-size
use Rattle.replay_capture.proofs.head_size.Kinds as head-size-kinds
use Rattle.replay_capture.proofs.data_size.Reads as data-size
use Rattle.replay_capture.proofs.data_size.Kinds as data-size-kinds
use Rattle.replay_capture.proofs.seat.Reads as seat
use Rattle.replay_capture.proofs.seat.Kinds as seat-kinds
use Rattle.replay_capture.proofs.tick.Reads as tick
use Rattle.replay_capture.proofs.tick.Kinds as tick-kinds
use Rattle.replay_capture.proofs.is_good.Reads as is-good
use Rattle.replay_capture.proofs.is_good.Kinds as is-good-kinds
use Rattle.replay_capture.proofs.read.Reads as read
use Rattle.replay_capture.proofs.read.Kinds as read-kinds
use Rattle.replay_capture.proofs.carried.Reads as carried
use Rattle.replay_capture.proofs.carried.Kinds as carried-kinds
use Rattle.replay_capture.proofs.record_end.Reads as record-end
use Rattle.replay_capture.proofs.record_end.Kinds as record-end-kinds

pub record-size-once : Once record-size-kinds.ps record-size-kinds.r record-size.Post (λ κs r x. r)
record-size-once κs a r s x y p q = p ∙ sym q

pub head-size-once : Once head-size-kinds.ps head-size-kinds.r head-size.Post (λ κs r x. r)
head-size-once κs a r s x y p q = p ∙ sym q

pub data-size-once : Once data-size-kinds.ps data-size-kinds.r data-size.Post (λ κs r x. r)
data-size-once κs a r s x y p q = p ∙ sym q

pub seat-once : Once seat-kinds.ps seat-kinds.r seat.Post (λ κs r x. r)
seat-once κs a r s x y p q = p ∙ sym q

pub tick-once : Once tick-kinds.ps tick-kinds.r tick.Post (λ κs r x. r)
tick-once κs a r s x y p q = p ∙ sym q

pub is-good-once : Once is-good-kinds.ps is-good-kinds.r is-good.Post (λ κs r x. r)
is-good-once κs a r s x y p q = p ∙ sym q

pub read-once : Once read-kinds.ps read-kinds.r read.Post (λ κs r x. r)
read-once κs a r s x y p q = p ∙ sym q

pub carried-once : Once carried-kinds.ps carried-kinds.r carried.Post (λ κs r x. r.now)
carried-once κs a r s x y p q = p ∙ sym q

pub record-end-once : Once record-end-kinds.ps record-end-kinds.r record-end.Post (λ κs r x. r)
record-end-once κs a r s x y p q = p ∙ sym q
