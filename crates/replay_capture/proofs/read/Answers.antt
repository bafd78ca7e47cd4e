-- `replay_capture::read` meets its contract: a good record, then the seat, then the kind.
-- Assumes nothing.
use borrow.Author.Tests.{eq-eqb, ne_eqb}
use Rattle.replay_capture.specs.Capture.{record_of}
use Rattle.words.specs.Words.{if◌then◌otherwise◌}
use Rattle.replay_capture.proofs.read.Goals as goal

pub returns-then-not-is_good : goal.returns-then-not-is_good
unfolding record_of if◌then◌otherwise◌
returns-then-not-is_good c = simp (← c.is_good.ensures, c.if-not-is_good.true)

pub returns-then-seat-ne0 : goal.returns-then-seat-ne0
unfolding record_of if◌then◌otherwise◌
returns-then-seat-ne0 c = simp (← c.is_good.ensures, c.if-not-is_good.false, ← c.seat.ensures, ne_eqb _ _ c.if-seat-ne0.true)

pub returns-then-byte_at-eq0 : goal.returns-then-byte_at-eq0
unfolding record_of if◌then◌otherwise◌
returns-then-byte_at-eq0 c =
    let is-good = c.is_good in
    let if1 = c.if-not-is_good in
    let seat = c.seat in
    let if2 = c.if-seat-ne0 in
    simp (← is-good.ensures, if1.false, ← seat.ensures, eq-eqb _ _ if2.false, ← c.byte_at.ensures, eq-eqb _ _ c.if-byte_at-eq0.true)

pub returns : goal.returns
unfolding record_of if◌then◌otherwise◌
returns c =
    let is-good = c.is_good in
    let if1 = c.if-not-is_good in
    let seat = c.seat in
    let if2 = c.if-seat-ne0 in
    let byte_at = c.byte_at in
    simp (← is-good.ensures, if1.false, ← seat.ensures, eq-eqb _ _ if2.false, ← byte_at.ensures, ne_eqb _ _ c.if-byte_at-eq0.false, ← c.byte_at-2.ensures)
