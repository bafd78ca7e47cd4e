-- `conversion::is_held` meets its contract: one test after the other.
-- Assumes nothing.
use borrow.Author.Tests.{eq-eqb, ne_eqb}
use Rattle.conversion.specs.Conversion.{held_by_old}
use Rattle.words.specs.Words.{◌and◌}
use Rattle.conversion.proofs.is_held.Goals as goal

pub returns-then-seat-ne0 : goal.returns-then-seat-ne0
unfolding held_by_old ◌and◌
returns-then-seat-ne0 c = simp (← c.seat.ensures, ne_eqb _ _ c.if-seat-ne0.true)

pub returns-then-tick-ne0 : goal.returns-then-tick-ne0
unfolding held_by_old ◌and◌
returns-then-tick-ne0 c = simp (← c.seat.ensures, eq-eqb _ _ c.if-seat-ne0.false, ← c.tick.ensures, ne_eqb _ _ c.if-tick-ne0.true)

pub returns : goal.returns
unfolding held_by_old ◌and◌
returns c = simp (← c.seat.ensures, eq-eqb _ _ c.if-seat-ne0.false, ← c.tick.ensures, eq-eqb _ _ c.if-tick-ne0.false, ← c.byte_at.ensures)
