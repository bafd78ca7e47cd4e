-- `replay_capture::is_good_count` meets its contract: the kind decides what is asked of the count.
-- Assumes nothing.
use borrow.Author.Tests.{eq-eqb, ne_eqb, le-leb, lt-leb}
use Rattle.replay_capture.specs.Capture.{good_count}
use Rattle.words.specs.Words.{◌and◌, ◌from◌to◌, if◌then◌otherwise◌}
use Rattle.replay_capture.proofs.is_good_count.Goals as goal

pub returns-then-kind-eq0 : goal.returns-then-kind-eq0
unfolding good_count ◌and◌ ◌from◌to◌ if◌then◌otherwise◌
returns-then-kind-eq0 c = simp (eq-eqb _ _ c.if-kind-eq0.true)

pub returns-then-n-ge1 : goal.returns-then-n-ge1
unfolding good_count ◌and◌ ◌from◌to◌ if◌then◌otherwise◌
returns-then-n-ge1 c = simp (ne_eqb _ _ c.if-kind-eq0.false, eq-eqb _ _ c.if-kind-eq1.true, le-leb _ _ c.if-n-ge1.true, ← c.data_size.ensures)

pub returns-else-n-ge1 : goal.returns-else-n-ge1
unfolding good_count ◌and◌ ◌from◌to◌ if◌then◌otherwise◌
returns-else-n-ge1 c = simp (ne_eqb _ _ c.if-kind-eq0.false, eq-eqb _ _ c.if-kind-eq1.true, lt-leb _ _ c.if-n-ge1.false)

pub returns : goal.returns
unfolding good_count ◌and◌ ◌from◌to◌ if◌then◌otherwise◌
returns c = simp (ne_eqb _ _ c.if-kind-eq0.false, ne_eqb _ _ c.if-kind-eq1.false)
