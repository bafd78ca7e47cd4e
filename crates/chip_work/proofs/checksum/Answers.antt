-- `chip_work::checksum` meets its contract: one block is answered from its slot; more are summed, a good range lying in its area.
-- Assumes nothing.
use mathlib.Core.Path.{◌∙◌, sym}
use Rattle.part.proofs.Laws.{range-good}
use borrow.Author.Rules.{rules}
use Rattle.chip_work.specs.Work.{checksum}
use Rattle.words.specs.Words.{if◌then◌otherwise◌}
use Rattle.chip_work.proofs.checksum.Goals as goal

pub returns-in_default : goal.returns-in_default
unfolding checksum if◌then◌otherwise◌
returns-in_default c = search rules

pub returns-then-range-eq1 : goal.returns-then-range-eq1
unfolding checksum if◌then◌otherwise◌
returns-then-range-eq1 c = search rules

pub returns-else-range-eq1 : goal.returns-else-range-eq1
unfolding checksum if◌then◌otherwise◌
returns-else-range-eq1 c = search rules

pub range_bytes-requires : goal.range_bytes-requires
range_bytes-requires c = (range-good _ _ _ _ _ _ (sym c.range.ensures ∙ c.in-Some.is)).inside
