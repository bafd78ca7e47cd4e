-- `chip_work::blank_check` meets its contract: each test is the definition's, in its order; a good range lies in its area.
-- Assumes nothing.
use mathlib.Core.Path.{◌∙◌, sym}
use Rattle.part.proofs.Laws.{range-good}
use borrow.Author.Rules.{rules}
use Rattle.chip_work.specs.Work.{blank_check}
use Rattle.words.specs.Words.{◌and◌, if◌then◌otherwise◌}
use Rattle.chip_work.proofs.blank_check.Goals as goal

pub returns-in_default : goal.returns-in_default
unfolding blank_check ◌and◌ if◌then◌otherwise◌
returns-in_default c = search rules

pub returns-then-not-is_known : goal.returns-then-not-is_known
unfolding blank_check ◌and◌ if◌then◌otherwise◌
returns-then-not-is_known c = search rules

pub returns-then-not-is_blank : goal.returns-then-not-is_blank
unfolding blank_check ◌and◌ if◌then◌otherwise◌
returns-then-not-is_blank c = search rules

pub returns-then-not-is_fresh : goal.returns-then-not-is_fresh
unfolding blank_check ◌and◌ if◌then◌otherwise◌
returns-then-not-is_fresh c = search rules

pub returns : goal.returns
unfolding blank_check ◌and◌ if◌then◌otherwise◌
returns c = search rules

pub range_bytes-bytes-requires : goal.range_bytes-bytes-requires
range_bytes-bytes-requires c = (range-good _ _ _ _ _ _ (sym c.range.ensures ∙ c.in-Some.is)).inside
