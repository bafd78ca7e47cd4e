-- `chip_work::release` meets its contract: protection, then the blank test, then fresh flags and window.
-- Assumes nothing.
use borrow.Author.Rules.{rules}
use Rattle.chip_work.specs.Work.{security_release}
use Rattle.words.specs.Words.{if◌then◌otherwise◌}
use Rattle.chip_work.proofs.release.Goals as goal

pub returns-then-not-is_releasable : goal.returns-then-not-is_releasable
unfolding security_release if◌then◌otherwise◌
returns-then-not-is_releasable c = search rules

pub returns-then-not-is_all_blank : goal.returns-then-not-is_all_blank
unfolding security_release if◌then◌otherwise◌
returns-then-not-is_all_blank c = search rules

pub returns : goal.returns
unfolding security_release if◌then◌otherwise◌
returns c = search rules
