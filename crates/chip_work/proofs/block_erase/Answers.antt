-- `chip_work::block_erase` meets its contract: parameters, then protection, then the work.
-- Assumes nothing.
use Rattle.chip_work.proofs.Laws.{block-erased}
use Rattle.part.proofs.Laws.{positive}
use borrow.Author.Rules.{rules}
use Rattle.chip_work.specs.Work.{block_erase}
use Rattle.words.specs.Words.{if◌then◌otherwise◌}
use Rattle.chip_work.proofs.block_erase.Goals as goal

pub returns-in_default : goal.returns-in_default
unfolding block_erase if◌then◌otherwise◌
returns-in_default c = search rules

pub returns-then-at-size-ne0 : goal.returns-then-at-size-ne0
unfolding block_erase if◌then◌otherwise◌
returns-then-at-size-ne0 c = search rules

pub returns-then-is_forbidden : goal.returns-then-is_forbidden
unfolding block_erase if◌then◌otherwise◌
returns-then-is_forbidden c = search rules

pub nonzero_rem-at : goal.nonzero_rem-at
nonzero_rem-at c = positive _ _ c.block_size-size.ensures

pub returns : goal.returns
returns c =
    rw c.says-2.ensures
    (block-erased _ _ _ _ _ _ _ _ c.place-place.ensures c.in-Some.is c.block_size-size.ensures c.if-at-size-ne0.false c.erase_allowed.ensures
    c.is_boot.ensures c.boot_allowed.ensures c.is_forbidden.ensures c.if-is_forbidden.false c.erase_in.ensures c.resum.ensures)
