-- `chip_pages::length_of` meets its contract: A0h's data has 8 bytes, a page 256.
-- Assumes nothing.
use borrow.Author.Tests.{eq-eqb, ne_eqb}
use Rattle.chip_pages.specs.Pages.{length_of}
use Rattle.words.specs.Words.{if◌then◌otherwise◌}
use Rattle.chip_pages.proofs.length_of.Goals as goal

pub returns-then-w-eq160 : goal.returns-then-w-eq160
unfolding length_of if◌then◌otherwise◌
returns-then-w-eq160 c = simp (eq-eqb _ _ c.if-w-eq160.true)

pub returns : goal.returns
unfolding length_of if◌then◌otherwise◌
returns c = simp (ne_eqb _ _ c.if-w-eq160.false, ← c.page_size.ensures)
