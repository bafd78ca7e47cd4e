-- `chip_pages::good_data` meets its contract: the command decides.
-- Assumes nothing.
use borrow.Author.Tests.{eq-eqb, ne_eqb}
use Rattle.chip_pages.specs.Pages.{good_data}
use Rattle.words.specs.Words.{if◌then◌otherwise◌}
use Rattle.chip_pages.proofs.good_data.Goals as goal

pub returns-then-w-eq160 : goal.returns-then-w-eq160
unfolding good_data if◌then◌otherwise◌
returns-then-w-eq160 c = simp (eq-eqb _ _ c.if-w-eq160.true, ← c.security_data.ensures)

pub returns-then-w-eq64 : goal.returns-then-w-eq64
unfolding good_data if◌then◌otherwise◌
returns-then-w-eq64 c = simp (ne_eqb _ _ c.if-w-eq160.false, eq-eqb _ _ c.if-w-eq64.true, ← c.program_page.ensures)

pub returns : goal.returns
unfolding good_data if◌then◌otherwise◌
returns c = simp (ne_eqb _ _ c.if-w-eq160.false, ne_eqb _ _ c.if-w-eq64.false, ← c.verify_page.ensures)
