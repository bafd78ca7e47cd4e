-- `chip_pages::next_page` meets its contract: where the page is not the last, the next address lies below the last one.
-- Assumes nothing.
use mathlib.Core.Path.{◌∙◌, sym}
use native.Mathlib.Omega.{arith}
use Rattle.chip_pages.proofs.Laws.{not_last}
use Rattle.chip_pages.specs.Pages.{next_page}
use Rattle.words.specs.Words.{if◌then◌otherwise◌}
use Rattle.chip_pages.proofs.next_page.Goals as goal

pub returns-then-is_last_page : goal.returns-then-is_last_page
unfolding next_page if◌then◌otherwise◌
returns-then-is_last_page c = simp (← c.is_last_page.ensures, c.if-is_last_page.true, c.entered.ensures)

pub overflow_add-w : goal.overflow_add-w
overflow_add-w c = omega (arith, c.page_size.ensures, not_last c.args.w (sym c.is_last_page.ensures ∙ c.if-is_last_page.false))

pub returns : goal.returns
unfolding next_page if◌then◌otherwise◌
returns c = simp (← c.is_last_page.ensures, c.if-is_last_page.false, ← c.page_size.ensures, c.entered-2.ensures)
