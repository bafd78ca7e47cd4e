-- `chip_pages::is_last_page` meets its contract: the difference is compared, since a sum could wrap.
-- Assumes nothing.
use mathlib.Core.Path.{◌∙◌}
use native.Mathlib.Omega.{arith}
use borrow.Author.Tests.{le-leb}
use Rattle.chip_pages.proofs.Laws.{reached, reaches}
use Rattle.chip_pages.specs.Pages.{is_last_page}
use Rattle.part.specs.Part.{page_size}
use Rattle.chip_pages.proofs.is_last_page.Goals as goal

pub returns-then-w : goal.returns-then-w
unfolding is_last_page
returns-then-w c = le-leb _ _ c.if-w.true ∙ reached c.args.w.next c.args.w.last page_size c.if-w.true (omega arith)

pub returns-else-w : goal.returns-else-w
unfolding is_last_page
returns-else-w c = reaches c.args.w.next c.args.w.last _ page_size (omega arith) c.page_size.ensures
