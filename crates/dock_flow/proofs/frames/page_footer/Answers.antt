-- `dock_flow::frames::page_footer` meets its contract: each test is the definition's, in its order.
-- Assumes nothing.
use borrow.Author.Rules.{rules}
use Rattle.dock_flow.specs.Frames.{page_footer}
use Rattle.words.specs.Words.{if◌then◌otherwise◌}
use Rattle.dock_flow.proofs.frames.page_footer.Goals as goal

pub returns-then-is_last_page : goal.returns-then-is_last_page
unfolding page_footer if◌then◌otherwise◌
returns-then-is_last_page c = search rules

pub returns-else-is_last_page : goal.returns-else-is_last_page
unfolding page_footer if◌then◌otherwise◌
returns-else-is_last_page c = search rules
