-- `dock_flow::frames::stored_form` meets its contract: each test is the definition's, in its order.
-- Assumes nothing.
use borrow.Author.Rules.{rules}
use Rattle.dock_flow.specs.Frames.{stored_form}
use Rattle.words.specs.Words.{if◌then◌otherwise◌}
use Rattle.dock_flow.proofs.frames.stored_form.Goals as goal

pub returns-then-is_last_page : goal.returns-then-is_last_page
unfolding stored_form if◌then◌otherwise◌
returns-then-is_last_page c = search rules

pub returns-else-is_last_page : goal.returns-else-is_last_page
unfolding stored_form if◌then◌otherwise◌
returns-else-is_last_page c = search rules
