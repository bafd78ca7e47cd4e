-- `chip_pages::compared` meets its contract: a difference is remembered, and nothing else changes.
-- Assumes nothing.
use borrow.Author.Rules.{rules}
use Rattle.chip_pages.specs.Pages.{compared}
use Rattle.words.specs.Words.{◌or◌}
use Rattle.chip_pages.proofs.compared.Goals as goal

pub returns-then-not-equal : goal.returns-then-not-equal
unfolding compared ◌or◌
returns-then-not-equal c = search rules

pub returns-else-not-equal : goal.returns-else-not-equal
unfolding compared ◌or◌
returns-else-not-equal c = search rules
