-- `chip_state::are_good_places` meets its contract: both places are there, and each test is the definition's, in its order.
-- Assumes nothing.
use borrow.Author.Rules.{rules}
use Rattle.part.proofs.Laws.{positive}
use Rattle.chip_state.specs.Refusals.{good_places}
use Rattle.words.specs.Words.{◌and◌}
use Rattle.chip_state.proofs.are_good_places.Goals as goal

pub returns-then-next-page_size-eq0 : goal.returns-then-next-page_size-eq0
unfolding good_places ◌and◌
returns-then-next-page_size-eq0 c = search rules

pub returns-else-next-page_size-eq0 : goal.returns-else-next-page_size-eq0
unfolding good_places ◌and◌
returns-else-next-page_size-eq0 c = search rules

pub is_block_end-requires : goal.is_block_end-requires
is_block_end-requires c = positive _ _ c.block_size.ensures
