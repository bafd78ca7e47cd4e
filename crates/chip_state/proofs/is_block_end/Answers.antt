-- `chip_state::is_block_end` meets its contract: the remainder is compared, since a sum could wrap.
-- Assumes nothing.
use Rattle.chip_state.proofs.Laws.{block-end-is}
use Rattle.chip_state.proofs.is_block_end.Goals as goal

pub returns : goal.returns
returns c = block-end-is c.args.offset c.args.size c.requires
