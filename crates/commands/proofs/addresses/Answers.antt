-- `commands::addresses` meets its contract: three bytes each, and the last.
-- Assumes nothing.
use Rattle.commands.proofs.Laws.{two-addresses}
use Rattle.commands.proofs.addresses.Goals as goal

pub returns : goal.returns
returns c = two-addresses _ _ _ c.low3-s.ensures c.low3-e.ensures
