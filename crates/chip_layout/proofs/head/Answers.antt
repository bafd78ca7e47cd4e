-- `chip_layout::head` meets its contract: nine bytes, in the definition's order.
-- Assumes nothing.
use Rattle.chip_options.proofs.Laws.{option-bytes}
use Rattle.chip_layout.specs.Layout.{head_of}
use Rattle.chip_layout.proofs.head.Goals as goal

pub returns : goal.returns
unfolding head_of
returns c = rw (c.to_le_bytes.ensures, c.to_le_bytes-2.ensures, option-bytes _)
