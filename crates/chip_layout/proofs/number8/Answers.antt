-- `chip_layout::number8` meets its contract.
-- Assumes nothing.
use mir.Syntax.{w64}
use Rattle.numbers.proofs.Laws.{le-read}
use Rattle.chip_layout.proofs.number8.Goals as goal

pub returns : goal.returns
returns c = le-read w64 c.args.at _ c.from_le_bytes.ensures c.bytes_at.ensures
