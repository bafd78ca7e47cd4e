-- `chip_options::Options::read` meets its contract: the bytes are the definition's.
-- Assumes nothing.
use mathlib.Core.Path.{◌∙◌}
use mir.Syntax.{w16}
use Rattle.numbers.proofs.Laws.{le-read}
use Rattle.chip_options.specs.Options.{options_in}
use Rattle.chip_options.proofs.Options.read.Goals as goal

pub returns : goal.returns
unfolding options_in
returns c =
    let start = c.from-start.ensures ∙ le-read w16 2 _ c.from_le_bytes.ensures c.bytes_at.ensures in
    let end = c.from-end.ensures ∙ le-read w16 4 _ c.from_le_bytes-2.ensures c.bytes_at-2.ensures in
    simp (← start, ← end, ← c.byte_at.ensures, ← c.byte_at-2.ensures)
