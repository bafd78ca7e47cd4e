-- `chip_layout::in_place::lay_count` meets its contract: eight bytes, copied to the count's place.
-- Assumes nothing.
use mathlib.Core.Path.{◌∙◌}
use mir.Syntax.{w64}
use Rattle.numbers.proofs.Laws.{le-written}
use Rattle.chip_layout.proofs.Laid.{count-copied}
use Rattle.chip_layout.proofs.in_place.lay_count.Goals as goal

pub returns : goal.returns
returns c = count-copied _ _ _ (c.copy_from_slice.ensures.after ∙ c.to_le_bytes.ensures ∙ le-written w64 _)
