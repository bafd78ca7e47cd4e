-- `chip_layout::admission::verdict_in` meets its contract: the chip's verdict, by the law on what it reads.
-- Assumes nothing.
use mathlib.Core.Path.{refl}
use Rattle.chip_layout.proofs.Laws.{verdict-read}
use Rattle.chip_layout.proofs.admission.verdict_in.Goals as goal

pub returns : goal.returns
returns c = verdict-read _ _ _ _ _ c.verdict.ensures c.core_in-core.ensures c.number8.ensures refl refl
