-- `numbers::low3` meets its contract: the first three of the eight bytes.
-- Assumes nothing.
use mathlib.Core.List.{List, [], ◌∷◌}
use mathlib.Core.Path.{◌∙◌, ap}
use Prim.Native.Nat.{ℕ}
use lib.ListN.{get_or}
use mir.Syntax.{w64}
use Rattle.numbers.proofs.Laws.{le-written}
use Rattle.numbers.specs.Numbers.{low_first}
use Rattle.numbers.proofs.low3.Goals as goal

pub returns : goal.returns
unfolding low_first
returns c = ap (λ (l : List ℕ). get_or l 0 0 ∷ get_or l 1 0 ∷ get_or l 2 0 ∷ []) (c.to_le_bytes.ensures ∙ le-written w64 _)
