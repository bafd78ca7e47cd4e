-- `chip_flash::clear` meets its contract: the new bytes before the place that the loop has come to are in, the others still stand.
-- Assumes nothing.
use native.Mathlib.Omega.{arith}
use Rattle.chip_flash.proofs.Laws.{cleared-end, cleared-start, cleared-turn, runs-out, under-new, under-old, under-part}
use Rattle.chip_flash.proofs.clear.Goals as goal

pub loop-i-init : goal.loop-i-init
loop-i-init c = (omega arith, runs-out _ _ c.min-end.ensures, cleared-start _ _)

pub bounds-part-i : goal.bounds-part-i
bounds-part-i c = under-part c.loop-i.invariant.2 c.loop-i.invariant.1 (omega arith)

pub bounds-new-i : goal.bounds-new-i
bounds-new-i c = under-new c.loop-i.invariant.1 (omega arith)

pub bounds-part-i-in-loop-i : goal.bounds-part-i-in-loop-i
bounds-part-i-in-loop-i c = under-part c.loop-i.invariant.2 c.loop-i.invariant.1 (omega arith)

pub loop-i-preserved : goal.loop-i-preserved
loop-i-preserved c = (omega arith, c.loop-i.invariant.1, cleared-turn c.loop-i.invariant.2 (under-old c.loop-i.invariant.1 (omega arith)) (under-new c.loop-i.invariant.1 (omega arith)))

pub returns : goal.returns
returns c = cleared-end c.loop-i.invariant.2 c.loop-i.invariant.1 (omega arith)
