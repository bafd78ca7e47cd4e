-- `chip_pace::steps` meets its contract: what the bytes still to come make of the last step's outcome stays the same from turn to turn.
-- Assumes nothing.
use mathlib.Core.Path.{◌∙◌, refl}
use native.Mathlib.Omega.{arith}
use Rattle.chip_pace.proofs.Laws.{stepped-end, stepped_start, stepped-turn}
use Rattle.chip_pace.proofs.steps.Goals as goal

pub loop-b-init : goal.loop-b-init
loop-b-init c = (refl, refl, refl, stepped_start _ _ _)

pub loop-b-preserved : goal.loop-b-preserved
loop-b-preserved c = (
  c.step-last.auto.code ∙ c.loop-b.invariant.0,
  c.step-last.auto.data ∙ c.loop-b.invariant.1,
  c.step-last.auto.room ∙ c.loop-b.invariant.2,
  stepped-turn c.loop-b.invariant.3 c.step-last.ensures c.loop-b-test.true,
)

pub returns : goal.returns
returns c = stepped-end c.loop-b.invariant.3 (omega arith)
