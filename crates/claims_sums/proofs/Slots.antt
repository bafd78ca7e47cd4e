-- The slots of a described part's blocks: each its own, all of the 72.
-- Assumes nothing.
use mathlib.Core.Path.{◌≡◌, refl}
use Prim.Native.Nat.{ℕ}
use native.Mathlib.Omega.{arith}
use Rattle.chip_sums.specs.Sums.{slot}
use Rattle.claims_sums.specs.Worked.{SlotsApart, SlotsEnough}
use Rattle.part.proofs.Laws.{described-is}
use Rattle.part.specs.declared.Area.{Area}
use Rattle.part.specs.declared.Area.TheVariants.{CodeFlash, DataFlash}

pub slots_apart : SlotsApart
unfolding slot
slots_apart p CodeFlash CodeFlash b d g h k e = (refl, e)
slots_apart p CodeFlash DataFlash b d g h k e = absurd (omega (arith, (described-is p g).code-most))
slots_apart p DataFlash CodeFlash b d g h k e = absurd (omega (arith, (described-is p g).code-most))
slots_apart p DataFlash DataFlash b d g h k e = (refl, omega arith)

pub slots-enough : SlotsEnough
unfolding slot
slots-enough p CodeFlash b g h = omega (arith, (described-is p g).code-most)
slots-enough p DataFlash b g h = omega (arith, (described-is p g).data-most)

-- A slot within one area.
pub slot_same : (a : Area) (b d : ℕ) → slot a b ≡ slot a d → b ≡ d
unfolding slot
slot_same CodeFlash b d e = e
slot_same DataFlash b d e = omega arith
