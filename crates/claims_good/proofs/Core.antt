-- The record without what is collected: what makes it good.
-- Assumes nothing.
use mathlib.Core.Bool.{true}
use mathlib.Core.Path.{◌≡◌, refl}
use Prim.Native.Nat.{◌≤◌}
use borrow.Author.Tests.{le-leb, leb-true}
use Rattle.chip_state.specs.Refusals.{good_core, good_phase}
use Rattle.chip_core.specs.Effect.{entered}
use Rattle.chip_pages.specs.Pages.{ready}
use Rattle.chip_core.specs.declared.Core.{Core}
use Rattle.chip_core.specs.declared.Phase.{Phase}
use Rattle.chip_core.specs.declared.Phase.TheVariants.{Ready}
use Rattle.chip_options.specs.Options.{good_options}
use Rattle.part.specs.declared.Part.{Part}
use Rattle.words.proofs.Laws.{and_both, and_left, and_right}

pub record GoodCore (p : Part) (k : Core) : Type 0 where
  pub rate : k.rate ≤ 3
  pub options : good_options p k.options ≡ true
  pub phase : good_phase p k.phase ≡ true

pub core_is : (p : Part) (k : Core) → good_core p k ≡ true → GoodCore p k
unfolding good_core
core_is p k t = let u = and_right _ _ t in record { rate = leb-true _ _ (and_left _ _ t); options = and_left _ _ u; phase = and_right _ _ u }

pub is-core : {p : Part} {k : Core} → GoodCore p k → good_core p k ≡ true
unfolding good_core
is-core {p} {k} g = and_both (le-leb k.rate 3 g.rate) (and_both g.options g.phase)

-- A good record in another good phase.
pub enters : {p : Part} {k : Core} (f : Phase) → GoodCore p k → good_phase p f ≡ true → GoodCore p (entered k f)
enters f g h = record { rate = g.rate; options = g.options; phase = h }

pub made-ready : {p : Part} {k : Core} → GoodCore p k → GoodCore p (ready k)
unfolding good_phase
made-ready g = enters Ready g refl
