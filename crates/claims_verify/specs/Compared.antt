-- A page of 13h that an event completes, and whether flash holds the same there: document 02, §2, "if any page differed".
use Rattle.std.specs.Prelude.{Bool, true, List, [], ◌∷◌, ◌≡◌, ℕ}
use Rattle.chip.specs.Step.{Outcome}
use Rattle.chip.specs.declared.Event.{Event}
use Rattle.chip_core.specs.declared.Awaited.{Awaited}
use Rattle.chip_core.specs.declared.Phase.TheVariants.{Awaiting}
use Rattle.chip_pages.specs.Pages.{page_in}
use Rattle.claims_fed.specs.Awaits.{awaits_in, good_for}
use Rattle.claims_runs.specs.Taken.{taken_by}
use Rattle.frame.specs.Frame.{payload}
use Rattle.lent.specs.Lent.{same}
use Rattle.part.specs.Part.{place_of}
use Rattle.part.specs.declared.Part.{Part}

-- While w is awaited the event completes a good page of 13h, and whether it equals flash there is `equal`.
pub record PageCompared (p : Part) (o : Outcome) (v : Event) (w : Awaited) (equal : Bool) : Type 0 where
  pub frame : List ℕ
  pub phase : o.chip.core.phase ≡ Awaiting w
  pub command : w.command ≡ 0x13
  pub taken : taken_by o v ≡ frame ∷ []
  pub good : good_for (awaits_in (Awaiting w)) frame ≡ true
  pub result : same (page_in (place_of p w.next) o.memory.flash) (payload frame) ≡ equal
