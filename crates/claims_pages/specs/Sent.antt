-- A page of 40h that an event completes, and what stood where it goes: document 02, §6, "each byte becomes old AND new".
use Rattle.std.specs.Prelude.{true, List, [], ◌∷◌, ◌≡◌, ℕ}
use Rattle.chip.specs.Step.{Outcome}
use Rattle.chip.specs.declared.Event.{Event}
use Rattle.chip_core.specs.declared.Awaited.{Awaited}
use Rattle.chip_core.specs.declared.Phase.TheVariants.{Awaiting}
use Rattle.chip_pages.specs.Pages.{page_in}
use Rattle.claims_fed.specs.Awaits.{awaits_in, good_for}
use Rattle.claims_runs.specs.Taken.{taken_by}
use Rattle.frame.specs.Frame.{payload}
use Rattle.part.specs.Part.{place_of}
use Rattle.part.specs.declared.Part.{Part}

-- While w is awaited the event completes a good page of 40h, with the bytes ds.
pub record PageSent (o : Outcome) (v : Event) (w : Awaited) (ds : List ℕ) : Type 0 where
  pub frame : List ℕ
  pub phase : o.chip.core.phase ≡ Awaiting w
  pub command : w.command ≡ 0x40
  pub taken : taken_by o v ≡ frame ∷ []
  pub good : good_for (awaits_in (Awaiting w)) frame ≡ true
  pub carries : payload frame ≡ ds

-- What flash holds where it goes.
abbrev pub old_page : Part → Awaited → Outcome → List ℕ
old_page p w o = page_in (place_of p w.next) o.memory.flash
