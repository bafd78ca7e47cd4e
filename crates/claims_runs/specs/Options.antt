-- How the lasting options change: document 01, "Commands", A0h's data ("else stored, 06h") and A2h ("fresh flags and window"), and by nothing else.
use Rattle.std.specs.Prelude.{false, List, [], ◌∷◌, ◌≡◌, ℕ, Ok}
use Rattle.chip.specs.Run.{onward, run, spoken_in}
use Rattle.chip.specs.Step.{Outcome}
use Rattle.chip.specs.declared.Event.{Event}
use Rattle.chip_core.specs.declared.Awaited.{Awaited}
use Rattle.chip_core.specs.declared.Phase.TheVariants.{Awaiting, Ready}
use Rattle.chip_options.specs.Options.{options_in, raises, released}
use Rattle.chip_options.specs.declared.Options.{Options}
use Rattle.claims_fed.specs.Fed.{says_frame}
use Rattle.claims_good.specs.Good.{AllProper, Stands, uttered}
use Rattle.claims_runs.specs.Taken.{taken_by}
use Rattle.commands.specs.Commands.{read_command}
use Rattle.commands.specs.declared.Command.TheVariants.{SecurityRelease}
use Rattle.frame.specs.Frame.{payload}
use Rattle.part.specs.declared.Part.{Part}

abbrev pub options_of : Outcome → Options
options_of o = o.chip.core.options

-- The event completes a frame, and 06h alone is said to it.
pub record Acknowledged (p : Part) (o : Outcome) (v : Event) (f : List ℕ) : Type 0 where
  pub frame : taken_by o v ≡ f ∷ []
  pub says : uttered (spoken_in (onward p o v)) ≡ says_frame (0x06 ∷ [])

-- It is A2h.
pub record Releases (p : Part) (o : Outcome) (v : Event) : Type 0 where
  pub frame : List ℕ
  pub phase : o.chip.core.phase ≡ Ready
  pub command : read_command (payload frame) ≡ Ok SecurityRelease
  pub answered : Acknowledged p o v frame

-- It is A0h's data, which is stored, and no 0 flag becomes 1; or it is A2h, and the options are released.
pub data SetsOptions (p : Part) (o : Outcome) (v : Event) : Type 0 where
  by_data : (w : Awaited) (f : List ℕ) → o.chip.core.phase ≡ Awaiting w → w.command ≡ 0xA0 → Acknowledged p o v f
      → options_of (onward p o v) ≡ options_in (payload f) → raises p (options_of o).flags (options_of (onward p o v)).flags ≡ false → SetsOptions p o v
  by_release : Releases p o v → options_of (onward p o v) ≡ released p (options_of o) → SetsOptions p o v

-- Every event leaves the options as they were, or is one of these two.
pub data OptionsAfter (p : Part) (o : Outcome) (v : Event) : Type 0 where
  kept : options_of (onward p o v) ≡ options_of o → OptionsAfter p o v
  set : SetsOptions p o v → OptionsAfter p o v

abbrev pub OptionsChange : Type 0
OptionsChange = (p : Part) (o : Outcome) (v : Event) → Stands p o → OptionsAfter p o v

-- A run in which no event is such a one.
pub data Never (such : Outcome → Event → Type 0) (p : Part) : Outcome → List Event → Type 0 where
  at_end : {o : Outcome} → Never such p o []
  not_here : {o : Outcome} {v : Event} {vs : List Event} → (such o v → ⊥) → Never such p (onward p o v) vs → Never such p o (v ∷ vs)

abbrev pub OptionsStay : Type 0
OptionsStay = (p : Part) (o : Outcome) (vs : List Event) → Stands p o → AllProper vs → Never (SetsOptions p) p o vs → options_of (run p vs o) ≡ options_of o

-- A forbidding flag goes back to 1 only by A2h answered 06h.
abbrev pub FlagsStay : Type 0
FlagsStay =
    (p : Part) (o : Outcome) (vs : List Event) → Stands p o → AllProper vs → Never (Releases p) p o vs
    → raises p (options_of o).flags (options_of (run p vs o)).flags ≡ false
