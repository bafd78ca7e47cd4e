-- "The window is stored and reported but does not restrict serial commands.": document 01, "The two ends of the cable".
use Rattle.std.specs.Prelude.{List, [], ◌∷◌, ◌≡◌, ℕ, Ok}
use Rattle.chip.specs.Run.{onward, run, spoken_in}
use Rattle.chip.specs.Step.{Outcome}
use Rattle.chip.specs.declared.Event.{Event}
use Rattle.chip_core.specs.declared.Core.{Core}
use Rattle.chip_core.specs.declared.Phase.TheVariants.{Ready}
use Rattle.claims_good.specs.Good.{AllProper, Stands, uttered}
use Rattle.claims_runs.specs.Taken.{taken_by}
use Rattle.commands.specs.Commands.{read_command}
use Rattle.commands.specs.declared.Command.TheVariants.{BlankCheck, SecurityGet}
use Rattle.frame.specs.Collector.{heard}
use Rattle.frame.specs.Frame.{payload}
use Rattle.part.specs.declared.Part.{Part}

-- The record with another window.
abbrev pub with_window : ℕ → ℕ → Core → Core
with_window start end k =
    record {
      options = record { flags = k.options.flags; boot = k.options.boot; start = start; end = end };
      rate = k.rate;
      phase = k.phase;
    }

-- Two chips that differ at most in the window, in their rooms and in the collector's bytes past its count.
pub record OtherWindow (o u : Outcome) : Type 0 where
  pub start : ℕ
  pub end : ℕ
  pub core : u.chip.core ≡ with_window start end o.chip.core
  pub count : u.chip.collector.len ≡ o.chip.collector.len
  pub hears : heard u.chip.collector ≡ heard o.chip.collector
  pub memory : u.memory ≡ o.memory

-- The two commands that look at it: A1h reports it, and 32h with D01 01h asks whether it is fresh.
pub data LooksAtWindow (o : Outcome) (v : Event) : Type 0 where
  reports : (f : List ℕ) → o.chip.core.phase ≡ Ready → taken_by o v ≡ f ∷ [] → read_command (payload f) ≡ Ok SecurityGet → LooksAtWindow o v
  asks_fresh : (f : List ℕ) (start end : ℕ) → o.chip.core.phase ≡ Ready → taken_by o v ≡ f ∷ [] → read_command (payload f) ≡ Ok (BlankCheck start end 0x01)
      → LooksAtWindow o v

-- The same is said to each event of a run, but to these two.
pub data SaysSame (p : Part) : List Event → Outcome → Outcome → Type 0 where
  last_said : {o u : Outcome} → SaysSame p [] o u
  same_said : {v : Event} {vs : List Event} {o u : Outcome} → uttered (spoken_in (onward p u v)) ≡ uttered (spoken_in (onward p o v))
      → SaysSame p vs (onward p o v) (onward p u v) → SaysSame p (v ∷ vs) o u
  looking : {v : Event} {vs : List Event} {o u : Outcome} → LooksAtWindow o v → SaysSame p vs (onward p o v) (onward p u v) → SaysSame p (v ∷ vs) o u

-- Whatever comes, flash, sums, flags, rate and phase are the same, and what is said.
pub record NotRestricted (p : Part) (vs : List Event) (o u : Outcome) : Type 0 where
  pub says : SaysSame p vs o u
  pub after : OtherWindow (run p vs o) (run p vs u)

abbrev pub WindowRestrictsNothing : Type 0
WindowRestrictsNothing = (p : Part) (vs : List Event) (o u : Outcome) → Stands p o → Stands p u → AllProper vs → OtherWindow o u → NotRestricted p vs o u
