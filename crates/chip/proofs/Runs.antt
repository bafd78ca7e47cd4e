-- Laws of runs: none, one event more, and one run after another.
-- Assumes nothing.
use mathlib.Core.List.{List, [], ◌++◌, ◌∷◌}
use mathlib.Core.Path.{◌≡◌, refl}
use Rattle.chip.specs.Run.{onward, run}
use Rattle.chip.specs.Step.{Outcome}
use Rattle.chip.specs.declared.Event.{Event}
use Rattle.part.specs.declared.Part.{Part}

-- A run, event by event.
pub run_none : (p : Part) (o : Outcome) → run p [] o ≡ o
unfolding run
run_none p o = refl

pub run_more : (p : Part) (v : Event) (vs : List Event) (o : Outcome) → run p (v ∷ vs) o ≡ run p vs (onward p o v)
unfolding run
run_more p v vs o = refl

pub run-append : (p : Part) (us vs : List Event) (o : Outcome) → run p (us ++ vs) o ≡ run p vs (run p us o)
unfolding run
run-append p [] vs o = refl
run-append p (u ∷ us) vs o = run-append p us vs (onward p o u)
