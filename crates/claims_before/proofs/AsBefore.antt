-- The proofs of `AsBefore`, `OthersAsBefore`, `RunAsBefore` and `OtherRunAsBefore`.
-- Assumes nothing.
use mathlib.Core.List.{List, [], ◌∷◌}
use mathlib.Core.Path.{◌∙◌, ◌≡◌, ap, refl}
use Prim.Native.Nat.{◌<◌, ℕ}
use native.Mathlib.Omega.{arith}
use Rattle.chip.specs.Run.{Spoken, answers, onward, run, spoken_in}
use Rattle.chip.specs.Step.{Outcome}
use Rattle.chip.specs.declared.Event.{Event}
use Rattle.chip_sums.specs.Sums.{Right, block_sum, kept}
use Rattle.claims_before.proofs.Step.{one-event}
use Rattle.claims_before.specs.AsBefore.{AsBefore, OtherRunAsBefore, OthersAsBefore, RunAsBefore, RunsAsBefore, SameButSums}
use Rattle.claims_before.specs.Asked.{SumOfOne, SumOver, sum_of}
use Rattle.claims_before.specs.Before.{answers_before, onward_before, run_before}
use Rattle.claims_before.specs.Rules.{answers_under, run_under}
use Rattle.claims_good.proofs.Stays.{stays}
use Rattle.claims_good.specs.Good.{AllProper, Stands, and_event, no_event}
use Rattle.claims_runs.specs.Options.{Never, at_end, not_here}
use Rattle.claims_sums.proofs.Right.{stays-right}
use Rattle.part.proofs.Laws.{range-good}
use Rattle.part.specs.Part.{blocks}
use Rattle.part.specs.declared.Area.{Area}
use Rattle.part.specs.declared.Part.{Part}

-- Where the sum of one block is asked for, it is right.
ToldRight : Part → Outcome → Event → Type 0
ToldRight p o v = (a : Area) (block : ℕ) → SumOver p o v a block 1 → kept o.memory.sums a block ≡ block_sum p a block o.memory.flash

self : (o : Outcome) → SameButSums o o
self o = record { answer = refl; fault = refl; chip = refl; flash = refl; room = refl }

-- A block that is asked for is one of the part's.
one_inside : {p : Part} {o : Outcome} {v : Event} {a : Area} {block : ℕ} → SumOver p o v a block 1 → block < blocks p a
one_inside {p} {o} {v} {a} {block} q = omega (arith, (range-good p q.start q.end a block 1 q.range).inside)

all_right : (p : Part) (o : Outcome) (v : Event) → Right p o.memory → ToldRight p o v
unfolding ToldRight
all_right p o v r a block q = r.each a block (one_inside q)

none-asked : (p : Part) (o : Outcome) (v : Event) → (SumOfOne p o v → ⊥) → ToldRight p o v
unfolding ToldRight
none-asked p o v n a block q = absurd (n (sum_of a block q))

pub as_before : AsBefore
unfolding ToldRight
as_before p o v r = one-event p o o v (self o) (all_right p o v r)

pub others-as-before : OthersAsBefore
unfolding ToldRight
others-as-before p o v n = one-event p o o v (self o) (none-asked p o v n)

-- A run in which every sum of one block that is asked for is right.
data AllToldRight (p : Part) : Outcome → List Event → Type 0 where
  last_one : {o : Outcome} → AllToldRight p o []
  right_here : {o : Outcome} {v : Event} {vs : List Event} → ToldRight p o v → AllToldRight p (onward p o v) vs → AllToldRight p o (v ∷ vs)

record Runs (p : Part) (vs : List Event) (o u : Outcome) : Type 0 where
  says : answers p vs o ≡ answers_before p vs u
  after : SameButSums (run p vs o) (run_before p vs u)

same-spoken : {o u : Outcome} → SameButSums o u → spoken_in o ≡ spoken_in u
same-spoken e = rw (e.answer, e.fault, e.room)

runs : (p : Part) (vs : List Event) (o u : Outcome) → SameButSums o u → AllToldRight p o vs → Runs p vs o u
unfolding answers answers_under run run_under ToldRight
runs p [] o u e last_one = record { says = refl; after = e }
runs p (v ∷ vs) o u e (right_here h r) =
    let n = one-event p o u v e h in
    let q = runs p vs _ _ n r in
    record {
      says = ap (λ (x : Spoken). x ∷ answers p vs (onward p o v)) (same-spoken n) ∙ ap (λ (xs : List Spoken). spoken_in (onward_before p u v) ∷ xs) q.says;
      after = q.after;
    }

run-like : (p : Part) (vs : List Event) (o : Outcome) → AllToldRight p o vs → RunsAsBefore p vs o
run-like p vs o r = let q = runs p vs o o (self o) r in record { says = q.says; after = q.after }

right-along : (p : Part) (vs : List Event) (o : Outcome) → Stands p o → AllProper vs → Right p o.memory → AllToldRight p o vs
right-along p [] o s no_event r = last_one
right-along p (v ∷ vs) o s (and_event h q) r =
    right_here (all_right p o v r) (right-along p vs (onward p o v) (stays p o v s h) q (stays-right p o v s h r))

none-along : (p : Part) (vs : List Event) (o : Outcome) → Never (SumOfOne p) p o vs → AllToldRight p o vs
none-along p [] o at_end = last_one
none-along p (v ∷ vs) o (not_here n r) = right_here (none-asked p o v n) (none-along p vs _ r)

pub run-as-before : RunAsBefore
run-as-before p vs o s q r = run-like p vs o (right-along p vs o s q r)

pub other-run-as-before : OtherRunAsBefore
other-run-as-before p vs o n = run-like p vs o (none-along p vs o n)
