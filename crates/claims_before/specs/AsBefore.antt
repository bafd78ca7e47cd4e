-- "B0h over one block gives the kept sum ..; all other answers are as before." (document 02, §1): the chip beside the chip before it (specs/Before).
-- With right sums every answer is as before; with any sums, every other answer.
use Rattle.std.specs.Prelude.{List, ◌≡◌}
use Rattle.chip.specs.Run.{answers, onward, run}
use Rattle.chip.specs.Step.{Outcome}
use Rattle.chip.specs.declared.Event.{Event}
use Rattle.chip_sums.specs.Sums.{Right}
use Rattle.claims_before.specs.Asked.{SumOfOne}
use Rattle.claims_before.specs.Before.{answers_before, onward_before, run_before}
use Rattle.claims_good.specs.Good.{AllProper, Stands}
use Rattle.claims_runs.specs.Options.{Never}
use Rattle.part.specs.declared.Part.{Part}

-- Two outcomes that differ at most in the sums.
pub record SameButSums (o u : Outcome) : Type 0 where
  pub answer : o.answer ≡ u.answer
  pub fault : o.fault ≡ u.fault
  pub chip : o.chip ≡ u.chip
  pub flash : o.memory.flash ≡ u.memory.flash
  pub room : o.room ≡ u.room

-- One event, whatever the part, the chip, what is lent and the event are: refused calls too.
abbrev pub AsBefore : Type 0
AsBefore = (p : Part) (o : Outcome) (v : Event) → Right p o.memory → SameButSums (onward p o v) (onward_before p o v)

-- For any sums, right or wrong.
abbrev pub OthersAsBefore : Type 0
OthersAsBefore = (p : Part) (o : Outcome) (v : Event) → (SumOfOne p o v → ⊥) → SameButSums (onward p o v) (onward_before p o v)

-- Any list of events: the answer to each with the room after it, and what the last one leaves.
pub record RunsAsBefore (p : Part) (vs : List Event) (o : Outcome) : Type 0 where
  pub says : answers p vs o ≡ answers_before p vs o
  pub after : SameButSums (run p vs o) (run_before p vs o)

-- From right sums: they stay right (claims_sums/specs/Touched).
abbrev pub RunAsBefore : Type 0
RunAsBefore = (p : Part) (vs : List Event) (o : Outcome) → Stands p o → AllProper vs → Right p o.memory → RunsAsBefore p vs o

-- Whatever the sums are, where no event asks for the sum of one block.
abbrev pub OtherRunAsBefore : Type 0
OtherRunAsBefore = (p : Part) (vs : List Event) (o : Outcome) → Never (SumOfOne p) p o vs → RunsAsBefore p vs o
