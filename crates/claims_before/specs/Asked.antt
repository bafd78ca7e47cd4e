-- An event that asks for a sum: it completes, in phase 3, a good frame of B0h over a good range (document 01, "Commands"; the frame by claims_runs/specs/Taken).
use Rattle.std.specs.Prelude.{true, List, [], ◌∷◌, ◌≡◌, ℕ, Ok, Some}
use Rattle.chip.specs.Step.{Outcome}
use Rattle.chip.specs.declared.Event.{Event}
use Rattle.chip_core.specs.declared.Phase.TheVariants.{Ready}
use Rattle.claims_runs.specs.Taken.{taken_by}
use Rattle.commands.specs.Commands.{read_command}
use Rattle.commands.specs.declared.Command.TheVariants.{Checksum}
use Rattle.frame.specs.Frame.{payload}
use Rattle.frame.specs.Judgement.{is_good, judge_of}
use Rattle.frame.specs.declared.Footer.TheVariants.{Last}
use Rattle.part.specs.Part.{range_of, range_at}
use Rattle.part.specs.declared.Area.{Area}
use Rattle.part.specs.declared.Part.{Part}

pub record SumOver (p : Part) (o : Outcome) (v : Event) (a : Area) (block count : ℕ) : Type 0 where
  pub frame : List ℕ
  pub start : ℕ
  pub end : ℕ
  pub phase : o.chip.core.phase ≡ Ready
  pub taken : taken_by o v ≡ frame ∷ []
  pub good : is_good (judge_of Last frame) ≡ true
  pub command : read_command (payload frame) ≡ Ok (Checksum start end)
  pub range : range_of p start end ≡ Some (range_at a block count)

-- Over one block, of either area.
pub data SumOfOne (p : Part) (o : Outcome) (v : Event) : Type 0 where
  sum_of : (a : Area) (block : ℕ) → SumOver p o v a block 1 → SumOfOne p o v
