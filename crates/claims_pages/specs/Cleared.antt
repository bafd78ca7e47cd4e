-- Between erases bits only go from 1 to 0: the corollary of document 02, §6, "programming only clears bits", over any run of events.
use Rattle.std.specs.Prelude.{true, List, [], ◌∷◌, ◌≡◌, ◌+◌, ◌<◌, ◌≤◌, ℕ, get_or, Ok, Some}
use Rattle.chip.specs.Run.{run}
use Rattle.chip.specs.Step.{Outcome}
use Rattle.chip.specs.declared.Event.{Event}
use Rattle.chip_core.specs.Effect.{bytes_in}
use Rattle.chip_core.specs.declared.Phase.TheVariants.{Ready}
use Rattle.claims_good.specs.Good.{AllProper, Stands}
use Rattle.claims_pages.specs.Bytes.{bit_of}
use Rattle.claims_runs.specs.Options.{Never}
use Rattle.claims_runs.specs.Taken.{taken_by}
use Rattle.commands.specs.Commands.{read_command}
use Rattle.commands.specs.declared.Command.TheVariants.{BlockErase}
use Rattle.frame.specs.Frame.{payload}
use Rattle.frame.specs.Judgement.{is_good, judge_of}
use Rattle.frame.specs.declared.Footer.TheVariants.{Last}
use Rattle.part.specs.Part.{block_size, place_of, place_at}
use Rattle.part.specs.declared.Area.{Area}
use Rattle.part.specs.declared.Part.{Part}

-- The event completes, in phase 3, a good frame of 22h that names the block in which byte i of the area lies.
pub record AsksErase (p : Part) (a : Area) (i : ℕ) (o : Outcome) (v : Event) : Type 0 where
  pub frame : List ℕ
  pub start : ℕ
  pub offset : ℕ
  pub block : ℕ
  pub page : ℕ
  pub phase : o.chip.core.phase ≡ Ready
  pub taken : taken_by o v ≡ frame ∷ []
  pub good : is_good (judge_of Last frame) ≡ true
  pub command : read_command (payload frame) ≡ Ok (BlockErase start)
  pub place : place_of p start ≡ Some (place_at a offset block page)
  pub under : offset ≤ i
  pub inside : i < offset + block_size p a

-- No bit of a byte goes from 0 to 1 unless its block is erased.
abbrev pub BitsOnlyClear : Type 0
BitsOnlyClear =
    (p : Part) (o : Outcome) (vs : List Event) → Stands p o → AllProper vs → (a : Area) (i : ℕ) → Never (AsksErase p a i) p o vs → (k : ℕ)
    → bit_of k (get_or (bytes_in a (run p vs o).memory.flash) i 0) ≤ bit_of k (get_or (bytes_in a o.memory.flash) i 0)
