-- A dock as the language can hold one: each number within its type. And what a refused call on the dock leaves.
use Rattle.std.specs.Prelude.{List, ◌≡◌, ◌<◌, ◌^◌, ℕ}
use Rattle.dock_door.specs.Calls.{AskTold, HearTold}
use Rattle.dock_layout.specs.Layout.{flat_of, named}
use Rattle.dock_job.specs.declared.Dock.{Dock}

pub record HeldDock (d : Dock) : Type 0 where
  pub retries : d.retries < 256 ^ 4
  pub frames : d.frames < 256 ^ 4
  pub block : named (flat_of d.stage).block < 256 ^ 4
  pub page : named (flat_of d.stage).page < 256 ^ 4
  pub place : (flat_of d.stage).fault.place < 256 ^ 2

-- "State and lent bytes stay.", and so do the numbers told.
pub record AskKept (t : AskTold) (told state room : List ℕ) : Type 0 where
  pub told_stays : t.told ≡ told
  pub state_stays : t.state ≡ state
  pub room_stays : t.room ≡ room

pub record HearKept (t : HearTold) (told state : List ℕ) : Type 0 where
  pub told_stays : t.told ≡ told
  pub state_stays : t.state ≡ state
