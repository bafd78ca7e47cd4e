-- What a refused call of the door leaves, and that an answer is a reply.
use Rattle.std.specs.Prelude.{Bool, false, true, List, ◌≡◌, ℕ, Err, Ok, Result}
use Rattle.part.specs.declared.refusal.Refusal.{Refusal}
use Rattle.chip_reply.specs.declared.Sent.{Sent}
use Rattle.chip_door.specs.Calls.{StepTold}
use Rattle.chip_core.specs.Effect.{Memory}

-- "State and lent bytes stay.", and so do the lent sums and the numbers told.
pub record StepKept (t : StepTold) (told state : List ℕ) (m : Memory) (room : List ℕ) : Type 0 where
  pub told_stays : t.told ≡ told
  pub state_stays : t.state ≡ state
  pub memory_stays : t.memory ≡ m
  pub room_stays : t.room ≡ room

unfoldable pub replies : Result Sent Refusal → Bool
replies (Ok sent) = true
replies (Err r) = false
