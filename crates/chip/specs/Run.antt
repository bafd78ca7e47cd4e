-- Runs: the fold of the step's definition over events. Noise, recordings and the whole cable all stand on it.
use Rattle.std.specs.Prelude.{List, [], ◌++◌, ◌∷◌, ℕ, take, Err, Ok, Result}
use Rattle.chip.specs.Step.{Outcome, step_of}
use Rattle.chip_reply.specs.Reply.{sent_as}
use Rattle.part.specs.declared.refusal.Refusal.{Refusal}
use Rattle.chip_reply.specs.declared.Sent.{Sent}
use Rattle.chip_state.specs.declared.Chip.{Chip}
use Rattle.chip.specs.declared.Event.{Event}
use Rattle.chip_core.specs.Effect.{Memory}
use Rattle.frame.specs.declared.judgement.Judgement.{Judgement}
use Rattle.frame.specs.declared.judgement.Judgement.TheVariants.{Good}
use Rattle.part.specs.declared.Part.{Part}

-- One more event, on what the last one left.
abbrev pub onward : Part → Outcome → Event → Outcome
onward p o v = step_of p o.chip v o.memory o.room

unfoldable pub run : Part → List Event → Outcome → Outcome
run p [] o = o
run p (v ∷ vs) o = run p vs (onward p o v)

-- Before any event nothing has been said.
abbrev pub before : Chip → Memory → List ℕ → Outcome
before c m room = record { answer = Ok (sent_as 0 0); fault = Good; chip = c; memory = m; room = room }

-- The answer to each event, its fault, and the room after it.
pub record Spoken : Type 0 where
  pub answer : Result Sent Refusal
  pub fault : Judgement
  pub room : List ℕ

abbrev pub spoken_in : Outcome → Spoken
spoken_in o = record { answer = o.answer; fault = o.fault; room = o.room }

unfoldable pub answers : Part → List Event → Outcome → List Spoken
answers p [] o = []
answers p (v ∷ vs) o = spoken_in (onward p o v) ∷ answers p vs (onward p o v)

-- The reply bytes to each event, one after the other.
abbrev pub bytes_said : Result Sent Refusal → List ℕ → List ℕ
bytes_said (Ok sent) room = take sent.bytes room
bytes_said (Err r) room = []

unfoldable pub heard_back : List Spoken → List ℕ
heard_back [] = []
heard_back (x ∷ xs) = bytes_said x.answer x.room ++ heard_back xs
