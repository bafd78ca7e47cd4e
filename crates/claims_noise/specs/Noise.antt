-- Noise, by the framing rule alone: demand 3. No flash, no options and no verdict of the chip is in it, only the bytes and gaps that come, the
-- header that is awaited, and footer, SUM and LEN of the frames that they complete.
use Rattle.std.specs.Prelude.{Bool, false, not, true, List, [], ◌++◌, ◌∷◌, map, ℕ}
use Rattle.claims_fed.specs.Awaits.{Awaits, a_command, event_of, good_for, header_of}
use Rattle.chip.specs.declared.Event.{Event}
use Rattle.chip.specs.declared.Event.TheVariants.{Gap, PowerOn}
use Rattle.lent.specs.Lent.{same}
use Rattle.frame.specs.Framing.{Framing, Sound, frames, framing, idle}
use Rattle.frame.specs.declared.Header.TheVariants.{Data}
use Rattle.words.specs.Words.{◌and◌, ◌or◌}

-- The one good frame that may be completed, or none.
pub data Allowed : Type 0 where
  no_frame : Allowed
  only : List ℕ → Allowed

unfoldable pub allows : Allowed → List ℕ → Bool
allows no_frame bs = false
allows (only f) bs = same f bs

unfoldable pub empty : {A : Type 0} → List A → Bool
empty [] = true
empty (x ∷ xs) = false

-- A completed frame is not good, or it is the one allowed, and nothing comes after it.
unfoldable pub permitted : Allowed → Awaits → List (List ℕ) → Bool → Bool
permitted g a [] end = true
permitted g a (f ∷ fs) end = not (good_for a f) or allows g f and end

-- After a bad data frame "the command is over": what follows is framed as for a command.
unfoldable pub then_awaits : Awaits → List (List ℕ) → Awaits
then_awaits a [] = a
then_awaits a (f ∷ fs) = a_command

-- "any bytes and gaps in which the framing rule of demand 2 completes no good frame", but for the one allowed.
unfoldable pub completes_only : Allowed → Awaits → Framing → List Sound → Bool
completes_only g a w [] = true
completes_only g a w (v ∷ vs) =
    let s = framing (header_of a) w v in
    permitted g a s.done (empty vs) and completes_only g (then_awaits a s.done) s.stands vs

-- A data frame was completed.
unfoldable pub data_completed : List Sound → Bool
data_completed vs = not (empty (frames Data idle vs))

-- "then a gap"; or power-on.
unfoldable pub then_gap : List Sound → List Event
then_gap vs = map event_of vs ++ Gap ∷ []

unfoldable pub then_power_on : List Sound → List Event
then_power_on vs = map event_of vs ++ PowerOn ∷ []
