-- A stretch of bytes: document 01's step for each, up to the first that is answered. A recording and a caller with more than one byte stand on it.
use Rattle.std.specs.Prelude.{List, [], ◌∷◌, ◌+◌, ℕ, eqb, Err, Ok, Result}
use Rattle.chip.specs.Run.{onward}
use Rattle.chip.specs.Step.{Outcome}
use Rattle.part.specs.declared.refusal.Refusal.{Refusal}
use Rattle.chip_reply.specs.declared.Sent.{Sent}
use Rattle.chip.specs.declared.Event.TheVariants.{Byte}
use Rattle.chip_core.specs.Effect.{Memory}
use Rattle.chip_feed.specs.declared.Fed.{Fed}
use Rattle.part.specs.declared.Part.{Part}
use Rattle.words.specs.Words.{if◌then◌otherwise◌}

-- Bytes one after the other, up to the first that is answered: how many were taken, and what the last step left. A byte that is refused is not taken.
pub record Feeding : Type 0 where
  pub taken : ℕ
  pub left : Outcome

abbrev pub feeding : ℕ → Outcome → Feeding
feeding n o = record { taken = n; left = o }

-- After a byte's answer, n bytes having been taken before it: the rest goes on only in silence.
unfoldable pub fed_on : Result Sent Refusal → ℕ → Outcome → Feeding → Feeding
fed_on (Ok sent) n o rest = if eqb sent.frames 0 then rest otherwise feeding (n + 1) o
fed_on (Err r) n o rest = feeding n o

unfoldable pub feed_from : Part → ℕ → List ℕ → Outcome → Feeding
feed_from p n [] o = feeding n o
feed_from p n (b ∷ bs) o = fed_on (onward p o (Byte b)).answer n (onward p o (Byte b)) (feed_from p (n + 1) bs (onward p o (Byte b)))

abbrev pub fed : Fed → Memory → List ℕ → Feeding
fed f m room = feeding f.taken (record { answer = f.answer; fault = f.fault; chip = f.chip; memory = m; room = room })

unfoldable pub feed_of : Part → List ℕ → Outcome → Feeding
feed_of p bs o = feed_from p 0 bs o
