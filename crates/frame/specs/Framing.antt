-- The framing rule as a machine of its own: document 01, "Frames", "Collecting". It knows the awaited header, bytes and gaps, and says
-- which frames they complete; it counts down what is still to come, and knows nothing of a collector, flash or options.
use Rattle.std.specs.Prelude.{ℕ, ◌+◌, ◌-◌, List, [], ◌∷◌, ◌++◌, ◌==◌, nat_le}
use Rattle.frame.specs.Frame.{counted, header_byte}
use Rattle.frame.specs.declared.Header.{Header}
use Rattle.words.specs.Words.{if◌then◌otherwise◌}

pub data Sound : Type 0 where
  byte : ℕ → Sound
  gap : Sound

-- Where the machine stands in a frame.
pub data Framing : Type 0 where
  idle : Framing
  begun : ℕ → Framing
  inside : List ℕ → ℕ → Framing

-- Where it stands after a sound, and the frame that the sound completed, if any.
pub record Framed : Type 0 where
  pub stands : Framing
  pub done : List (List ℕ)

abbrev pub quiet : Framing → Framed
quiet w = record { stands = w; done = [] }

abbrev pub completes : List ℕ → Framed
completes f = record { stands = idle; done = f ∷ [] }

unfoldable pub framing : Header → Framing → Sound → Framed
framing h w gap = quiet idle
framing h idle (byte b) = if b == header_byte h then quiet (begun b) otherwise quiet idle
framing h (begun x) (byte b) = quiet (inside (x ∷ b ∷ []) (counted b + 2))
framing h (inside bs n) (byte b) = if nat_le n 1 then completes (bs ++ b ∷ []) otherwise quiet (inside (bs ++ b ∷ []) (n - 1))

-- The frames that a list of sounds completes, in order, and where the machine stands after them.
unfoldable pub frames : Header → Framing → List Sound → List (List ℕ)
frames h w [] = []
frames h w (v ∷ vs) = (framing h w v).done ++ frames h (framing h w v).stands vs

unfoldable pub stands_after : Header → Framing → List Sound → Framing
stands_after h w [] = w
stands_after h w (v ∷ vs) = stands_after h (framing h w v).stands vs
