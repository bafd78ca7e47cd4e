-- The collector's way with sounds, on the list of what it has heard: a byte is heard, and a frame that it completes is taken and the
-- collector emptied; a gap empties it.
use Rattle.std.specs.Prelude.{List, [], ◌++◌, ◌∷◌, ℕ}
use Rattle.frame.specs.Collector.{hear}
use Rattle.frame.specs.Frame.{complete}
use Rattle.frame.specs.Framing.{Sound, byte, gap}
use Rattle.frame.specs.declared.Header.{Header}
use Rattle.words.specs.Words.{if◌then◌otherwise◌}

pub record Collected : Type 0 where
  pub holds : List ℕ
  pub taken : List (List ℕ)

unfoldable pub take-up : List ℕ → Collected
take-up hs = if complete hs then record { holds = []; taken = hs ∷ [] } otherwise record { holds = hs; taken = [] }

unfoldable pub collects_on : Header → List ℕ → Sound → Collected
collects_on h hs gap = record { holds = []; taken = [] }
collects_on h hs (byte b) = take-up (hear h hs b)

unfoldable pub collected : Header → List ℕ → List Sound → List (List ℕ)
collected h hs [] = []
collected h hs (v ∷ vs) = (collects_on h hs v).taken ++ collected h (collects_on h hs v).holds vs
