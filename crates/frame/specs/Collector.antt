-- The collector: document 01, "Frames", "Collecting". What it has heard is a list; its bytes past the count are spare, and nothing touches them.
use Rattle.std.specs.Prelude.{ℕ, ◌+◌, List, [], ◌∷◌, ◌++◌, length, take, drop, replicate, ◌==◌, nat_le}
use Rattle.frame.specs.Frame.{complete, header_byte, longest}
use Rattle.frame.specs.declared.Header.{Header}
use Rattle.frame.specs.declared.collector.Collector.{Collector}
use Rattle.words.specs.Words.{if◌then◌otherwise◌}

abbrev pub collecting : List ℕ → ℕ → Collector
collecting bs n = record { bytes = bs; len = n }

unfoldable pub heard : Collector → List ℕ
heard c = take c.len c.bytes

-- A collector that has heard these bytes, its spare bytes as they were in c.
unfoldable pub holding : Collector → List ℕ → Collector
holding c hs = record { bytes = hs ++ drop (length hs) c.bytes; len = length hs }

-- A byte after those heard: "while a command is awaited, bytes before 01h are skipped; while a data frame is awaited, bytes before 02h."
unfoldable pub hear : Header → List ℕ → ℕ → List ℕ
hear h [] b = if b == header_byte h then b ∷ [] otherwise []
hear h (x ∷ xs) b = x ∷ xs ++ b ∷ []

-- A byte comes: a complete frame waits to be taken, and no byte is added to it.
unfoldable pub byte_of : Collector → Header → ℕ → Collector
byte_of c h b = if complete (heard c) then c otherwise holding c (hear h (heard c) b)

-- Bytes come that are only added to those heard. Where not all of them have a place, none is.
unfoldable pub added : Collector → List ℕ → Collector
added c bs = if nat_le (c.len + length bs) longest then holding c (heard c ++ bs) otherwise c

-- One byte that is only added, worked out in a lent array: the array holds the collector's bytes then.
pub record Adding : Type 0 where
  pub collector : Collector
  pub work : List ℕ

abbrev pub adding : Collector → List ℕ → Adding
adding c w = record { collector = c; work = w }

unfoldable pub add_of : Collector → ℕ → Adding
add_of c b = let d = added c (b ∷ []) in adding d d.bytes

-- "A gap drops what is collected and changes nothing else. Power-on drops it too."
unfoldable pub dropped : Collector → Collector
dropped c = holding c []

-- A new collector has heard nothing.
unfoldable pub fresh : Collector
fresh = record { bytes = replicate longest 0; len = 0 }
