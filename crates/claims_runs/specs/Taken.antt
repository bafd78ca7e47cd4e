-- The frame that an event completes where the chip stands: document 01, "Collecting". It is the one that the collector takes (claims_frame/specs/Collecting),
-- and so the one that the framing rule completes (`framing-agrees`).
use Rattle.std.specs.Prelude.{List, [], ℕ}
use Rattle.chip.specs.Step.{Outcome}
use Rattle.chip.specs.declared.Event.{Event}
use Rattle.chip.specs.declared.Event.TheVariants.{Byte, Gap, PowerOn}
use Rattle.chip_core.specs.Hearing.{hearing}
use Rattle.chip_core.specs.declared.Hearing.{Hearing}
use Rattle.chip_core.specs.declared.Hearing.TheVariants.{HearsCommands, HearsData, HearsNothing}
use Rattle.claims_frame.specs.Collecting.{collects_on}
use Rattle.frame.specs.Collector.{heard}
use Rattle.frame.specs.Framing.{byte}
use Rattle.frame.specs.declared.Header.{Header}
use Rattle.frame.specs.declared.Header.TheVariants.{Command, Data}

-- While a frame with this header is awaited: the one frame that the event completes, or none.
unfoldable pub taken_as : Header → List ℕ → Event → List (List ℕ)
taken_as h hs (Byte b) = (collects_on h hs (byte b)).taken
taken_as h hs Gap = []
taken_as h hs PowerOn = []

unfoldable pub taken_in : Hearing → List ℕ → Event → List (List ℕ)
taken_in HearsNothing hs v = []
taken_in HearsCommands hs v = taken_as Command hs v
taken_in (HearsData w) hs v = taken_as Data hs v

abbrev pub taken_by : Outcome → Event → List (List ℕ)
taken_by o v = taken_in (hearing o.chip.core.phase) (heard o.chip.collector) v
