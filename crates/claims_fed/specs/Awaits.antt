-- What a phase awaits, by the framing rule, and when a frame is good there: document 01, "Frames" and "Phases".
use Rattle.std.specs.Prelude.{Bool, List, ℕ}
use Rattle.chip.specs.declared.Event.{Event}
use Rattle.chip.specs.declared.Event.TheVariants.{Byte, Gap}
use Rattle.chip_pages.specs.Pages.{footer_of, length_of}
use Rattle.chip_core.specs.declared.Awaited.{Awaited}
use Rattle.chip_core.specs.declared.Phase.{Phase}
use Rattle.chip_core.specs.declared.Phase.TheVariants.{Awaiting, ModeByte, Ready, Setup}
use Rattle.frame.specs.Framing.{Sound, byte, gap}
use Rattle.frame.specs.Judgement.{fitting, is_good, judge_of}
use Rattle.frame.specs.declared.Footer.{Footer}
use Rattle.frame.specs.declared.Footer.TheVariants.{Last}
use Rattle.frame.specs.declared.Header.{Header}
use Rattle.frame.specs.declared.Header.TheVariants.{Command, Data}
use Rattle.frame.specs.declared.judgement.Judgement.{Judgement}

-- What is awaited: a command frame, or a data frame with this footer and so many data bytes.
pub data Awaits : Type 0 where
  a_command : Awaits
  a_page : Footer → ℕ → Awaits

abbrev pub header_of : Awaits → Header
header_of a_command = Command
header_of (a_page f n) = Data

-- The judgement of a complete frame where it is awaited: of its footer and SUM, for a command whatever the command; of a data frame also of its LEN.
abbrev pub judged_in : Awaits → List ℕ → Judgement
judged_in a_command bs = judge_of Last bs
judged_in (a_page f n) bs = fitting n bs (judge_of f bs)

-- "A good frame has right footer and SUM; a data frame also needs the right LEN."
unfoldable pub good_for : Awaits → List ℕ → Bool
good_for a bs = is_good (judged_in a bs)

-- What a phase awaits. (Phase 1 awaits no frame, and no claim is made of it.)
abbrev pub awaits_in : Phase → Awaits
awaits_in ModeByte = a_command
awaits_in Setup = a_command
awaits_in Ready = a_command
awaits_in (Awaiting w) = a_page (footer_of w) (length_of w)

abbrev pub header_in : Phase → Header
header_in f = header_of (awaits_in f)

-- Phases that await a command: 2 and 3.
pub data AwaitsCommand : Phase → Type 0 where
  in_setup : AwaitsCommand Setup
  in_ready : AwaitsCommand Ready

-- Phases that await a frame: 2, 3 and 4.
pub data AwaitsFrame : Phase → Type 0 where
  command : {f : Phase} → AwaitsCommand f → AwaitsFrame f
  page : (w : Awaited) → AwaitsFrame (Awaiting w)

-- The events of bytes and gaps.
abbrev pub event_of : Sound → Event
event_of (byte b) = Byte b
event_of gap = Gap
