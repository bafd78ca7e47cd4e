-- Which fault is told, and when: document 02, §4, in document 01's order of judging a complete frame.
use Rattle.std.specs.Prelude.{false, not, List, [], ◌∷◌, ◌≡◌, ℕ, get_or, Err, Ok, Result}
use Rattle.chip.specs.Run.{onward}
use Rattle.chip.specs.Step.{Outcome}
use Rattle.chip.specs.declared.Event.{Event}
use Rattle.chip_commands.specs.Commands.{allowed_in, work}
use Rattle.chip_core.specs.Effect.{Memory}
use Rattle.chip_core.specs.declared.Awaited.{Awaited}
use Rattle.chip_core.specs.declared.Core.{Core}
use Rattle.chip_core.specs.declared.Phase.{Phase}
use Rattle.chip_core.specs.declared.Phase.TheVariants.{Awaiting, ModeByte, Ready, Setup}
use Rattle.chip_pages.specs.Pages.{good_data}
use Rattle.chip_reply.specs.Reply.{fault_in}
use Rattle.claims_fed.specs.Awaits.{AwaitsFrame, awaits_in, judged_in}
use Rattle.claims_fed.specs.Fed.{BadDoes, does_in}
use Rattle.claims_good.specs.Good.{verdict_in}
use Rattle.claims_runs.specs.Taken.{taken_by}
use Rattle.commands.specs.Commands.{read_command}
use Rattle.commands.specs.declared.Command.{Command}
use Rattle.part.specs.declared.refusal.Refusal.{Refusal}
use Rattle.commands.specs.declared.Misread.TheVariants.{UnfitLen, Unknown}
use Rattle.commands.specs.declared.Misread.{Misread}
use Rattle.frame.specs.Frame.{payload}
use Rattle.frame.specs.Judgement.{is_good, judge_of}
use Rattle.frame.specs.declared.Footer.TheVariants.{Last}
use Rattle.frame.specs.declared.judgement.Judgement.{Judgement}
use Rattle.frame.specs.declared.judgement.Judgement.TheVariants.{Good, UnfitLength}
use Rattle.part.specs.declared.Part.{Part}
use Rattle.words.specs.Words.{if◌then◌otherwise◌}

-- "command unknown .. 04h; LEN unfit for the command 15h": an unknown command has no LEN to fit, and no fault.
unfoldable pub fault_read : Result Command Misread → Judgement
fault_read (Err Unknown) = Good
fault_read (Err UnfitLen) = UnfitLength
fault_read (Ok c) = Good

-- A command frame: "wrong footer 15h; wrong SUM 07h; command unknown or not allowed in this phase 04h; LEN unfit for the command 15h; .."; what comes after these
-- is no fault of the frame.
unfoldable pub command_fault : Phase → List ℕ → Judgement
command_fault ph f =
    if not (is_good (judge_of Last f)) then judge_of Last f
    otherwise if not (allowed_in ph (get_or (payload f) 0 0)) then Good
    otherwise fault_read (read_command (payload f))

-- A data frame: footer, SUM and LEN. (Phase 1 awaits no frame.)
unfoldable pub fault_for : Phase → List ℕ → Judgement
fault_for ModeByte f = Good
fault_for Setup f = command_fault Setup f
fault_for Ready f = command_fault Ready f
fault_for (Awaiting w) f = judged_in (awaits_in (Awaiting w)) f

-- The reply to any frame, in any state, names this fault.
abbrev pub FaultOfFrame : Type 0
FaultOfFrame = (p : Part) (k : Core) (m : Memory) (f : List ℕ) → fault_in (does_in p f k m).reply ≡ fault_for k.phase f

-- Where there is one, it is what the frame is blamed for, unfit LEN of a command included: the status said is the fault's, and nothing else happens but that a
-- command with data is over.
abbrev pub FaultIsBlamed : Type 0
FaultIsBlamed =
    (p : Part) (k : Core) (m : Memory) (f : List ℕ) → AwaitsFrame k.phase → is_good (fault_for k.phase f) ≡ false
    → BadDoes k.phase p k m (fault_for k.phase f) (does_in p f k m)

-- A refused parameter (05h), protection (10h), a blank check (1Bh), a page that is not what was sent (1Ch) and one that differs (0Fh) name none: no work does.
pub record WorkNamesNone : Type 0 where
  pub of_command : (c : Command) (p : Part) (k : Core) (m : Memory) → fault_in (work c p k m).reply ≡ Good
  pub of_data : (p : Part) (k : Core) (w : Awaited) (ds : List ℕ) (m : Memory) → fault_in (good_data p k w ds m).reply ≡ Good

-- Over any event, whatever the part, the chip, what is lent and the event are: none for a refused call, none where no frame is completed, and else that frame's.
unfoldable pub fault_by : Result Unit Refusal → Phase → List (List ℕ) → Judgement
fault_by (Err r) ph fs = Good
fault_by (Ok _) ph [] = Good
fault_by (Ok _) ph (f ∷ fs) = fault_for ph f

abbrev pub FaultOfEvent : Type 0
FaultOfEvent = (p : Part) (o : Outcome) (v : Event) → (onward p o v).fault ≡ fault_by (verdict_in p o) o.chip.core.phase (taken_by o v)
