-- The chip under given rules: the rules that requests of document 02 replace are an argument, and what calls them stands here once, as the chip has it
-- (chip_commands/specs/Commands, chip_pages/specs/Pages, chip/specs/Step, chip/specs/Run). All else is the chip's, by its name.
use Rattle.std.specs.Prelude.{not, List, [], ◌∷◌, ◌≡◌, ℕ, eqb, get_or, length, Err, Ok, Option, Result}
use Rattle.chip.specs.Run.{Spoken, spoken_in}
use Rattle.chip.specs.Step.{Outcome, Reaction, heard_byte, powered_on, reaction, settled, step_of}
use Rattle.chip_frame.specs.Does.{mode_byte, silent}
use Rattle.chip.specs.declared.Event.{Event}
use Rattle.chip.specs.declared.Event.TheVariants.{Byte, Gap, PowerOn}
use Rattle.chip_commands.specs.Commands.{allowed_in}
use Rattle.chip_core.specs.Effect.{Effect, Flash, Memory, acknowledge, awaiting, command_error, effect, says, told}
use Rattle.chip_core.specs.Hearing.{hearing}
use Rattle.chip_core.specs.declared.Awaited.{Awaited}
use Rattle.chip_core.specs.declared.Core.{Core}
use Rattle.chip_core.specs.declared.Done.{Done}
use Rattle.chip_core.specs.declared.Hearing.{Hearing}
use Rattle.chip_core.specs.declared.Hearing.TheVariants.{HearsCommands, HearsData, HearsNothing}
use Rattle.chip_pages.specs.Pages.{footer_of, length_of, program_page, ready, security_data, verify_page}
use Rattle.chip_reply.specs.declared.Reply.{Reply}
use Rattle.chip_reply.specs.declared.Reply.TheVariants.{BadFrame, BadPage, Security, Signature}
use Rattle.chip_state.specs.Refusals.{verdict_on}
use Rattle.chip_state.specs.declared.Chip.{Chip}
use Rattle.chip_work.specs.Work.{blank_check, block_erase, checksum, programming, rate_set, security_release, verify}
use Rattle.commands.specs.Commands.{read_command}
use Rattle.commands.specs.declared.Command as Commands
use Rattle.commands.specs.declared.Command.TheVariants.{BlankCheck, BlockErase, Checksum, Programming, RateSet, Reset, Verify}
use Rattle.commands.specs.declared.Command.TheVariants.{SecurityGet, SecurityRelease, SecuritySet, SignatureGet}
use Rattle.part.specs.declared.Range.{Range}
use Rattle.part.specs.declared.Place.{Place}
use Rattle.commands.specs.declared.Misread.TheVariants.{UnfitLen, Unknown}
use Rattle.commands.specs.declared.Misread.{Misread}
use Rattle.frame.specs.Collector.{hear, heard}
use Rattle.frame.specs.Frame.{payload}
use Rattle.frame.specs.Judgement.{fitting, is_good, judge_of}
use Rattle.frame.specs.declared.Footer.TheVariants.{Last}
use Rattle.frame.specs.declared.Header.TheVariants.{Command, Data}
use Rattle.frame.specs.declared.judgement.Judgement.{Judgement}
use Rattle.frame.specs.declared.judgement.Judgement.TheVariants.{UnfitLength}
use Rattle.part.specs.Part.{place_of, range_of}
use Rattle.part.specs.declared.Part.{Part}
use Rattle.words.specs.Words.{if◌then◌otherwise◌}

-- 22h's rule, B0h's, those of a good page of 40h and of 13h, and how a bad frame and a bad page are answered. §1 replaces the first three, §2 the fourth, §4 the
-- last two, §6 the third again.
pub record Rules : Type 0 where
  pub erases : Part → Core → Option Place → Memory → Effect
  pub sums : Part → Core → Option Range → Memory → Done
  pub stores : Part → Core → Awaited → Option Place → List ℕ → Memory → Effect
  pub compares : Core → Awaited → Option Place → List ℕ → Flash → Done
  pub to_bad_frame : Judgement → Reply
  pub to_bad_page : Judgement → Reply

-- The commands' work, in the order of the table.
unfoldable pub work_under : Rules → Commands.Command → Part → Core → Memory → Effect
work_under R (RateSet rate supply) p k m = effect (rate_set p k rate supply) m
work_under R Reset p k m = effect (says acknowledge k) m
work_under R (BlockErase start) p k m = R.erases p k (place_of p start) m
work_under R (BlankCheck start end d01) p k m = effect (blank_check p k (range_of p start end) d01 m.flash) m
work_under R (Programming start end) p k m = effect (programming p k (range_of p start end) start end) m
work_under R (Verify start end) p k m = effect (verify k (range_of p start end) start end) m
work_under R (Checksum start end) p k m = effect (R.sums p k (range_of p start end) m) m
work_under R SignatureGet p k m = effect (told Signature k) m
work_under R SecurityGet p k m = effect (told Security k) m
work_under R SecuritySet p k m = effect (says acknowledge (awaiting 0xA0 0 0 k)) m
work_under R SecurityRelease p k m = effect (security_release p k m.flash) m

unfoldable pub reading_does_under : Rules → Result Commands.Command Misread → Part → Core → Memory → Effect
reading_does_under R (Err Unknown) p k m = effect (says command_error k) m
reading_does_under R (Err UnfitLen) p k m = effect (told (R.to_bad_frame UnfitLength) k) m
reading_does_under R (Ok c) p k m = work_under R c p k m

-- A complete command frame.
unfoldable pub command_does_under : Rules → Part → Core → List ℕ → Memory → Effect
command_does_under R p k f m =
    if not (is_good (judge_of Last f)) then effect (told (R.to_bad_frame (judge_of Last f)) k) m
    otherwise if not (allowed_in k.phase (get_or (payload f) 0 0)) then effect (says command_error k) m
    otherwise reading_does_under R (read_command (payload f)) p k m

unfoldable pub bad_data_under : Rules → Awaited → Judgement → Core → Done
bad_data_under R w j k = if eqb w.command 0xA0 then told (R.to_bad_frame j) (ready k) otherwise told (R.to_bad_page j) (ready k)

unfoldable pub good_data_under : Rules → Part → Core → Awaited → List ℕ → Memory → Effect
good_data_under R p k w ds m =
    if eqb w.command 0xA0 then effect (security_data p k ds) m
    otherwise if eqb w.command 0x40 then R.stores p k w (place_of p w.next) ds m
    otherwise effect (R.compares k w (place_of p w.next) ds m.flash) m

-- A complete data frame.
unfoldable pub data_does_under : Rules → Part → Core → Awaited → List ℕ → Memory → Effect
data_does_under R p k w f m =
    let judgement = fitting (length_of w) f (judge_of (footer_of w) f) in
    if not (is_good judgement) then effect (bad_data_under R w judgement k) m
    otherwise good_data_under R p k w (payload f) m

unfoldable pub frame_does_under : Rules → Hearing → Part → Core → List ℕ → Memory → Effect
frame_does_under R HearsNothing p k f m = silent k m
frame_does_under R HearsCommands p k f m = command_does_under R p k f m
frame_does_under R (HearsData w) p k f m = data_does_under R p k w f m

unfoldable pub byte_in_under : Rules → Hearing → Part → Core → List ℕ → ℕ → Memory → Reaction
byte_in_under R HearsNothing p k hs b m = reaction hs (silent (mode_byte k b) m)
byte_in_under R HearsCommands p k hs b m = heard_byte (hear Command hs b) (frame_does_under R HearsCommands p k (hear Command hs b) m) k m
byte_in_under R (HearsData w) p k hs b m = heard_byte (hear Data hs b) (frame_does_under R (HearsData w) p k (hear Data hs b) m) k m

unfoldable pub react_to_under : Rules → Event → Part → Core → List ℕ → Memory → Reaction
react_to_under R (Byte b) p k hs m = byte_in_under R (hearing k.phase) p k hs b m
react_to_under R Gap p k hs m = reaction [] (silent k m)
react_to_under R PowerOn p k hs m = reaction [] (silent (powered_on k) m)

unfoldable pub step_under : Rules → Part → Chip → Event → Memory → List ℕ → Outcome
step_under R p c v m room =
    let verdict = verdict_on p c (length m.flash.code_flash) (length m.flash.data_flash) (length room) in
    let reaction = react_to_under R v p c.core (heard c.collector) m in
    settled verdict p reaction c m room

-- Runs of it.
abbrev pub onward_under : Rules → Part → Outcome → Event → Outcome
onward_under R p o v = step_under R p o.chip v o.memory o.room

unfoldable pub run_under : Rules → Part → List Event → Outcome → Outcome
run_under R p [] o = o
run_under R p (v ∷ vs) o = run_under R p vs (onward_under R p o v)

unfoldable pub answers_under : Rules → Part → List Event → Outcome → List Spoken
answers_under R p [] o = []
answers_under R p (v ∷ vs) o = spoken_in (onward_under R p o v) ∷ answers_under R p vs (onward_under R p o v)

-- The chip's own rules: under them it is the chip.
abbrev pub rules_now : Rules
rules_now =
    record { erases = block_erase; sums = checksum; stores = program_page; compares = verify_page; to_bad_frame = λ j. BadFrame j; to_bad_page = λ j. BadPage j }

abbrev pub OwnRules : Type 0
OwnRules = (p : Part) (c : Chip) (v : Event) (m : Memory) (room : List ℕ) → step_under rules_now p c v m room ≡ step_of p c v m room
