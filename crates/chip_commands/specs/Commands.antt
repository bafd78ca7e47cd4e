-- The command frames: document 01, "Phases" and "Commands", in the judging order of "Frames"; 000, chapter 3.
use Rattle.std.specs.Prelude.{Bool, false, not, List, ℕ, eqb, get_or, Err, Ok, Result}
use Rattle.chip_core.specs.Effect.{Effect, Memory, acknowledge, awaiting, command_error, effect, says, told}
use Rattle.chip_core.specs.declared.Core.{Core}
use Rattle.chip_core.specs.declared.Phase.{Phase}
use Rattle.chip_core.specs.declared.Phase.TheVariants.{Awaiting, ModeByte, Ready, Setup}
use Rattle.chip_reply.specs.declared.Reply.TheVariants.{BadFrame, Security, Signature}
use Rattle.chip_work.specs.Work.{blank_check, block_erase, checksum, programming, rate_set, security_release, verify}
use Rattle.commands.specs.Commands.{read_command}
use Rattle.commands.specs.declared.Command.{Command}
use Rattle.commands.specs.declared.Command.TheVariants.{BlankCheck, BlockErase, Checksum, Programming, RateSet, Reset, Verify}
use Rattle.commands.specs.declared.Command.TheVariants.{SecurityGet, SecurityRelease, SecuritySet, SignatureGet}
use Rattle.commands.specs.declared.Misread.TheVariants.{UnfitLen, Unknown}
use Rattle.commands.specs.declared.Misread.{Misread}
use Rattle.frame.specs.Frame.{payload}
use Rattle.frame.specs.Judgement.{is_good, judge_of}
use Rattle.frame.specs.declared.Footer.TheVariants.{Last}
use Rattle.frame.specs.declared.judgement.Judgement.TheVariants.{UnfitLength}
use Rattle.part.specs.Part.{place_of, range_of}
use Rattle.part.specs.declared.Part.{Part}
use Rattle.words.specs.Words.{if◌then◌otherwise◌}

-- "2. Only 9Ah. 3. Ready: all but 9Ah.", by COM.
unfoldable pub allowed_in : Phase → ℕ → Bool
allowed_in ModeByte cmd = false
allowed_in Setup cmd = eqb cmd 0x9A
allowed_in Ready cmd = not (eqb cmd 0x9A)
allowed_in (Awaiting w) cmd = false

-- The work of each command, in the order of the table.
unfoldable pub work : Command → Part → Core → Memory → Effect
work (RateSet rate supply) p k m = effect (rate_set p k rate supply) m
work Reset p k m = effect (says acknowledge k) m
work (BlockErase start) p k m = block_erase p k (place_of p start) m
work (BlankCheck start end d01) p k m = effect (blank_check p k (range_of p start end) d01 m.flash) m
work (Programming start end) p k m = effect (programming p k (range_of p start end) start end) m
work (Verify start end) p k m = effect (verify k (range_of p start end) start end) m
work (Checksum start end) p k m = effect (checksum p k (range_of p start end) m) m
work SignatureGet p k m = effect (told Signature k) m
work SecurityGet p k m = effect (told Security k) m
work SecuritySet p k m = effect (says acknowledge (awaiting 0xA0 0 0 k)) m
work SecurityRelease p k m = effect (security_release p k m.flash) m

-- "command unknown .. 04h; LEN unfit for the command 15h; ..; then the work"
unfoldable pub reading_does : Result Command Misread → Part → Core → Memory → Effect
reading_does (Err Unknown) p k m = effect (says command_error k) m
reading_does (Err UnfitLen) p k m = effect (told (BadFrame UnfitLength) k) m
reading_does (Ok c) p k m = work c p k m

-- A complete command frame: footer and SUM first, then whether the phase allows its COM, the command, its LEN, its parameters, protection, the work.
unfoldable pub command_does : Part → Core → List ℕ → Memory → Effect
command_does p k f m =
    if not (is_good (judge_of Last f)) then effect (told (BadFrame (judge_of Last f)) k) m
    otherwise if not (allowed_in k.phase (get_or (payload f) 0 0)) then effect (says command_error k) m
    otherwise reading_does (read_command (payload f)) p k m
