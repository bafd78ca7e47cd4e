-- What leaves every sum as it was, a wrong one too, and all of flash: document 02, §1, "only the sums of blocks that the event touched may change." A block that
-- is blank already may be erased without a byte changing; so it is said here which work touches a block at all.
-- Of an answer that is neither 06h nor 1Ch it is in `RefusedChangesNothing` (claims_runs/specs/Refused), of noise in `AsIf` (claims_noise/specs/Claims).
use Rattle.std.specs.Prelude.{List, ◌≢◌, ◌≡◌, ℕ, Err, Ok}
use Rattle.chip.specs.Run.{onward}
use Rattle.chip.specs.Step.{Outcome}
use Rattle.chip_reply.specs.Reply.{sent_as}
use Rattle.chip.specs.declared.Event.{Event}
use Rattle.chip.specs.declared.Event.TheVariants.{Gap, PowerOn}
use Rattle.chip_commands.specs.Commands.{work}
use Rattle.chip_core.specs.Effect.{Memory, acknowledge, write_error}
use Rattle.chip_core.specs.declared.Awaited.{Awaited}
use Rattle.chip_core.specs.declared.Core.{Core}
use Rattle.chip_pages.specs.Pages.{data_does, stored_reply}
use Rattle.chip_reply.specs.declared.Reply.TheVariants.{Pair, Status}
use Rattle.claims_good.specs.Good.{Stands, verdict_in}
use Rattle.commands.specs.declared.Command.{Command}
use Rattle.commands.specs.declared.Command.TheVariants.{BlockErase}
use Rattle.part.specs.declared.Part.{Part}
use Rattle.part.specs.declared.refusal.Refusal.{Refusal}

-- Of the eleven commands 22h alone touches a block, and only where it answers 06h.
abbrev pub OnlyErasing : Type 0
OnlyErasing = (c : Command) (p : Part) (k : Core) (m : Memory) → ((start : ℕ) → c ≢ BlockErase start) → (work c p k m).memory ≡ m

abbrev pub RefusedErase : Type 0
RefusedErase =
    (start : ℕ) (p : Part) (k : Core) (m : Memory) → (work (BlockErase start) p k m).reply ≢ Status acknowledge → (work (BlockErase start) p k m).memory ≡ m

-- Of the data frames a page of 40h alone, so no page of 13h and not A0h's data; and only where it answers that it is stored, or 1Ch (document 02, §6).
abbrev pub OnlyProgramming : Type 0
OnlyProgramming = (p : Part) (k : Core) (w : Awaited) (f : List ℕ) (m : Memory) → w.command ≢ 0x40 → (data_does p k w f m).memory ≡ m

abbrev pub OnlyWritten : Type 0
OnlyWritten =
    (p : Part) (k : Core) (w : Awaited) (f : List ℕ) (m : Memory) → (data_does p k w f m).reply ≢ stored_reply w
    → (data_does p k w f m).reply ≢ Pair acknowledge write_error → (data_does p k w f m).memory ≡ m

-- An event to which nothing is said touches none: so no byte that completes no frame.
abbrev pub SilentLeaves : Type 0
SilentLeaves = (p : Part) (o : Outcome) (v : Event) → Stands p o → (onward p o v).answer ≡ Ok (sent_as 0 0) → (onward p o v).memory ≡ o.memory

-- A gap and power-on touch none, and a refused call changes nothing.
abbrev pub GapLeaves : Type 0
GapLeaves = (p : Part) (o : Outcome) → (onward p o Gap).memory ≡ o.memory

abbrev pub PowerOnLeaves : Type 0
PowerOnLeaves = (p : Part) (o : Outcome) → (onward p o PowerOn).memory ≡ o.memory

abbrev pub RefusedCallLeaves : Type 0
RefusedCallLeaves = (p : Part) (o : Outcome) (v : Event) (r : Refusal) → verdict_in p o ≡ Err r → (onward p o v).memory ≡ o.memory
