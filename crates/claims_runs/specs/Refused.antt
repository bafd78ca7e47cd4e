-- "A refused command changes nothing.": document 01, "Frames", of every frame and every status but 06h, and but 1Ch: that is no refusal any more, since the page that it
-- is said of was written, and "the mixed bytes stay" (document 02, §6; claims_pages/specs/Written).
use Rattle.std.specs.Prelude.{Bool, not, true, List, [], ◌∷◌, ◌≡◌, ℕ, eqb, drop, get_or, take}
use Rattle.chip.specs.Run.{onward, spoken_in}
use Rattle.chip.specs.Step.{Outcome, reaction}
use Rattle.chip.specs.declared.Event.{Event}
use Rattle.chip_commands.specs.Commands.{work}
use Rattle.chip_core.specs.Effect.{Memory}
use Rattle.chip_core.specs.declared.Core.{Core}
use Rattle.chip_core.specs.declared.Phase.{Phase}
use Rattle.chip_core.specs.declared.Phase.TheVariants.{Awaiting, ModeByte, Ready, Setup}
use Rattle.claims_good.proofs.Rooms.{utterance_of}
use Rattle.claims_good.specs.Good.{Stands, Utterance, uttered}
use Rattle.commands.specs.declared.Command.{Command}
use Rattle.lent.specs.Lent.{all_are, same}
use Rattle.part.specs.declared.Part.{Part}
use Rattle.words.specs.Words.{◌and◌, if◌then◌otherwise◌}

-- The statuses that are said: the first reply frame begins with one, and the answer to a page, of two bytes, holds two.
unfoldable pub statuses_said : List ℕ → List ℕ
statuses_said bs = take (if eqb (get_or bs 1 0) 0x02 then 2 otherwise 1) (drop 2 bs)

-- A status among these is not 06h, and they are not the two of a page that was written; where nothing is said there is none.
unfoldable pub refusing : List ℕ → Bool
refusing ss = not (all_are 0x06 ss) and not (same ss (0x06 ∷ 0x1C ∷ []))

abbrev pub refuses : Utterance → Bool
refuses u = refusing (statuses_said u.bytes)

-- "A bad page puts its status in both and ends the command."; so does every refusal of a data frame. Else the phase is as before.
abbrev pub phase_over : Phase → Phase
phase_over ModeByte = ModeByte
phase_over Setup = Setup
phase_over Ready = Ready
phase_over (Awaiting w) = Ready

pub record NothingChanged (o u : Outcome) : Type 0 where
  pub memory : u.memory ≡ o.memory
  pub options : u.chip.core.options ≡ o.chip.core.options
  pub rate : u.chip.core.rate ≡ o.chip.core.rate
  pub phase : u.chip.core.phase ≡ phase_over o.chip.core.phase
  pub count : u.chip.collector.len ≡ 0

abbrev pub RefusedChangesNothing : Type 0
RefusedChangesNothing =
    (p : Part) (o : Outcome) (v : Event) → Stands p o → refuses (uttered (spoken_in (onward p o v))) ≡ true → NothingChanged o (onward p o v)

-- Of each of the eleven commands alone: where its work is answered by another status, record, flash and sums are as they were.
pub record SameRecord (k l : Core) (m n : Memory) : Type 0 where
  pub core : l ≡ k
  pub memory : n ≡ m

abbrev pub RefusedWork : Type 0
RefusedWork =
    (c : Command) (p : Part) (k : Core) (m : Memory) → refuses (utterance_of p (reaction [] (work c p k m))) ≡ true
    → SameRecord k (work c p k m).core m (work c p k m).memory
