-- "B0h over one block gives the kept sum, right or wrong" (document 02, §1); over more blocks the sum worked out from flash, as document 01 has it.
use Rattle.std.specs.Prelude.{[], ◌++◌, ◌∷◌, ◌≢◌, ◌≡◌, ◌%◌, ◌/◌, ℕ, Ok}
use Rattle.chip.specs.Run.{onward, spoken_in}
use Rattle.chip.specs.Step.{Outcome}
use Rattle.chip_reply.specs.Reply.{sent_as}
use Rattle.chip.specs.declared.Event.{Event}
use Rattle.chip_flash.specs.Flash.{sum_of_bytes}
use Rattle.chip_sums.specs.Sums.{kept, range_bytes}
use Rattle.claims_before.specs.Asked.{SumOver}
use Rattle.claims_good.specs.Good.{Stands, Utterance, uttered}
use Rattle.frame.specs.Frame.{data_frame}
use Rattle.frame.specs.declared.Footer.TheVariants.{Last}
use Rattle.frame.specs.declared.judgement.Judgement.TheVariants.{Good}
use Rattle.part.specs.declared.Area.{Area}
use Rattle.part.specs.declared.Part.{Part}

-- "06h, then a two-byte data frame, low first": two frames, of 11 bytes.
unfoldable pub says_sum : ℕ → Utterance
says_sum n = record { answer = Ok (sent_as 11 2); fault = Good; bytes = data_frame (0x06 ∷ []) Last ++ data_frame (n % 256 ∷ n / 256 % 256 ∷ []) Last }

-- This number is said, and nothing is changed: not flash, not a sum, not the record.
pub record TellsSum (p : Part) (o : Outcome) (v : Event) (n : ℕ) : Type 0 where
  pub says : uttered (spoken_in (onward p o v)) ≡ says_sum n
  pub memory : (onward p o v).memory ≡ o.memory
  pub core : (onward p o v).chip.core ≡ o.chip.core

-- Whatever number is kept, in code and data flash.
abbrev pub KeptIsSaid : Type 0
KeptIsSaid = (p : Part) (o : Outcome) (v : Event) (a : Area) (block : ℕ) → Stands p o → SumOver p o v a block 1 → TellsSum p o v (kept o.memory.sums a block)

-- Whatever numbers are kept.
abbrev pub WideIsWorked : Type 0
WideIsWorked =
    (p : Part) (o : Outcome) (v : Event) (a : Area) (block count : ℕ) → Stands p o → SumOver p o v a block count → count ≢ 1
    → TellsSum p o v (sum_of_bytes (range_bytes p a block count o.memory.flash))
