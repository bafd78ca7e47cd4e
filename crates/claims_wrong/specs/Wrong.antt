-- Wrong chips: document 01, "How tightly things are promised". "Demand 2 shuts out a chip that says 15h to all, one that always acknowledges, one that stores
-- nothing, one that stores the first page and only acknowledges the rest ..; demand 3 alone would admit a deaf chip". Each of these is a property of a chip; the
-- claims speak of every chip that has it, and the chips at the end show that there are some.
use Rattle.std.specs.Prelude.{Bool, false, List, [], ◌++◌, ◌∷◌, map, ◌≢◌, ◌≡◌, ◌%◌, suc, zero, ℕ, eqb, ltb, drop, get_or, replicate, Err, Ok, Result}
use Rattle.chip.specs.Run.{spoken_in}
use Rattle.chip.specs.Step.{Outcome, step_of}
use Rattle.chip_reply.specs.Reply.{sent_as}
use Rattle.part.specs.declared.refusal.Refusal.{Refusal}
use Rattle.chip_reply.specs.declared.Sent.{Sent}
use Rattle.chip_state.specs.declared.Chip.{Chip}
use Rattle.chip.specs.declared.Event.{Event}
use Rattle.chip.specs.declared.Event.TheVariants.{Byte}
use Rattle.claims_good.specs.Good.{uttered}
use Rattle.claims_noise.specs.Claims.{Machine, run_by, says_by}
use Rattle.claims_noise.specs.Examples.{reset}
use Rattle.claims_stars.specs.Table.{ready_chip, the_part}
use Rattle.chip_core.specs.Effect.{Memory, memory}
use Rattle.frame.specs.Frame.{data_frame}
use Rattle.frame.specs.declared.Footer.TheVariants.{Last, More}
use Rattle.frame.specs.declared.judgement.Judgement.TheVariants.{Good}
use Rattle.part.specs.declared.Part.{Part}
use Rattle.words.specs.Words.{◌or◌, if◌then◌otherwise◌}

-- A chip meets demand 2 where it does with every event what the definition does.
abbrev pub MeetsDemand2 : Machine → Type 0
MeetsDemand2 M = (p : Part) (c : Chip) (v : Event) (m : Memory) (room : List ℕ) → M p c v m room ≡ step_of p c v m room

-- A chip differs from the definition on these bytes, sent to the chip of the examples (ready, flash fresh, nothing collected): it says something else, ..
abbrev pub SaysElse : Machine → List ℕ → Type 0
SaysElse M bs = says_by M the_part (map Byte bs) ready_chip ≢ says_by step_of the_part (map Byte bs) ready_chip

-- .. or it leaves other flash or sums.
abbrev pub LeavesElse : Machine → List ℕ → Type 0
LeavesElse M bs = (run_by M the_part (map Byte bs) ready_chip).memory ≢ (run_by step_of the_part (map Byte bs) ready_chip).memory

-- "a chip that says 15h to all, one that always acknowledges": whatever comes, in whatever state, it says nothing, or the first status that it says is s.
pub data FirstIs (s : ℕ) : List ℕ → Type 0 where
  unsaid : FirstIs s []
  begins : (bs : List ℕ) → get_or bs 2 0 ≡ s → FirstIs s bs

abbrev pub SaysOnly : ℕ → Machine → Type 0
SaysOnly s M = (p : Part) (c : Chip) (v : Event) (m : Memory) (room : List ℕ) → FirstIs s (uttered (spoken_in (M p c v m room))).bytes

-- The definition says 06h to a Reset, and 05h to "Erase .. 0401h".
abbrev pub Says15hDiffers : Type 0
Says15hDiffers = (M : Machine) → SaysOnly 0x15 M → SaysElse M reset

abbrev pub erase_within : List ℕ
erase_within = 0x01 ∷ 0x04 ∷ 0x22 ∷ 0x01 ∷ 0x04 ∷ 0x00 ∷ 0xD5 ∷ 0x03 ∷ []

abbrev pub AcknowledgesDiffers : Type 0
AcknowledgesDiffers = (M : Machine) → SaysOnly 0x06 M → SaysElse M erase_within

-- "one that stores nothing, one that stores the first page": at the places of code flash that t leaves out, whatever comes, a byte stays or becomes FFh.
pub data Unstored (old new : ℕ) : Type 0 where
  stayed : new ≡ old → Unstored old new
  blanked : new ≡ 0xFF → Unstored old new

abbrev pub StoresOnly : (ℕ → Bool) → Machine → Type 0
StoresOnly t M =
    (p : Part) (c : Chip) (v : Event) (m : Memory) (room : List ℕ) (i : ℕ) → t i ≡ false
    → Unstored (get_or m.flash.code_flash i 0) (get_or (M p c v m room).memory.flash.code_flash i 0)

abbrev pub nowhere : ℕ → Bool
nowhere i = false

-- A range begins with a block: its first page is the first of a block.
abbrev pub in_first_page : ℕ → Bool
in_first_page i = ltb (i % 1024) 256

-- 40h over the block at 0400h and its first two pages, all AAh: the definition stores both.
abbrev pub two_pages : List ℕ
two_pages =
    (0x01 ∷ 0x07 ∷ 0x40 ∷ 0x00 ∷ 0x04 ∷ 0x00 ∷ 0xFF ∷ 0x07 ∷ 0x00 ∷ 0xAF ∷ 0x03 ∷ []) ++ data_frame (replicate 256 0xAA) More ++ data_frame (replicate 256 0xAA) More

abbrev pub StoresNothingDiffers : Type 0
StoresNothingDiffers = (M : Machine) → StoresOnly nowhere M → LeavesElse M two_pages

abbrev pub FirstPageDiffers : Type 0
FirstPageDiffers = (M : Machine) → StoresOnly in_first_page M → LeavesElse M two_pages

-- A deaf chip: nothing is heard, and nothing answered.
unfoldable pub deaf : Machine
deaf p c v m room = record { answer = Ok (sent_as 0 0); fault = Good; chip = c; memory = m; room = room }

-- A chip that says s where the definition says anything.
unfoldable pub saying_for : ℕ → ℕ → Outcome → Outcome
saying_for s zero o = o
saying_for s (suc n) o = record { answer = Ok (sent_as 5 1); fault = o.fault; chip = o.chip; memory = o.memory; room = data_frame (s ∷ []) Last ++ drop 5 o.room }

unfoldable pub saying : ℕ → Result Sent Refusal → Outcome → Outcome
saying s (Ok sent) o = saying_for s sent.bytes o
saying s (Err r) o = o

unfoldable pub says_always : ℕ → Machine
says_always s p c v m room = let o = step_of p c v m room in saying s o.answer o

-- A chip that answers as the definition does, and whose code flash takes new bytes only where t says so, and FFh anywhere.
unfoldable pub taken_up : (ℕ → Bool) → List ℕ → List ℕ → List ℕ
taken_up t [] new = []
taken_up t (b ∷ bs) new = (if t 0 or eqb (get_or new 0 0) 0xFF then get_or new 0 0 otherwise b) ∷ taken_up (λ i. t (suc i)) bs (drop 1 new)

unfoldable pub stores : (ℕ → Bool) → Machine
stores t p c v m room =
    let o = step_of p c v m room in
    record {
      answer = o.answer;
      fault = o.fault;
      chip = o.chip;
      memory = memory (taken_up t m.flash.code_flash o.memory.flash.code_flash) o.memory.flash.data_flash o.memory.sums;
      room = o.room;
    }
