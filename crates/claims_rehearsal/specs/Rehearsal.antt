-- A job of two blocks over flash that is not blank, on a chip that has its mode byte.
use Rattle.std.specs.Prelude.{Bool, false, true, List, [], ◌++◌, ◌∷◌, ◌≡◌, ◌%◌, ◌*◌, ◌/◌, suc, zero, ℕ, replicate, Ok}
use Rattle.chip.specs.Run.{before}
use Rattle.chip.specs.Step.{Outcome}
use Rattle.claims_rehearsal.specs.Cable.{Ends, cable}
use Rattle.dock.specs.Calls.{begin_of}
use Rattle.chip_core.specs.Effect.{Memory, flash, memory}
use Rattle.chip_core.specs.declared.Core.{Core}
use Rattle.chip_core.specs.declared.Phase.TheVariants.{Ready, Setup}
use Rattle.frame.specs.Collector.{fresh}
use Rattle.frame.specs.Framing.{frames}
use Rattle.dock_job.specs.Job.{bound}
use Rattle.dock_job.specs.declared.Dock.{Dock}
use Rattle.dock_job.specs.declared.Job.{Job}
use Rattle.dock_job.specs.declared.Stage.TheVariants.{Over}
use Rattle.lent.specs.Lent.{same}
use Rattle.chip_options.specs.Options.{fresh_options}
use Rattle.chip_sums.specs.Sums.{all_summed, slots, summing, worked_out}
use Rattle.part.specs.declared.Part.{Part}
use Rattle.words.specs.Words.{◌and◌}

abbrev pub rehearsal_part : Part
rehearsal_part =
    record {
      code_blocks = 8;
      data_blocks = 1;
      clock = 32;
      device = 0x10 ∷ 0x00 ∷ 0x06 ∷ [];
      name = 0x52 ∷ 0x35 ∷ 0x46 ∷ 0x31 ∷ 0x30 ∷ 0x30 ∷ 0x4C ∷ 0x45 ∷ 0x20 ∷ 0x20 ∷ [];
      version = 0x01 ∷ 0x02 ∷ 0x03 ∷ [];
    }

-- Blocks 2 and 3, rate 03h, 3.3 V, no retry.
abbrev pub rehearsal_job : Job
rehearsal_job = record { part = rehearsal_part; start = 0x0800; end = 0x0FFF; rate = 0x03; supply = 33; retries = 0 }

-- So many bytes, no page of which is like another.
unfoldable pub mixed : ℕ → List ℕ
mixed zero = []
mixed (suc n) = n * 11 / 9 % 256 ∷ mixed n

unfoldable pub rehearsal_image : List ℕ
rehearsal_image = mixed 2048

-- What the flash held before: nothing of it is blank.
abbrev pub old_code : List ℕ
old_code = replicate 8192 0x42

abbrev pub old_data : List ℕ
old_data = replicate 1024 0x17

-- Its sums, 1,024 bytes 42h and 1,024 bytes 17h taken from 0000h, as the call that works all sums out gives them.
abbrev pub old_sums : List ℕ
old_sums = replicate 8 0xF800 ++ (replicate 56 0 ++ 0xA400 ∷ replicate 7 0)

abbrev pub OldSums : Type 0
OldSums = worked_out rehearsal_part (flash old_code old_data) (replicate slots 0) ≡ summing (Ok tt) old_sums

unfoldable pub the_chip : Outcome
the_chip =
    before (record { core = record { options = fresh_options rehearsal_part; rate = 0x00; phase = Setup }; collector = fresh })
    (memory old_code old_data old_sums) (replicate 32 0x00)

-- From a dock that was just started, in a room of 260 bytes.
abbrev pub rehearse : Job → List ℕ → Ends
rehearse j image = cable (bound j) j image (replicate 260 0x00) (record { dock = (begin_of j image).dock; chip = the_chip })

unfoldable pub rehearsed : Ends
rehearsed = rehearse rehearsal_job rehearsal_image

-- The same on data flash: its one block, and half of the image.
abbrev pub the_data_job : Job
the_data_job = record { part = rehearsal_part; start = 0xF1000; end = 0xF13FF; rate = 0x00; supply = 20; retries = 2 }

unfoldable pub the_data_image : List ℕ
the_data_image = mixed 1024

unfoldable pub rehearsed_data : Ends
rehearsed_data = rehearse the_data_job the_data_image

-- A job that is finished after so many frames, with no retry.
abbrev pub finished_after : ℕ → Dock
finished_after n = record { stage = Over (Ok tt); awaited = false; retries = 0; frames = n }

-- A chip that is ready at a rate, with its options as they were.
abbrev pub ready_at : ℕ → Core
ready_at rate = record { options = fresh_options rehearsal_part; rate = rate; phase = Ready }

-- Whether both areas of flash hold these bytes.
unfoldable pub holds : Memory → List ℕ → List ℕ → Bool
holds m code extra = same m.flash.code_flash code and same m.flash.data_flash extra

-- Whether the kept sums are those that are worked out afresh.
unfoldable pub is_summed : Memory → Bool
is_summed m = same m.sums (all_summed rehearsal_part m.flash (replicate slots 0))

-- What a rehearsal leaves: the dock, the chip's record, whether flash holds these bytes, and whether the sums are those of flash.
pub record Remains : Type 0 where
  pub dock : Dock
  pub core : Core
  pub flash : Bool
  pub sums : Bool

unfoldable pub remains_of : Ends → List ℕ → List ℕ → Remains
remains_of e code extra =
    record { dock = e.dock; core = e.chip.chip.core; flash = holds e.chip.memory code extra; sums = is_summed e.chip.memory }

abbrev pub remains : Dock → Core → Remains
remains d k = record { dock = d; core = k; flash = true; sums = true }
