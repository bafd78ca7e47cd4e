-- Document 01, "The dock's flow": a job's range, its blocks and their pages, and the most frames that it can take.
use Rattle.std.specs.Prelude.{Bool, false, true, List, [], ◌∷◌, ◌*◌, ◌+◌, ℕ, length, None, Option, Some}
use Rattle.dock_job.specs.declared.Job.{Job}
use Rattle.dock_job.specs.declared.Setup.{Setup}
use Rattle.dock_job.specs.declared.Setup.TheVariants.{BaudRate, ResetChip, SiliconSignature}
use Rattle.dock_job.specs.declared.Stage.{Stage}
use Rattle.dock_job.specs.declared.Stage.TheVariants.{InBlock, Over, SetUp}
use Rattle.part.specs.Part.{block_size, pages, range_of}
use Rattle.part.specs.declared.Area.{Area}
use Rattle.part.specs.declared.Area.TheVariants.{CodeFlash}
use Rattle.part.specs.declared.Range.{Range}

-- "a range of whole blocks": its area, and how many blocks it is long; none where it is bad.
unfoldable pub area_in : Option Range → Area
area_in (Some range) = range.area
area_in None = CodeFlash

unfoldable pub blocks_in : Option Range → ℕ
blocks_in (Some range) = range.count
blocks_in None = 0

abbrev pub job_range : Job → Option Range
job_range j = range_of j.part j.start j.end

abbrev pub area_of : Job → Area
area_of j = area_in (job_range j)

abbrev pub blocks_of : Job → ℕ
blocks_of j = blocks_in (job_range j)

-- The bytes of a block of the job, and how many pages it has.
abbrev pub size_of : Job → ℕ
size_of j = block_size j.part (area_of j)

abbrev pub pages_of : Job → ℕ
pages_of j = pages j.part (area_of j)

-- The range's length.
abbrev pub range_length : Job → ℕ
range_length j = blocks_of j * size_of j

-- "Frames: 9Ah .., 00h, C0h ..": the setup's commands of a job, in order.
unfoldable pub setup : Job → List Setup
setup j = BaudRate ∷ ResetChip ∷ SiliconSignature ∷ []

-- "per block ..: 32h with 00h; 22h if that said 1Bh; 40h and four pages; 13h and four pages": at most so many frames.
abbrev pub per_block : Job → ℕ
per_block j = 1 + 1 + (1 + pages_of j) + (1 + pages_of j)

-- "for B blocks and R retries allowed, at most 3 + 12(B + R) frames"
unfoldable pub bound : Job → ℕ
bound j = length (setup j) + per_block j * (blocks_of j + j.retries)

unfoldable pub is_over : Stage → Bool
is_over (SetUp s) = false
is_over (InBlock k w) = false
is_over (Over e) = true
