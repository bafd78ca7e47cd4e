-- A part and a job in bytes, as a caller writes them (`zc_part` and `zc_job` of include/door.h), and a job as the language can hold one.
use Rattle.std.specs.Prelude.{List, [], ◌++◌, ◌∷◌, ◌<◌, ◌^◌, ℕ}
use Rattle.dock_job.specs.declared.Job.{Job}
use Rattle.numbers.specs.Numbers.{low_first}
use Rattle.part.specs.Part.{Arrays}
use Rattle.part.specs.declared.Part.{Part}

unfoldable pub part_bytes : Part → List ℕ
part_bytes p = p.code_blocks ∷ p.data_blocks ∷ p.clock ∷ p.device ++ p.name ++ p.version

unfoldable pub job_bytes : Job → List ℕ
job_bytes j = low_first 4 j.start ++ low_first 4 j.end ++ j.rate ∷ j.supply ∷ j.retries ∷ []

pub record HeldJob (j : Job) : Type 0 where
  pub start : j.start < 256 ^ 4
  pub end : j.end < 256 ^ 4
  pub arrays : Arrays j.part

-- The numbers of a part that a byte holds.
pub record InBytes (p : Part) : Type 0 where
  pub code : p.code_blocks < 256
  pub extra : p.data_blocks < 256
  pub clock : p.clock < 256
