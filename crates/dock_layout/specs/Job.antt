-- How a job crosses the door: its part as `part_layout` says, and one layout of 11 bytes. Document 01, "The dock's flow".
use Rattle.std.specs.Prelude.{List, ℕ, get_or}
use Rattle.dock_job.specs.declared.Job.{Job}
use Rattle.numbers.specs.Numbers.{number_at}
use Rattle.part_layout.specs.Layout.{part_in}

-- The first and the last address of the range (from 0 and 4 on, four bytes each), rate (8), supply (9), retries (10): what a byte can hold beyond the
-- document's numbers is outside them.
unfoldable pub job_in : List ℕ → List ℕ → Job
job_in part bs =
    record {
      part = part_in part;
      start = number_at 4 0 bs;
      end = number_at 4 4 bs;
      rate = get_or bs 8 0;
      supply = get_or bs 9 0;
      retries = get_or bs 10 0;
    }
