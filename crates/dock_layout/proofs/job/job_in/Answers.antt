-- `dock_layout::job::job_in` meets its contract.
-- Assumes nothing.
use mir.Syntax.{w32}
use Rattle.numbers.proofs.Laws.{le-read}
use Rattle.dock_layout.proofs.Laws.{job_is}
use Rattle.dock_layout.proofs.job.job_in.Goals as goal

pub returns : goal.returns
returns c =
    let start = le-read w32 0 _ c.from_le_bytes.ensures c.bytes_at.ensures in
    let end = le-read w32 4 _ c.from_le_bytes-2.ensures c.bytes_at-2.ensures in
    job_is _ _ c.part_in.ensures start end c.from.ensures c.from-2.ensures c.from-3.ensures
