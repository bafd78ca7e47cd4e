-- `dock_flow::frames::last_of_block` meets its contract: the difference is one, and the sum cannot wrap.
-- Assumes nothing.
use Prim.Native.Nat.{◌≤◌}
use native.Mathlib.Omega.{arith}
use Rattle.dock_flow.specs.Frames.{last_of_block}
use Rattle.dock_job.specs.Job.{area_of}
use Rattle.part.proofs.Laws.{block_size-small, positive}
use Rattle.dock_flow.proofs.frames.last_of_block.Goals as goal

pub overflow_sub-result : goal.overflow_sub-result
overflow_sub-result c = positive _ _ c.block_size.ensures

pub overflow_add-result : goal.overflow_add-result
overflow_add-result c =
    let s : c.block_size.result ≤ 65536 = rw c.block_size.ensures (block_size-small c.args.job.part (area_of c.args.job)) in
    omega (arith, c.first_of_block.ensures.1)

pub returns : goal.returns
unfolding last_of_block
returns c = rw (c.first_of_block.ensures.0, c.block_size.ensures)
