-- `dock_flow::frames::first_of_block` meets its contract: the product and the sum cannot wrap.
-- Assumes nothing.
use mathlib.Core.Path.{ap}
use Prim.Native.Nat.{◌*◌, ◌+◌, ◌<◌, ◌^◌, ◌≤◌, ℕ}
use native.Mathlib.Omega.{arith}
use borrow.Author.Rules.{rules}
use Rattle.dock_flow.specs.Frames.{first_of_block}
use Rattle.dock_job.specs.Job.{area_of}
use Rattle.part.proofs.Laws.{block_size-small, product_small}
use Rattle.dock_flow.proofs.frames.first_of_block.Goals as goal

pub overflow_mul-result : goal.overflow_mul-result
overflow_mul-result c =
    let small : c.args.block * c.block_size.result ≤ 2 ^ 48 = product_small c.args.block c.block_size.result (search rules)
    (rw c.block_size.ensures (block_size-small c.args.job.part (area_of c.args.job))) in
    omega (arith, small)

pub overflow_add-result : goal.overflow_add-result
overflow_add-result c =
    let small : c.args.block * c.block_size.result ≤ 2 ^ 48 = product_small c.args.block c.block_size.result (search rules)
    (rw c.block_size.ensures (block_size-small c.args.job.part (area_of c.args.job))) in
    let s : c.args.job.start < 2 ^ 32 = search rules in omega (arith, small)

pub returns : goal.returns
unfolding first_of_block
returns c =
    let small : c.args.block * c.block_size.result ≤ 2 ^ 48 = product_small c.args.block c.block_size.result (search rules)
    (rw c.block_size.ensures (block_size-small c.args.job.part (area_of c.args.job))) in
    (ap (λ (n : ℕ). c.args.job.start + c.args.block * n) c.block_size.ensures, (let s : c.args.job.start < 2 ^ 32 = search rules in omega (arith, small)))
