-- `dock_flow::frames::page_start` meets its contract: products and sum cannot wrap, and the page lies in the image.
-- Assumes nothing.
use mathlib.Core.Path.{◌≡◌}
use Prim.Native.Nat.{◌*◌, ◌+◌, ◌<◌, ◌^◌, ◌≤◌}
use native.Mathlib.Omega.{arith}
use borrow.Author.Rules.{rules}
use Rattle.dock_job.proofs.Laws.{block-is, page-is, page-lies}
use Rattle.dock_job.specs.Job.{area_of, size_of}
use Rattle.part.proofs.Laws.{block_size-small, product_small}
use Rattle.part.specs.Part.{page_size}
use Rattle.dock_flow.proofs.frames.page_start.Goals as goal

pub overflow_mul-result : goal.overflow_mul-result
overflow_mul-result c =
    let small : c.args.block * c.block_size.result ≤ 2 ^ 48 = product_small c.args.block c.block_size.result (search rules)
    (rw c.block_size.ensures (block_size-small c.args.job.part (area_of c.args.job))) in
    omega (arith, small)

pub overflow_mul-result-2 : goal.overflow_mul-result-2
overflow_mul-result-2 c =
    let few : c.args.page * c.page_size.result ≤ 2 ^ 40 = let p : c.args.page < 2 ^ 32 = search rules in
    rw c.page_size.ensures (omega arith) in
    omega (arith, few)

pub overflow_add-result : goal.overflow_add-result
overflow_add-result c =
    let small : c.args.block * c.block_size.result ≤ 2 ^ 48 = product_small c.args.block c.block_size.result (search rules)
    (rw c.block_size.ensures (block_size-small c.args.job.part (area_of c.args.job))) in
    let few : c.args.page * c.page_size.result ≤ 2 ^ 40 = let p : c.args.page < 2 ^ 32 = search rules in
    rw c.page_size.ensures (omega arith) in
    omega (arith, small, few)

pub returns : goal.returns
returns c =
    let small : c.args.block * c.block_size.result ≤ 2 ^ 48 = product_small c.args.block c.block_size.result (search rules)
    (rw c.block_size.ensures (block_size-small c.args.job.part (area_of c.args.job))) in
    let few : c.args.page * c.page_size.result ≤ 2 ^ 40 = let p : c.args.page < 2 ^ 32 = search rules in
    rw c.page_size.ensures (omega arith) in
    let e : c.args.block * c.block_size.result + c.args.page * c.page_size.result ≡ c.args.block * size_of c.args.job + c.args.page * page_size =
    rw (c.block_size.ensures, c.page_size.ensures) in
    (e, omega (arith, page-lies c.args.job c.args.block c.args.page (block-is c.args.job c.args.block c.requires.0) (page-is c.args.job c.args.page c.requires.1)), omega (arith, small, few))
