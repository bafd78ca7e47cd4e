-- `dock_job::Job::bound` meets its contract: the definition's sum and product, which cannot wrap.
-- Assumes nothing.
use Prim.Native.Nat.{◌*◌, ◌+◌, ◌<◌, ◌^◌, ◌≤◌}
use native.Mathlib.Omega.{arith}
use borrow.Author.Rules.{rules}
use Rattle.dock_job.proofs.Laws.{bound-is, frames_small, job-blocks-small}
use Rattle.dock_job.specs.Job.{area_of}
use Rattle.part.proofs.Laws.{pages-small}
use Rattle.dock_job.proofs.Job.bound.Goals as goal

pub overflow_mul-result : goal.overflow_mul-result
overflow_mul-result c =
    let pages-few : c.pages.result ≤ 256 = rw c.pages.ensures (pages-small c.args.self.part (area_of c.args.self)) in
    omega (arith, pages-few)

pub overflow_add-result : goal.overflow_add-result
overflow_add-result c =
    let pages-few : c.pages.result ≤ 256 = rw c.pages.ensures (pages-small c.args.self.part (area_of c.args.self)) in
    omega (arith, pages-few)

pub overflow_add-result-2 : goal.overflow_add-result-2
overflow_add-result-2 c =
    let blocks-few : c.blocks-2.result < 2 ^ 32 = rw c.blocks-2.ensures (job-blocks-small c.args.self (search rules) (search rules)) in
    let r : c.args.self.retries < 2 ^ 32 = search rules in omega (arith, blocks-few)

pub overflow_mul-result-2 : goal.overflow_mul-result-2
overflow_mul-result-2 c =
    let pages-few : c.pages.result ≤ 256 = rw c.pages.ensures (pages-small c.args.self.part (area_of c.args.self)) in
    let blocks-few : c.blocks-2.result < 2 ^ 32 = rw c.blocks-2.ensures (job-blocks-small c.args.self (search rules) (search rules)) in
    let product-few : (4 + 2 * c.pages.result) * (c.blocks-2.result + c.args.self.retries) ≤ 2 ^ 43 = let r : c.args.self.retries < 2 ^ 32 = search rules in
    frames_small c.pages.result (c.blocks-2.result + c.args.self.retries) pages-few (omega (arith, blocks-few)) in
    omega (arith, product-few)

pub overflow_add-result-3 : goal.overflow_add-result-3
overflow_add-result-3 c =
    let pages-few : c.pages.result ≤ 256 = rw c.pages.ensures (pages-small c.args.self.part (area_of c.args.self)) in
    let blocks-few : c.blocks-2.result < 2 ^ 32 = rw c.blocks-2.ensures (job-blocks-small c.args.self (search rules) (search rules)) in
    let product-few : (4 + 2 * c.pages.result) * (c.blocks-2.result + c.args.self.retries) ≤ 2 ^ 43 = let r : c.args.self.retries < 2 ^ 32 = search rules in
    frames_small c.pages.result (c.blocks-2.result + c.args.self.retries) pages-few (omega (arith, blocks-few)) in
    omega (arith, product-few)

pub returns : goal.returns
returns c = (rw (← c.pages.ensures, ← c.blocks-2.ensures) at (bound-is c.args.self))
