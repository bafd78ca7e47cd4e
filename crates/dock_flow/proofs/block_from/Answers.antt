-- `dock_flow::block_from` meets its contract: a block of the job is a number of 32 bits.
-- Assumes nothing.
use Prim.Native.Nat.{◌<◌, ◌^◌}
use native.Mathlib.Omega.{arith}
use borrow.Author.Rules.{rules}
use borrow.Author.Tests.{le-ltb, lt-ltb}
use Rattle.dock_flow.specs.Flow.{block_from}
use Rattle.dock_job.proofs.Laws.{job-blocks-small}
use Rattle.words.specs.Words.{if◌then◌otherwise◌}
use Rattle.dock_flow.proofs.block_from.Goals as goal

pub overflow_cast-result : goal.overflow_cast-result
overflow_cast-result c = let b : c.blocks-2.result < 2 ^ 32 = rw c.blocks-2.ensures (job-blocks-small c.args.job (search rules) (search rules)) in omega arith

pub returns-then-block-blocks : goal.returns-then-block-blocks
unfolding block_from if◌then◌otherwise◌
returns-then-block-blocks c = simp (← c.blocks-2.ensures, lt-ltb _ _ c.if-block-blocks.true)

pub returns-else-block-blocks : goal.returns-else-block-blocks
unfolding block_from if◌then◌otherwise◌
returns-else-block-blocks c = simp (← c.blocks-2.ensures, le-ltb _ _ c.if-block-blocks.false)
