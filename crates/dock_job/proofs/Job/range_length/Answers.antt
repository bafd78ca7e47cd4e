-- `dock_job::Job::range_length` meets its contract: blocks times their size, which cannot wrap.
-- Assumes nothing.
use native.Mathlib.Omega.{arith}
use borrow.Author.Rules.{rules}
use Rattle.dock_job.proofs.Laws.{length-small}
use Rattle.dock_job.proofs.Job.range_length.Goals as goal

pub overflow_mul-result : goal.overflow_mul-result
overflow_mul-result c = rw (c.blocks-2.ensures, c.block_size.ensures) (omega (arith, length-small c.args.self (search rules) (search rules)))

pub returns : goal.returns
returns c = simp (← c.blocks-2.ensures, ← c.block_size.ensures)
