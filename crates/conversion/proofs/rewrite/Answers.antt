-- `conversion::rewrite` meets its contract: the array's part of the other form's size is the record in that form.
-- Assumes nothing.
use native.Mathlib.Omega.{arith}
use Rattle.replay_capture.proofs.Laws.{sizes}
use Rattle.conversion.proofs.Rewriting.{rewritten-put}
use Rattle.conversion.proofs.rewrite.Goals as goal

pub slice_bounds-put-end : goal.slice_bounds-put-end
slice_bounds-put-end c = omega (arith, c.record_size-n.ensures, sizes c.other.result)

pub returns : goal.returns
returns c =
    rewritten-put c.args.from _ _ _ c.rewritten-laid.ensures c.other.ensures
    c.record_size-n.ensures c.put.ensures
