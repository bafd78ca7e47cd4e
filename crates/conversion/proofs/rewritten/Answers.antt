-- `conversion::rewritten` meets its contract: two bytes and six more, in an array of 00h.
-- Assumes nothing.
use mathlib.Core.Path.{◌∙◌, ap}
use native.Mathlib.Omega.{arith}
use Rattle.replay_capture.proofs.Laws.{sizes}
use Rattle.replay_capture.specs.Capture.{head_size}
use Rattle.conversion.proofs.Rewriting.{rewritten-laid}
use Rattle.conversion.proofs.rewritten.Goals as goal

pub overflow_add-end : goal.overflow_add-end
overflow_add-end c = omega (arith, c.head_size-start.ensures, sizes c.args.from)

pub slice_bounds-put-end-2 : goal.slice_bounds-put-end-2
slice_bounds-put-end-2 c = omega (arith, c.head_size-start.ensures, sizes c.args.from)

pub returns : goal.returns
returns c =
    rewritten-laid c.args.from _ c.requires c.head_size-start.ensures
    (c.head_size.ensures ∙ ap head_size c.other.ensures) c.put.ensures
