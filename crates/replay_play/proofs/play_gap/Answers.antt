-- `replay_play::play_gap` meets its contract: one event alone.
-- Assumes nothing.
use native.Mathlib.Omega.{arith}
use borrow.Author.Rules.{rules}
use Rattle.part.specs.Part.{Arrays}
use Rattle.replay_play.proofs.Laws.{one_lies, one-refused, one-said}
use Rattle.replay_play.proofs.play_gap.Goals as goal

pub slice_bounds-put-end : goal.slice_bounds-put-end
slice_bounds-put-end c =
    let arrays : Arrays c.args.part = record { device_long = search rules; name_long = search rules; version_long = search rules } in
    omega (arith, one_lies _ _ _ _ _ _ _ _ arrays c.step-step.ensures c.in-Ok.is)

pub returns-in-Err : goal.returns-in-Err
returns-in-Err c = one-refused _ _ _ _ _ _ _ _ c.step-step.ensures c.in-Err.is

pub returns-in-Ok : goal.returns-in-Ok
returns-in-Ok c =
    let arrays : Arrays c.args.part = record { device_long = search rules; name_long = search rules; version_long = search rules } in
    one-said _ _ _ _ _ _ _ _ _ _ _ arrays c.step-step.ensures c.in-Ok.is (search rules) c.put.ensures
