-- `replay_play::play_bytes` meets its contract: what the bytes still to come make of what was played stays the same from turn to turn.
-- Assumes nothing.
use mathlib.Core.Path.{◌∙◌, refl}
use native.Mathlib.Omega.{arith}
use borrow.Author.Rules.{rules}
use Rattle.replay_play.proofs.Laws.{played-end, played-refused, played-start, played-turn, turn-said, turn-takes, turn-within}
use Rattle.replay_play.proofs.play_bytes.Goals as goal

pub loop-i-init : goal.loop-i-init
loop-i-init c = (refl, refl, refl, search rules, search rules, record { device_long = search rules; name_long = search rules; version_long = search rules }, played-start _ _ _ _ _ _)

pub overflow_add-i : goal.overflow_add-i
overflow_add-i c = omega (arith, c.loop-i.invariant.3, turn-within _ c.loop-i.invariant.6 c.feed-fed.ensures)

pub slice_bounds-put-end : goal.slice_bounds-put-end
slice_bounds-put-end c = omega (arith, (turn-said _ c.loop-i.invariant.6 c.loop-i.invariant.5 c.feed-fed.ensures c.in-Ok.is).1)

pub overflow_add-said : goal.overflow_add-said
overflow_add-said c = omega (arith, (turn-said _ c.loop-i.invariant.6 c.loop-i.invariant.5 c.feed-fed.ensures c.in-Ok.is).0, c.loop-i.invariant.6.short, c.loop-i.invariant.3, c.loop-i-test.true)

pub overflow_add-frames : goal.overflow_add-frames
overflow_add-frames c = omega (arith, (turn-said _ c.loop-i.invariant.6 c.loop-i.invariant.5 c.feed-fed.ensures c.in-Ok.is).2, c.loop-i.invariant.6.few, c.loop-i.invariant.3, c.loop-i-test.true)

pub loop-i-smaller : goal.loop-i-smaller
loop-i-smaller c = omega (arith, turn-takes _ c.loop-i.invariant.6 c.feed-fed.ensures c.loop-i-test.true c.in-Ok.is, turn-within _ c.loop-i.invariant.6 c.feed-fed.ensures)

pub loop-i-preserved : goal.loop-i-preserved
loop-i-preserved c = (
  c.feed-fed.auto.code ∙ c.loop-i.invariant.0,
  c.feed-fed.auto.data ∙ c.loop-i.invariant.1,
  c.feed-fed.auto.room ∙ c.loop-i.invariant.2,
  c.loop-i.invariant.3,
  c.loop-i.invariant.4,
  c.loop-i.invariant.5,
  played-turn _ c.loop-i.invariant.6 c.loop-i.invariant.5 c.feed-fed.ensures c.loop-i-test.true c.in-Ok.is c.loop-i.invariant.4 c.put.ensures,
)

pub returns-in-Err : goal.returns-in-Err
returns-in-Err c = played-refused _ c.loop-i.invariant.6 c.loop-i.invariant.5 c.feed-fed.ensures c.loop-i-test.true c.in-Err.is

pub returns : goal.returns
returns c = played-end c.loop-i.invariant.6 c.loop-i-test.false
