-- `engine::play_from` meets its contract: what the bytes still to come make of where the engine stands stays the same from turn to turn.
-- Assumes nothing.
use mathlib.Core.Path.{◌∙◌, ◌≡◌, refl}
use Prim.Native.Nat.{◌+◌, ◌<◌, ◌≤◌}
use native.Mathlib.Omega.{arith}
use lib.ListN.{drop, length}
use borrow.Author.Rules.{rules}
use Rattle.chip_core.specs.Hearing.{hearing}
use Rattle.engine.proofs.Loop.{ample-one, front-is, played-ends, played-holds, played-mode, played-skips, played-start, played-whole, whole-ends}
use Rattle.engine.specs.Engine.{front_of}
use Rattle.engine.specs.declared.Front.TheVariants.{Whole}
use Rattle.engine.proofs.play_from.Goals as goal

pub loop-i-init : goal.loop-i-init
loop-i-init c =
    let short : length c.args.bytes.now < 18446744073709551616 = search rules in
    (c.requires.0, refl, refl, refl, short, (λ j. omega (arith, c.shared_slice_known-1.given j)), played-start _ _ _ _ _ _ _ c.requires.1 c.requires.2 c.requires.3)

pub slice_bounds-front_of-count : goal.slice_bounds-front_of-count
slice_bounds-front_of-count c = omega (arith, c.loop-i.invariant.6.inside)

pub slice_bounds-front_of-start : goal.slice_bounds-front_of-start
slice_bounds-front_of-start c = omega (arith, c.loop-i.invariant.6.inside)

pub slice_bounds-front_of-end : goal.slice_bounds-front_of-end
slice_bounds-front_of-end c = omega (arith, c.loop-i.invariant.6.inside)

pub returns-in-Held : goal.returns-in-Held
returns-in-Held c = played-holds c.loop-i.invariant.6 (front-is _ _ _ c.loop-i.invariant.6 c.hearing.ensures c.front_of-ahead.ensures c.in-Held.is) c.loop-i.invariant.5

pub overflow_add-i : goal.overflow_add-i
overflow_add-i c = omega (arith, c.loop-i-test.true, c.loop-i.invariant.4)

pub loop-i-smaller-in-Skipped : goal.loop-i-smaller-in-Skipped
loop-i-smaller-in-Skipped c = omega (arith, c.loop-i-test.true)

pub loop-i-preserved-in-Skipped : goal.loop-i-preserved-in-Skipped
loop-i-preserved-in-Skipped c =
    let front = front-is _ _ _ c.loop-i.invariant.6 c.hearing.ensures c.front_of-ahead.ensures c.in-Skipped.is in
    (c.loop-i.invariant.0, c.loop-i.invariant.1, c.loop-i.invariant.2, c.loop-i.invariant.3, c.loop-i.invariant.4, c.loop-i.invariant.5, played-skips c.loop-i.invariant.6 front c.loop-i-test.true)

pub overflow_add-i-in-Mode : goal.overflow_add-i-in-Mode
overflow_add-i-in-Mode c = omega (arith, c.loop-i-test.true, c.loop-i.invariant.4)

pub loop-i-smaller-in-Mode : goal.loop-i-smaller-in-Mode
loop-i-smaller-in-Mode c = omega (arith, c.loop-i-test.true)

pub loop-i-preserved-in-Mode : goal.loop-i-preserved-in-Mode
loop-i-preserved-in-Mode c =
    let front = front-is _ _ _ c.loop-i.invariant.6 c.hearing.ensures c.front_of-ahead.ensures c.in-Mode.is in
    (c.loop-i.invariant.0, c.loop-i.invariant.1, c.loop-i.invariant.2, c.loop-i.invariant.3, c.loop-i.invariant.4, c.loop-i.invariant.5, played-mode _ c.loop-i.invariant.6 front c.mode_byte-core.ensures c.loop-i-test.true)

pub overflow_add-end : goal.overflow_add-end
overflow_add-end c =
    let front : front_of (hearing c.loop-i.core.phase) (drop c.loop-i.i c.args.bytes.now) ≡ Whole c.in-Whole.n = front-is _ _ _ c.loop-i.invariant.6 c.hearing.ensures c.front_of-ahead.ensures c.in-Whole.is in
    let ends : (1 ≤ c.in-Whole.n) × (c.loop-i.i + c.in-Whole.n ≤ length c.args.bytes.now) = whole-ends c.loop-i.core _ _ _ front c.loop-i-test.true in
    let e = ends in omega (arith, e.1, c.loop-i.invariant.4)

pub slice_bounds-answer-end : goal.slice_bounds-answer-end
slice_bounds-answer-end c =
    let front : front_of (hearing c.loop-i.core.phase) (drop c.loop-i.i c.args.bytes.now) ≡ Whole c.in-Whole.n = front-is _ _ _ c.loop-i.invariant.6 c.hearing.ensures c.front_of-ahead.ensures c.in-Whole.is in
    let ends : (1 ≤ c.in-Whole.n) × (c.loop-i.i + c.in-Whole.n ≤ length c.args.bytes.now) = whole-ends c.loop-i.core _ _ _ front c.loop-i-test.true in
    let e = ends in omega (arith, e.1)

pub answer-done-requires : goal.answer-done-requires
answer-done-requires c =
    let front : front_of (hearing c.loop-i.core.phase) (drop c.loop-i.i c.args.bytes.now) ≡ Whole c.in-Whole.n = front-is _ _ _ c.loop-i.invariant.6 c.hearing.ensures c.front_of-ahead.ensures c.in-Whole.is in
    let ends : (1 ≤ c.in-Whole.n) × (c.loop-i.i + c.in-Whole.n ≤ length c.args.bytes.now) = whole-ends c.loop-i.core _ _ _ front c.loop-i-test.true in
    let e = ends in
    (c.loop-i.invariant.0, ample-one c.args.bytes.now _ _ e.0 e.1 c.loop-i.invariant.6.roomy, omega (arith, c.loop-i.invariant.6.few, c.loop-i.invariant.6.inside, c.loop-i.invariant.4, e.0, e.1))

pub loop-i-smaller : goal.loop-i-smaller
loop-i-smaller c =
    let front : front_of (hearing c.loop-i.core.phase) (drop c.loop-i.i c.args.bytes.now) ≡ Whole c.in-Whole.n = front-is _ _ _ c.loop-i.invariant.6 c.hearing.ensures c.front_of-ahead.ensures c.in-Whole.is in
    let ends : (1 ≤ c.in-Whole.n) × (c.loop-i.i + c.in-Whole.n ≤ length c.args.bytes.now) = whole-ends c.loop-i.core _ _ _ front c.loop-i-test.true in
    let e = ends in omega (arith, e.0, e.1)

pub loop-i-preserved : goal.loop-i-preserved
loop-i-preserved c =
    let front : front_of (hearing c.loop-i.core.phase) (drop c.loop-i.i c.args.bytes.now) ≡ Whole c.in-Whole.n = front-is _ _ _ c.loop-i.invariant.6 c.hearing.ensures c.front_of-ahead.ensures c.in-Whole.is in (
      c.loop-i.invariant.0,
      c.answer-done.auto.code ∙ c.loop-i.invariant.1,
      c.answer-done.auto.data ∙ c.loop-i.invariant.2,
      c.answer-done.auto.room ∙ c.loop-i.invariant.3,
      c.loop-i.invariant.4,
      c.loop-i.invariant.5,
      played-whole _ _ _ _ _ c.loop-i.invariant.6 front c.answer-done.ensures.0 c.answer-done.ensures.1 c.answer-done.ensures.2 c.answer-done.ensures.3 c.answer-done.ensures.4 c.answer-done.auto.room,
    )

pub returns : goal.returns
returns c = played-ends c.loop-i.invariant.6 c.loop-i-test.false
