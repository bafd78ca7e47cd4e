-- `chip_feed::feed` meets its contract: what the bytes still to come make of the last step's outcome stays the same from turn to turn, until one is
-- answered or refused. A turn takes a stretch of bytes that are only added, under one verdict, or one byte by a step.
-- Assumes nothing.
use mathlib.Core.Path.{◌∙◌, ◌≡◌, refl, sym}
use Prim.Native.Nat.{◌-◌, ◌≤◌}
use native.Mathlib.Omega.{arith}
use lib.ListN.{length}
use borrow.Author.Rules.{rules}
use Rattle.chip.proofs.Settling.{step-barred}
use Rattle.chip_feed.proofs.Feeding.{fed-end, fed-refused, fed-said, fed-start, fed-turn, looked-at}
use Rattle.chip_feed.proofs.Stretching.{fed-stretch, takes-there}
use Rattle.chip_feed.proofs.feed.Goals as goal

pub loop-i-init : goal.loop-i-init
loop-i-init c =
    let long : length c.args.chip.collector.bytes ≡ 260 = search rules in
    (omega arith, refl, refl, refl, long, fed-start _ _ _)

pub returns-in-Err : goal.returns-in-Err
returns-in-Err c = fed-refused c.loop-i.invariant.5 (step-barred _ _ _ _ _ _ (sym c.verdict.ensures ∙ c.in-Err.is)) c.loop-i-test.true refl

pub overflow_add-end : goal.overflow_add-end
overflow_add-end c =
    let known : c.lacking-k.result ≤ length c.args.bytes.now - c.loop-i.i = takes-there _ _ _ _ (omega (arith, c.loop-i-test.true)) c.lacking-k.ensures.0 c.if-k-gt0.true in
    omega (arith, known, c.loop-i-test.true)

pub slice_bounds-add_all-end : goal.slice_bounds-add_all-end
slice_bounds-add_all-end c =
    let known : c.lacking-k.result ≤ length c.args.bytes.now - c.loop-i.i = takes-there _ _ _ _ (omega (arith, c.loop-i-test.true)) c.lacking-k.ensures.0 c.if-k-gt0.true in
    omega (arith, known, c.loop-i-test.true)

pub loop-i-smaller-then-k-gt0 : goal.loop-i-smaller-then-k-gt0
loop-i-smaller-then-k-gt0 c =
    let known : c.lacking-k.result ≤ length c.args.bytes.now - c.loop-i.i = takes-there _ _ _ _ (omega (arith, c.loop-i-test.true)) c.lacking-k.ensures.0 c.if-k-gt0.true in
    omega (arith, known, c.if-k-gt0.true, c.loop-i-test.true)

pub loop-i-preserved-then-k-gt0 : goal.loop-i-preserved-then-k-gt0
loop-i-preserved-then-k-gt0 c =
    let added-long : length c.add_all-collector.result.bytes ≡ 260 = search rules in
    let known : c.lacking-k.result ≤ length c.args.bytes.now - c.loop-i.i = takes-there _ _ _ _ (omega (arith, c.loop-i-test.true)) c.lacking-k.ensures.0 c.if-k-gt0.true in (
      omega (arith, known, c.loop-i-test.true),
      c.loop-i.invariant.1,
      c.loop-i.invariant.2,
      c.loop-i.invariant.3,
      added-long,
      fed-stretch _ _ c.loop-i.invariant.5 c.loop-i.invariant.4 c.lacking-k.ensures.1 (sym c.verdict.ensures ∙ c.in_default.is) c.lacking-k.ensures.0 c.if-k-gt0.true c.loop-i-test.true c.add_all-collector.ensures,
    )

pub returns-in-Err-answer : goal.returns-in-Err-answer
returns-in-Err-answer c = fed-refused c.loop-i.invariant.5 (looked-at c.in-Err-answer.is ∙ c.step-stepped.ensures) c.loop-i-test.true refl

pub returns-then-sent-gt0 : goal.returns-then-sent-gt0
returns-then-sent-gt0 c = fed-said c.loop-i.invariant.5 (looked-at c.in-Ok.is ∙ c.step-stepped.ensures) c.loop-i-test.true refl c.if-sent-gt0.true

pub loop-i-smaller : goal.loop-i-smaller
loop-i-smaller c = omega (arith, c.loop-i-test.true)

pub loop-i-preserved : goal.loop-i-preserved
loop-i-preserved c =
    let stepped-long : length c.step-stepped.result.chip.collector.bytes ≡ 260 = search rules in (
      omega (arith, c.loop-i-test.true),
      c.step-stepped.auto.code ∙ c.loop-i.invariant.1,
      c.step-stepped.auto.data ∙ c.loop-i.invariant.2,
      c.step-stepped.auto.room ∙ c.loop-i.invariant.3,
      stepped-long,
      fed-turn c.loop-i.invariant.5 (looked-at c.in-Ok.is ∙ c.step-stepped.ensures) c.loop-i-test.true refl c.if-sent-gt0.false,
    )

pub returns : goal.returns
returns c = fed-end c.loop-i.invariant.5 c.loop-i-test.false
