-- `conversion::first_not` meets its contract: what is found among the records still to come stays the same from turn to turn.
-- Assumes nothing.
use mathlib.Core.Path.{◌∙◌, ◌≡◌, ap, refl, sym}
use Prim.Native.Nat.{◌<◌}
use native.Mathlib.Omega.{arith}
use lib.ListN.{length}
use borrow.Author.Rules.{rules}
use Rattle.conversion.proofs.First.{found-end, found_here, found-start, found_turn}
use Rattle.conversion.proofs.Tail.{left-end, left-start, left-turn, tail-comes, whole-comes}
use Rattle.conversion.proofs.first_not.Goals as goal

pub loop-n-init : goal.loop-n-init
loop-n-init c = (search rules, search rules, search rules, found-start _ _ _ (search rules) (search rules), left-start _ _ (search rules) (search rules) (search rules))

pub returns-then-not-passes : goal.returns-then-not-passes
returns-then-not-passes c =
    let s = c.in-Some.ensures.steps in
    let w = whole-comes c.args.form _ _ c.loop-n.invariant.2 s.0.1.0 s.0.1.1 in
    found_here _ _ c.loop-n.invariant.2 s.0.1.0 w.0 w.1 c.loop-n.invariant.3 s.1 c.passes.ensures c.if-not-passes.true

pub loop-n-preserved : goal.loop-n-preserved
loop-n-preserved c =
    let s = c.in-Some.ensures.steps in
    let w = whole-comes c.args.form _ _ c.loop-n.invariant.2 s.0.1.0 s.0.1.1 in (
      search rules,
      search rules,
      s.0.0 ∙ c.loop-n.invariant.2,
      found_turn _ _ c.loop-n.invariant.2 s.0.1.0 w.0 w.1 c.loop-n.invariant.3 s.2 c.passes.ensures c.if-not-passes.false,
      left-turn _ _ s.0.1.0 (s.0.1.1 ∙ c.loop-n.invariant.2 ∙ sym c.record_size-size.ensures) s.2 c.loop-n.invariant.4,
    )

pub returns-then-is_empty : goal.returns-then-is_empty
returns-then-is_empty c =
    let h : length c.loop-n.n-iterator.iter.rest.now < c.record_size-size.result = omega (arith, c.in-None.ensures.steps, c.loop-n.invariant.2, c.record_size-size.ensures) in
    let none : length c.remainder-tail.result.now ≡ 0 = search rules in
    found-end c.loop-n.invariant.3 (ap length (left-end h c.loop-n.invariant.4).0 ∙ none)

pub returns-then-passes : goal.returns-then-passes
returns-then-passes c =
    let h : length c.loop-n.n-iterator.iter.rest.now < c.record_size-size.result = omega (arith, c.in-None.ensures.steps, c.loop-n.invariant.2, c.record_size-size.ensures) in
    let some : 0 < length c.remainder-tail.result.now = search rules in
    let y = tail-comes (left-end h c.loop-n.invariant.4).0 h some in
    found-end (found_turn _ _ c.record_size-size.ensures y.0 y.1 y.2 c.loop-n.invariant.3 refl c.passes-2.ensures c.if-passes.true) refl

pub returns : goal.returns
returns c =
    let h : length c.loop-n.n-iterator.iter.rest.now < c.record_size-size.result = omega (arith, c.in-None.ensures.steps, c.loop-n.invariant.2, c.record_size-size.ensures) in
    let some : 0 < length c.remainder-tail.result.now = search rules in
    let e = left-end h c.loop-n.invariant.4 in
    let y = tail-comes e.0 h some in
    found_here _ _ c.record_size-size.ensures y.0 y.1 y.2 c.loop-n.invariant.3 e.1 c.passes-2.ensures c.if-passes.false
