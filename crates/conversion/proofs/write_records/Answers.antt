-- `conversion::write_records` meets its contract: what stands in the output and what the records still to come add to it stay the same from turn to turn.
-- Assumes nothing.
use mathlib.Core.Path.{◌∙◌}
use native.Mathlib.Omega.{arith}
use borrow.Author.Rules.{rules}
use Rattle.conversion.proofs.Writing.{record-long, room_within, writing-end, writing_start, writing-turn}
use Rattle.conversion.proofs.write_records.Goals as goal

pub loop-record-init : goal.loop-record-init
loop-record-init c = (search rules, search rules, search rules, omega arith, search rules, writing_start _ _ _ (search rules) c.requires.0 c.requires.1)

pub rewrite-requires : goal.rewrite-requires
rewrite-requires c =
    let s = c.in-Some.ensures.steps.1 in
    record-long c.loop-record.invariant.5 _ _ c.loop-record.invariant.2 s.0 s.1 s.2

pub overflow_add-written : goal.overflow_add-written
overflow_add-written c =
    let s = c.in-Some.ensures.steps.1 in
    omega (arith, c.loop-record.invariant.3, c.loop-record.invariant.4, room_within c.loop-record.invariant.5 _ _ c.loop-record.invariant.2 s.0 s.1 s.2)

pub loop-record-preserved : goal.loop-record-preserved
loop-record-preserved c =
    let s = c.in-Some.ensures.steps in (
      search rules,
      search rules,
      s.0 ∙ c.loop-record.invariant.2,
      c.loop-record.invariant.3,
      c.loop-record.invariant.4,
      writing-turn c.loop-record.invariant.5 _ _ c.loop-record.invariant.2 s.1.0 s.1.1 s.1.2 c.loop-record.invariant.4 c.rewrite.ensures,
    )

pub returns : goal.returns
returns c = writing-end c.loop-record.invariant.5 (search rules)
