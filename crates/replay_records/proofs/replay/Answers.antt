-- `replay_records::replay` meets its contract: what the records still to come make of what was replayed stays the same from turn to turn.
-- Assumes nothing.
use mathlib.Core.Path.{◌∙◌, refl}
use native.Mathlib.Omega.{arith}
use borrow.Author.Rules.{rules}
use Rattle.replay_records.proofs.Loop.{Comes, never, output-kept, replayed-end, replayed-halted, replayed-start, replayed-turn, turn-lies}
use Rattle.replay_records.proofs.replay.Goals as goal

pub loop-record-init : goal.loop-record-init
loop-record-init c = (
  refl,
  refl,
  refl,
  refl,
  omega arith,
  record { device_long = search rules; name_long = search rules; version_long = search rules },
  search rules,
  never,
  replayed-start _ _ _ _ _ _ _ (search rules),
  search rules,
  refl,
  search rules,
  search rules,
)

pub slice_bounds-turn-count : goal.slice_bounds-turn-count
slice_bounds-turn-count c = c.loop-record.invariant.8.stands

pub slice_bounds-turn-start : goal.slice_bounds-turn-start
slice_bounds-turn-start c = omega (arith, c.loop-record.invariant.8.stands)

pub turn-t-requires : goal.turn-t-requires
turn-t-requires c = (c.loop-record.invariant.6, c.loop-record.invariant.7)

pub overflow_add-records : goal.overflow_add-records
overflow_add-records c =
    let s = c.in-Some.ensures.steps.1 in
    omega (arith, c.loop-record.invariant.8.counted, s.2)

pub overflow_add-bytes : goal.overflow_add-bytes
overflow_add-bytes c = omega (arith, (turn-lies _ _ c.loop-record.invariant.8 c.loop-record.invariant.5 c.turn-t.ensures.0 c.in-Ok.is).0, c.loop-record.invariant.3, c.loop-record.invariant.4)

pub overflow_add-frames : goal.overflow_add-frames
overflow_add-frames c =
    let y = turn-lies _ _ c.loop-record.invariant.8 c.loop-record.invariant.5 c.turn-t.ensures.0 c.in-Ok.is in
    omega (arith, y.0, y.1, c.loop-record.invariant.8.framed, c.loop-record.invariant.3, c.loop-record.invariant.4)

pub loop-record-preserved : goal.loop-record-preserved
loop-record-preserved c =
    let s = c.in-Some.ensures.steps in
    let comes : Comes c.args.form c.loop-record.record-iterator.rest.now c.in-Some.record.now c.next.new.self.rest.now =
    record { is = s.1.0; long = rw (← c.loop-record.invariant.9) s.1.1; some = s.1.2 } in
    let l = output-kept _ _ c.loop-record.invariant.8 c.turn-t.ensures.0 c.turn-t.auto.output in (
      c.turn-t.auto.code ∙ c.loop-record.invariant.0,
      c.turn-t.auto.data ∙ c.loop-record.invariant.1,
      c.turn-t.auto.room ∙ c.loop-record.invariant.2,
      l ∙ c.loop-record.invariant.3,
      c.loop-record.invariant.4,
      c.loop-record.invariant.5,
      c.turn-t.ensures.1,
      c.turn-t.ensures.2,
      replayed-turn _ _ _ c.loop-record.invariant.8 c.loop-record.invariant.5 comes c.turn-t.ensures.0 c.in-Ok.is l,
      s.0 ∙ c.loop-record.invariant.9,
      c.loop-record.invariant.10,
      search rules,
      search rules,
    )

pub returns-in-None : goal.returns-in-None
returns-in-None c =
    let x = replayed-end c.loop-record.invariant.8 (search rules) in
    rw c.loop-record.invariant.10 x

pub returns-in-Err : goal.returns-in-Err
returns-in-Err c =
    let s = c.in-Some.ensures.steps in
    let comes : Comes c.args.form c.loop-record.record-iterator.rest.now c.in-Some.record.now c.next.new.self.rest.now =
    record { is = s.1.0; long = rw (← c.loop-record.invariant.9) s.1.1; some = s.1.2 } in
    replayed-halted _ c.loop-record.invariant.8 comes c.turn-t.ensures.0 c.in-Err.is c.from.ensures
