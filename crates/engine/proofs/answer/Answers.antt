-- `engine::answer` meets its contract: the frame does its work, and its reply is sent into the room past those before it.
-- Assumes nothing.
use Prim.Native.Nat.{◌<◌}
use native.Mathlib.Omega.{arith}
use lib.ListN.{length}
use borrow.Author.Rules.{rules}
use Rattle.engine.proofs.Answering.{answered, grown, sent-short}
use Rattle.part.specs.Part.{Arrays}
use Rattle.engine.proofs.answer.Goals as goal

pub overflow_add-result : goal.overflow_add-result
overflow_add-result c =
    let arrays : Arrays c.args.part = record { device_long = search rules; name_long = search rules; version_long = search rules } in
    let short : length c.args.room.now < 18446744073709551616 = search rules in
    let x = sent-short _ _ _ _ _ _ _ c.send-sent.ensures c.requires.0 arrays c.requires.1 in
    omega (arith, x.0, c.requires.1.left, short)

pub overflow_add-result-2 : goal.overflow_add-result-2
overflow_add-result-2 c =
    let arrays : Arrays c.args.part = record { device_long = search rules; name_long = search rules; version_long = search rules } in
    let short : length c.args.room.now < 18446744073709551616 = search rules in
    let x = sent-short _ _ _ _ _ _ _ c.send-sent.ensures c.requires.0 arrays c.requires.1 in
    omega (arith, x.0, x.1, c.requires.1.left, c.requires.1.framed, short)

pub faults_after-requires : goal.faults_after-requires
faults_after-requires c = c.requires.2

pub returns : goal.returns
returns c =
    let arrays : Arrays c.args.part = record { device_long = search rules; name_long = search rules; version_long = search rules } in
    let g = grown _ _ _ _ _ _ _ c.fault-judgement.result c.first_of.result _ c.send-sent.ensures c.faults_after.ensures c.requires.0 arrays c.requires.1 in (
      answered _ _ _ _ _ _ _ _ _ _ _ _ _ c.frame_does-done.ensures c.send-sent.ensures c.fault-judgement.ensures c.faults_after.ensures c.first_of.ensures c.requires.0 arrays c.requires.1,
      g.0,
      g.1,
      g.2,
      g.3,
    )
