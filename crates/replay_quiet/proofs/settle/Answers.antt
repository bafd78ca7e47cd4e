-- `replay_quiet::settle` meets its contract: the output's room first, then the record's judgement, whether it is quiet, and whether the chip accepts it.
-- Assumes nothing.
use mathlib.Core.Path.{◌∙◌, ap, sym}
use Rattle.std.specs.Prelude.{Ok}
use Prim.Native.Nat.{◌+◌, ◌<◌}
use native.Mathlib.Omega.{arith}
use borrow.Author.Rules.{rules}
use Rattle.replay_capture.proofs.Laws.{carries-is}
use Rattle.replay_quiet.proofs.Laws.{bad-is-loud, bytes-quiet-is, carried-few, front_fits, settles-barred, settles-bytes, settles-gap, settles-loud, settles-other, settles-short}
use Rattle.replay_quiet.proofs.settle.Goals as goal

pub returns-then-lengths-output_least : goal.returns-then-lengths-output_least
returns-then-lengths-output_least c = settles-short _ _ _ _ _ _ c.output_least.ensures c.if-lengths-output_least.true

pub returns-then-is_accepted : goal.returns-then-is_accepted
returns-then-is_accepted c =
    settles-other _ _ _ _ _ _ c.output_least.ensures (sym c.read.ensures ∙ c.in-Ok.is ∙ ap Ok c.in-OtherSeat.is) c.if-lengths-output_least.false (sym c.is_accepted.ensures ∙ c.if-is_accepted.true)

pub returns-then-is_accepted-2 : goal.returns-then-is_accepted-2
returns-then-is_accepted-2 c =
    settles-gap _ _ _ _ _ _ c.output_least.ensures (sym c.read.ensures ∙ c.in-Ok.is ∙ ap Ok c.in-GapRecord.is) c.if-lengths-output_least.false (sym c.is_accepted-in-GapRecord.ensures ∙ c.if-is_accepted-2.true)

pub is_front-requires : goal.is_front-requires
is_front-requires c =
    let k = carries-is _ _ _ (sym c.read.ensures ∙ c.in-Ok.is ∙ ap Ok c.in-BytesRecord.is) in
    (search rules, carried-few k c.carried-carried.ensures)

pub overflow_add-result : goal.overflow_add-result
overflow_add-result c =
    let fits : c.args.count + c.in-BytesRecord.n < 260 = front_fits _ _ _ _ _ _ (sym c.read.ensures ∙ c.in-Ok.is ∙ ap Ok c.in-BytesRecord.is) c.carried-carried.ensures (search rules) (sym c.is_front.ensures ∙ c.if-not-is_front.false) in
    omega (arith, fits)

pub returns-else-not-is_accepted : goal.returns-else-not-is_accepted
returns-else-not-is_accepted c =
    let fits : c.args.count + c.in-BytesRecord.n < 260 = front_fits _ _ _ _ _ _ (sym c.read.ensures ∙ c.in-Ok.is ∙ ap Ok c.in-BytesRecord.is) c.carried-carried.ensures (search rules) (sym c.is_front.ensures ∙ c.if-not-is_front.false) in
    settles-bytes _ _ _ _ _ _ c.output_least.ensures _ _ _ (sym c.read.ensures ∙ c.in-Ok.is ∙ ap Ok c.in-BytesRecord.is) c.if-lengths-output_least.false c.carried-carried.ensures (search rules)
    (omega (arith, fits)) (bytes-quiet-is _ _ _ _ _ _ c.carried-carried.ensures ∙ sym c.is_front.ensures ∙ c.if-not-is_front.false) (sym c.is_accepted-in-BytesRecord.ensures ∙ c.if-not-is_accepted.false) c.put.ensures

pub returns-then-not-is_accepted : goal.returns-then-not-is_accepted
returns-then-not-is_accepted c = settles-barred _ _ _ _ _ _ c.output_least.ensures _ (sym c.read.ensures ∙ c.in-Ok.is ∙ ap Ok c.in-BytesRecord.is) c.if-lengths-output_least.false (sym c.is_accepted-in-BytesRecord.ensures ∙ c.if-not-is_accepted.true)

pub returns-in_default : goal.returns-in_default
returns-in_default c = settles-loud _ _ _ _ _ _ c.output_least.ensures _ (sym c.read.ensures ∙ c.in_default.is) c.if-lengths-output_least.false (bad-is-loud _ _ _ _)

pub returns-else-is_accepted : goal.returns-else-is_accepted
returns-else-is_accepted c =
    settles-barred _ _ _ _ _ _ c.output_least.ensures _ (sym c.read.ensures ∙ c.in-Ok.is ∙ ap Ok c.in-OtherSeat.is) c.if-lengths-output_least.false (sym c.is_accepted.ensures ∙ c.if-is_accepted.false)

pub returns-else-is_accepted-2 : goal.returns-else-is_accepted-2
returns-else-is_accepted-2 c =
    settles-barred _ _ _ _ _ _ c.output_least.ensures _ (sym c.read.ensures ∙ c.in-Ok.is ∙ ap Ok c.in-GapRecord.is) c.if-lengths-output_least.false (sym c.is_accepted-in-GapRecord.ensures ∙ c.if-is_accepted-2.false)

pub returns-then-not-is_front : goal.returns-then-not-is_front
returns-then-not-is_front c =
    settles-loud _ _ _ _ _ _ c.output_least.ensures _ (sym c.read.ensures ∙ c.in-Ok.is ∙ ap Ok c.in-BytesRecord.is) c.if-lengths-output_least.false
    (bytes-quiet-is _ _ _ _ _ _ c.carried-carried.ensures ∙ sym c.is_front.ensures ∙ c.if-not-is_front.true)
