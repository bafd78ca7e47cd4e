-- `conversion::write` meets its contract: the output has place for as many records as the capture has, or nothing is written.
-- Assumes nothing.
use native.Mathlib.Omega.{arith}
use Rattle.replay_capture.proofs.Laws.{sizes}
use Rattle.conversion.proofs.Writing.{not_written, room-for-all}
use Rattle.conversion.proofs.write.Goals as goal

pub nonzero_div-records : goal.nonzero_div-records
nonzero_div-records c = omega (arith, c.record_size.ensures, sizes c.args.from)

pub nonzero_div-output : goal.nonzero_div-output
nonzero_div-output c = omega (arith, c.record_size-2.ensures, sizes c.other.result)

pub returns-then-output-record_size : goal.returns-then-output-record_size
returns-then-output-record_size c = not_written c.args.from _ c.requires c.record_size.ensures c.other.ensures c.record_size-2.ensures _ c.if-output-record_size.true

pub write_records-requires : goal.write_records-requires
write_records-requires c = (c.requires, room-for-all c.args.from _ c.requires c.record_size.ensures c.other.ensures c.record_size-2.ensures c.if-output-record_size.false)
