-- `replay_capture::is_good` meets its contract: size, count, seat, the byte after it, and the bytes that are unused, in that order.
-- Assumes nothing.
use mathlib.Core.Path.{◌∙◌, sym}
use native.Mathlib.Omega.{arith}
use borrow.Author.Tests.{eq-eqb, le-leb, lt-leb, ne_eqb}
use Rattle.replay_capture.proofs.Laws.{count_most, sizes}
use Rattle.replay_capture.specs.Capture.{good_record}
use Rattle.words.specs.Words.{◌and◌}
use Rattle.replay_capture.proofs.is_good.Goals as goal

pub returns-then-bytes-record_size : goal.returns-then-bytes-record_size
unfolding good_record ◌and◌
returns-then-bytes-record_size c = simp (← c.record_size.ensures, ne_eqb _ _ c.if-bytes-record_size.true)

pub returns-then-not-is_good_count : goal.returns-then-not-is_good_count
unfolding good_record ◌and◌
returns-then-not-is_good_count c =
    let record-size = c.record_size in
    let if1 = c.if-bytes-record_size in
    let byte_at = c.byte_at-n in
    let byte-at2 = c.byte_at in
    simp (← record-size.ensures, eq-eqb _ _ if1.false, ← byte_at.ensures, ← byte-at2.ensures, ← c.is_good_count.ensures, c.if-not-is_good_count.true)

pub returns-then-seat-gt1 : goal.returns-then-seat-gt1
unfolding good_record ◌and◌
returns-then-seat-gt1 c =
    let record-size = c.record_size in
    let if1 = c.if-bytes-record_size in
    let byte_at = c.byte_at-n in
    let byte-at2 = c.byte_at in
    let is-good-count = c.is_good_count in
    let if2 = c.if-not-is_good_count in
    simp (
      ← record-size.ensures,
      eq-eqb _ _ if1.false,
      ← byte_at.ensures,
      ← byte-at2.ensures,
      ← is-good-count.ensures,
      if2.false,
      ← c.seat.ensures,
      lt-leb _ _ c.if-seat-gt1.true,
    )

pub returns-then-spare-ne0 : goal.returns-then-spare-ne0
unfolding good_record ◌and◌
returns-then-spare-ne0 c =
    let record-size = c.record_size in
    let if1 = c.if-bytes-record_size in
    let byte_at = c.byte_at-n in
    let byte-at2 = c.byte_at in
    let is-good-count = c.is_good_count in
    let if2 = c.if-not-is_good_count in
    let seat = c.seat in
    let if3 = c.if-seat-gt1 in
    simp (
      ← record-size.ensures,
      eq-eqb _ _ if1.false,
      ← byte_at.ensures,
      ← byte-at2.ensures,
      ← is-good-count.ensures,
      if2.false,
      ← seat.ensures,
      le-leb _ _ if3.false,
      ← c.spare.ensures,
      ne_eqb _ _ c.if-spare-ne0.true,
    )

pub is_unused-requires : goal.is_unused-requires
is_unused-requires c =
    let form = c.args.form in
    let record-size = c.record_size in
    let if1 = c.if-bytes-record_size in
    let is-good-count = c.is_good_count in
    let n = count_most form _ _ (sym is-good-count.ensures ∙ c.if-not-is_good_count.false) in
    omega (arith, n, (sizes form).parts, if1.false, record-size.ensures)

pub returns : goal.returns
unfolding good_record ◌and◌
returns c =
    let record-size = c.record_size in
    let if1 = c.if-bytes-record_size in
    let byte_at = c.byte_at-n in
    let byte-at2 = c.byte_at in
    let is-good-count = c.is_good_count in
    let if2 = c.if-not-is_good_count in
    let seat = c.seat in
    let if3 = c.if-seat-gt1 in
    let spare = c.spare in
    simp (
      ← record-size.ensures,
      eq-eqb _ _ if1.false,
      ← byte_at.ensures,
      ← byte-at2.ensures,
      ← is-good-count.ensures,
      if2.false,
      ← seat.ensures,
      le-leb _ _ if3.false,
      ← spare.ensures,
      eq-eqb _ _ c.if-spare-ne0.false,
      ← c.is_unused.ensures,
    )
