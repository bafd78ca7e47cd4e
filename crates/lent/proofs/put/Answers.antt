-- `lent::put` meets its contract: a copy into the room's part from the place on is the definition's list.
-- Assumes nothing.
use native.Mathlib.Omega.{arith}
use Rattle.lent.proofs.Laws.{part-put, put-short}
use Rattle.lent.specs.Lent.{put_of}
use Rattle.std.proofs.Common.{◌≡◌, ◌+◌, ◌-◌, ◌∙◌, ap, length}
use Rattle.lent.proofs.put.Goals as goal

pub returns-then-room-s : goal.returns-then-room-s
returns-then-room-s c = put-short _ _ _ (omega arith)

pub returns-then-room-s-2 : goal.returns-then-room-s-2
returns-then-room-s-2 c = put-short _ _ _ (omega arith)

pub returns : goal.returns
returns c =
    let a = c.args in
    let e = c.copy_from_slice.ensures.after in
    let n : length c.copy_from_slice.new.self ≡ a.at + length a.s.now - a.at = ap length e ∙ omega arith in
    part-put a.room.now a.at _ _ (omega arith) n ∙ ap (put_of a.room.now a.at) e
