-- `engine::begin` meets its contract: the bytes that follow are put behind those held.
-- Assumes nothing.
use native.Mathlib.Omega.{arith}
use lib.ListN.{length}
use mathlib.Core.Path.{◌∙◌, ◌≡◌, ap}
use borrow.Author.Rules.{rules}
use Rattle.engine.proofs.Joining.{Joins, from_start, joined-ahead, joins}
use Rattle.lent.specs.Lent.{put_of}
use Rattle.engine.proofs.begin.Goals as goal

pub slice_bounds-put-end-2 : goal.slice_bounds-put-end-2
slice_bounds-put-end-2 c =
    let join : Joins c.args.collector.len (length c.args.bytes.now) c.room_behind-k.result = joins _ _ _ c.room_behind-k.ensures c.requires in
    omega (arith, join.there)

pub overflow_add-result : goal.overflow_add-result
overflow_add-result c =
    let join : Joins c.args.collector.len (length c.args.bytes.now) c.room_behind-k.result = joins _ _ _ c.room_behind-k.ensures c.requires in
    omega (arith, join.placed)

pub returns : goal.returns
returns c =
    let long : length c.args.collector.bytes ≡ 260 = search rules in
    let join : Joins c.args.collector.len (length c.args.bytes.now) c.room_behind-k.result = joins _ _ _ c.room_behind-k.ensures c.requires in
    let j = join in
    (joined-ahead c.args.collector c.args.bytes.now _ _ _ long c.requires j (c.put.ensures ∙ ap (put_of _ _) (from_start c.room_behind-k.result c.args.bytes.now)), j.placed)
