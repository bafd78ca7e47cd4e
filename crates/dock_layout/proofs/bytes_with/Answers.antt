-- `dock_layout::bytes_with` meets its contract.
-- Assumes nothing.
use mathlib.Core.Path.{◌∙◌}
use mir.Syntax.{w16, w32}
use Rattle.numbers.proofs.Laws.{le-written}
use Rattle.dock_layout.proofs.Laws.{bytes-are}
use Rattle.dock_layout.proofs.bytes_with.Goals as goal

pub returns : goal.returns
returns c =
    let r = c.to_le_bytes-r.ensures ∙ le-written w32 _ in
    let f = c.to_le_bytes-f.ensures ∙ le-written w32 _ in
    let b = c.to_le_bytes-b.ensures ∙ le-written w32 _ in
    let p = c.to_le_bytes-p.ensures ∙ le-written w32 _ in
    let place = c.to_le_bytes-place.ensures ∙ le-written w16 _ in
    bytes-are _ _ _ _ _ _ _ _ _ _ _ _ _ r f c.named.ensures b c.named-2.ensures p place c.is_named.ensures c.is_named-2.ensures
