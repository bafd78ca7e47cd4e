-- `chip_layout::lay_chip` meets its contract: the six pieces, copied one after the other, are the layout.
-- Assumes nothing.
use mathlib.Core.Path.{◌∙◌}
use mir.Syntax.{w64}
use borrow.Author.Rules.{rules}
use Rattle.numbers.proofs.Laws.{bit-from, le-written}
use Rattle.chip_layout.proofs.Laws.{layout_is}
use Rattle.chip_layout.proofs.lay_chip.Goals as goal

pub returns : goal.returns
returns c =
    let first = c.copy_from_slice.ensures.after ∙ c.head-first.ensures in
    let next = c.copy_from_slice-2.ensures.after ∙ c.to_le_bytes.ensures ∙ le-written w64 _ in
    let last = c.copy_from_slice-3.ensures.after ∙ c.to_le_bytes-2.ensures ∙ le-written w64 _ in
    let count = c.copy_from_slice-4.ensures.after ∙ c.to_le_bytes-3.ensures ∙ le-written w64 _ in
    let differed = c.from.ensures ∙ bit-from _ in
    layout_is c.args.chip _ _ _ _ _ _ _ _ _ c.awaited_of-awaited.ensures c.phase_number.ensures first next last count
    c.copy_from_slice-5.ensures.after differed c.told-state (search rules)
