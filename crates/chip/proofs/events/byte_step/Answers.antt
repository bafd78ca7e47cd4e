-- `chip::events::byte_step` meets its contract: the state being accepted, a byte settles by its way.
-- Assumes nothing.
use mathlib.Core.Path.{◌∙◌, ◌≡◌, sym}
use native.Mathlib.Omega.{arith}
use lib.ListN.{length}
use borrow.Author.Rules.{rules}
use Rattle.chip_state.proofs.Laws.{accepts}
use Rattle.chip.proofs.Settling.{byte-accepted, completes-settles, hears-settles, mode-settles, next-in-array}
use Rattle.chip.proofs.events.byte_step.Goals as goal

pub slice_bounds-bytes-end : goal.slice_bounds-bytes-end
slice_bounds-bytes-end c =
    let long : length c.args.chip.collector.bytes ≡ 260 = search rules in
    let next-long : length c.byte-next.result.bytes ≡ 260 = search rules in
    omega (arith, next-long, next-in-array _ _ _ _ _ _ _ _ _ long (accepts c.requires) (sym c.way_in.ensures ∙ c.in-Completes.is) c.byte-next.ensures)

pub returns-in-Mode : goal.returns-in-Mode
returns-in-Mode c = byte-accepted _ _ _ _ _ _ c.requires (mode-settles _ _ _ _ _ _ _ (accepts c.requires) (sym c.way_in.ensures ∙ c.in-Mode.is) c.mode_byte.ensures)

pub returns-in-Hears : goal.returns-in-Hears
returns-in-Hears c =
    let long : length c.args.chip.collector.bytes ≡ 260 = search rules in
    byte-accepted _ _ _ _ _ _ c.requires (hears-settles _ _ _ _ _ _ _ _ long (accepts c.requires) (sym c.way_in.ensures ∙ c.in-Hears.is) c.byte.ensures)

pub returns-in-Completes : goal.returns-in-Completes
returns-in-Completes c =
    let long : length c.args.chip.collector.bytes ≡ 260 = search rules in
    byte-accepted _ _ _ _ _ _ c.requires
    (completes-settles _ _ _ _ _ _ _ _ _ _ _ _ _ _ long (accepts c.requires) (sym c.way_in.ensures ∙ c.in-Completes.is) c.byte-next.ensures c.frame_does-done.ensures c.send.ensures c.fault.ensures c.gap.ensures)
