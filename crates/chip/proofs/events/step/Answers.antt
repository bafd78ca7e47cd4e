-- `chip::events::step` meets its contract: refusals first; a gap, power-on and a byte that is only added are settled here, any other byte by its way.
-- Assumes nothing.
use mathlib.Core.Path.{◌∙◌, ◌≡◌, sym}
use lib.ListN.{length}
use borrow.Author.Rules.{rules}
use Rattle.chip_state.proofs.Laws.{accepts}
use Rattle.chip.proofs.Settling.{at_gap, at-power-on, emptied, same-event, step-accepted, step-barred}
use Rattle.chip.proofs.Adding.{byte-adds}
use Rattle.chip.specs.declared.Event.TheVariants.{Gap, PowerOn}
use Rattle.frame.proofs.Laws.Collector.{adds-collector}
use Rattle.chip.proofs.events.step.Goals as goal

pub returns-in-Err : goal.returns-in-Err
returns-in-Err c = step-barred _ _ _ _ _ _ (sym c.verdict.ensures ∙ c.in-Err.is)

pub returns-in-Gap : goal.returns-in-Gap
returns-in-Gap c =
    let accepted = sym c.verdict.ensures ∙ c.in_default.is in
    step-accepted _ _ _ _ _ Gap _ _ accepted c.in-Gap.is (at_gap _ _ _ _) (emptied _ _ _ _ _ _ _ c.gap.ensures (accepts accepted).roomy)

pub returns-in-PowerOn : goal.returns-in-PowerOn
returns-in-PowerOn c =
    let accepted = sym c.verdict.ensures ∙ c.in_default.is in
    step-accepted _ _ _ _ _ PowerOn _ _ accepted c.in-PowerOn.is (at-power-on _ _ _ _ _ c.powered_on.ensures) (emptied _ _ _ _ _ _ _ c.power_on.ensures (accepts accepted).roomy)

pub returns-then-lacking-gt0 : goal.returns-then-lacking-gt0
returns-then-lacking-gt0 c =
    let long : length c.args.chip.collector.bytes ≡ 260 = search rules in
    byte-adds _ _ _ _ _ _ _ _ long (sym c.verdict.ensures ∙ c.in_default.is) c.lacking.ensures c.if-lacking-gt0.true c.in-Byte.is (adds-collector _ _ _ _ c.add-next.ensures)

pub byte_step-stepped-requires : goal.byte_step-stepped-requires
byte_step-stepped-requires c = sym c.verdict.ensures ∙ c.in_default.is

pub returns-in-Byte : goal.returns-in-Byte
returns-in-Byte c = same-event _ _ _ _ _ _ _ c.byte_step-stepped.ensures c.in-Byte.is
