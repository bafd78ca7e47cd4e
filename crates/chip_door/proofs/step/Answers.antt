-- `chip_door::step` meets its contract.
-- Assumes nothing.
use mathlib.Core.Path.{◌∙◌, ◌≡◌, ap, sym}
use borrow.Author.Rules.{rules}
use Rattle.chip_door.proofs.Laws.{step-refused, step-replied}
use Rattle.chip_door.specs.Calls.{stepped_by, stepped_through}
use Rattle.chip_layout.proofs.Laws.{accepted-number, refused-number}
use Rattle.chip_layout.specs.Admission.{acceptance_number}
use Rattle.std.specs.Prelude.{Err}
use Rattle.chip_door.proofs.step.Goals as goal

pub returns-in_err-chip_admission : goal.returns-in_err-chip_admission
unfolding stepped_through stepped_by
returns-in_err-chip_admission c =
    let e : c.from_residual.result ≡ Err c.in_err-chip_admission.field-0.0 = search rules in
    rw (← c.part_in-p.ensures, ← c.chip_admission.ensures, c.in_err-chip_admission.was, e, ← refused-number)

pub returns-in_err-sent : goal.returns-in_err-sent
returns-in_err-sent c =
    let e : c.from_residual-in_err-sent.result ≡ Err c.in_err-sent.field-0.0 = search rules in
    step-refused _ _ _ _ _ _ _ c.part_in-p.ensures c.chip_admission.ensures c.in_ok-chip_admission.was c.chip_in-chip.ensures c.step-s.ensures c.in_err-sent.was
    (ap acceptance_number e ∙ sym (refused-number _))

pub returns : goal.returns
returns c =
    rw (← accepted-number)
    (step-replied _ _ _ _ _ _ _ c.part_in-p.ensures c.chip_admission.ensures c.in_ok-chip_admission.was c.chip_in-chip.ensures c.step-s.ensures c.in_ok-sent.was
    c.fault-fault.ensures c.lay_chip.ensures)
