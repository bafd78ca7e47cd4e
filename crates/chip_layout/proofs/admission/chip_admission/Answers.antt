-- `chip_layout::admission::chip_admission` meets its contract: the verdict on flash, then whether the bytes are a state.
-- Assumes nothing.
use mathlib.Core.Bool.{not}
use mathlib.Core.Path.{◌∙◌, ap, sym}
use borrow.Author.Rules.{rules}
use Rattle.chip_layout.specs.Admission.{chip_admission}
use Rattle.chip_sums.proofs.Laws.{flash-bars, flash-lets}
use Rattle.part.proofs.Laws.{first-here, first_on, none-held}
use Rattle.chip_layout.proofs.admission.chip_admission.Goals as goal

pub returns-in_err-flash_verdict : goal.returns-in_err-flash_verdict
unfolding chip_admission
returns-in_err-flash_verdict c = rw (flash-bars _ _ _ _ (sym c.flash_verdict.ensures ∙ c.in_err-flash_verdict.was)) (search rules)

pub returns-then-not-is_state : goal.returns-then-not-is_state
unfolding chip_admission
returns-then-not-is_state c =
    sym
    (flash-lets _ _ _ _ (sym c.flash_verdict.ensures ∙ c.in_ok-flash_verdict.was)
    ∙ first-here _ _ _ (ap not (sym c.is_state.ensures ∙ c.if-not-is_state.true)))

pub returns : goal.returns
unfolding chip_admission
returns c =
    sym
    (flash-lets _ _ _ _ (sym c.flash_verdict.ensures ∙ c.in_ok-flash_verdict.was)
    ∙ first_on _ _ _ (ap not (sym c.is_state.ensures ∙ c.if-not-is_state.false))
    ∙ none-held)
