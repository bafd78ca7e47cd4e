-- `chip_layout::admission::judge` meets its contract: 1, 2, 3, 9, 4: the first that holds decides, and its number is answered.
-- Assumes nothing.
use mathlib.Core.Bool.{not}
use mathlib.Core.Path.{◌∙◌, ap, sym}
use borrow.Author.Tests.{eq-eqb, le-ltb, lt-ltb, ne_eqb}
use Rattle.chip_layout.proofs.Laws.{acceptance-row}
use Rattle.chip_layout.specs.Admission.{acceptance_number}
use Rattle.part.proofs.Laws.{first-here, first_on, none-held}
use Rattle.chip_layout.proofs.admission.judge.Goals as goal

pub returns-then-not-is_described : goal.returns-then-not-is_described
unfolding acceptance_number
returns-then-not-is_described c =
    sym
    (ap acceptance_number
    (acceptance-row _ _ _ _ _
    ∙ first-here _ _ _ (ap not (sym c.is_described.ensures ∙ c.if-not-is_described.true))))

pub returns-then-code-size : goal.returns-then-code-size
unfolding acceptance_number
returns-then-code-size c =
    sym
    (ap acceptance_number
    (acceptance-row _ _ _ _ _
    ∙ first_on _ _ _ (ap not (sym c.is_described.ensures ∙ c.if-not-is_described.false))
    ∙ first-here _ _ _ (ap not (ne_eqb _ _ (λ e. c.if-code-size.true (e ∙ sym c.size.ensures))))))

pub returns-then-data-size : goal.returns-then-data-size
unfolding acceptance_number
returns-then-data-size c =
    sym
    (ap acceptance_number
    (acceptance-row _ _ _ _ _
    ∙ first_on _ _ _ (ap not (sym c.is_described.ensures ∙ c.if-not-is_described.false))
    ∙ first_on _ _ _ (ap not (eq-eqb _ _ (c.if-code-size.false ∙ c.size.ensures)))
    ∙ first-here _ _ _ (ap not (ne_eqb _ _ (λ e. c.if-data-size.true (e ∙ sym c.size-2.ensures))))))

pub returns-then-not-is_state : goal.returns-then-not-is_state
unfolding acceptance_number
returns-then-not-is_state c =
    sym
    (ap acceptance_number
    (acceptance-row _ _ _ _ _
    ∙ first_on _ _ _ (ap not (sym c.is_described.ensures ∙ c.if-not-is_described.false))
    ∙ first_on _ _ _ (ap not (eq-eqb _ _ (c.if-code-size.false ∙ c.size.ensures)))
    ∙ first_on _ _ _ (ap not (eq-eqb _ _ (c.if-data-size.false ∙ c.size-2.ensures)))
    ∙ first-here _ _ _ (ap not (sym c.is_state.ensures ∙ c.if-not-is_state.true))))

pub returns-then-not-is_good_in : goal.returns-then-not-is_good_in
unfolding acceptance_number
returns-then-not-is_good_in c =
    sym
    (ap acceptance_number
    (acceptance-row _ _ _ _ _
    ∙ first_on _ _ _ (ap not (sym c.is_described.ensures ∙ c.if-not-is_described.false))
    ∙ first_on _ _ _ (ap not (eq-eqb _ _ (c.if-code-size.false ∙ c.size.ensures)))
    ∙ first_on _ _ _ (ap not (eq-eqb _ _ (c.if-data-size.false ∙ c.size-2.ensures)))
    ∙ first_on _ _ _ (ap not (sym c.is_state.ensures ∙ c.if-not-is_state.false))
    ∙ first-here _ _ _ (ap not (sym c.is_good_in.ensures ∙ c.if-not-is_good_in.true))))

pub returns-then-room-lt32 : goal.returns-then-room-lt32
unfolding acceptance_number
returns-then-room-lt32 c =
    sym
    (ap acceptance_number
    (acceptance-row _ _ _ _ _
    ∙ first_on _ _ _ (ap not (sym c.is_described.ensures ∙ c.if-not-is_described.false))
    ∙ first_on _ _ _ (ap not (eq-eqb _ _ (c.if-code-size.false ∙ c.size.ensures)))
    ∙ first_on _ _ _ (ap not (eq-eqb _ _ (c.if-data-size.false ∙ c.size-2.ensures)))
    ∙ first_on _ _ _ (ap not (sym c.is_state.ensures ∙ c.if-not-is_state.false))
    ∙ first_on _ _ _ (ap not (sym c.is_good_in.ensures ∙ c.if-not-is_good_in.false))
    ∙ first-here _ _ _ (lt-ltb _ _ c.if-room-lt32.true)))

pub returns : goal.returns
unfolding acceptance_number
returns c =
    sym
    (ap acceptance_number
    (acceptance-row _ _ _ _ _
    ∙ first_on _ _ _ (ap not (sym c.is_described.ensures ∙ c.if-not-is_described.false))
    ∙ first_on _ _ _ (ap not (eq-eqb _ _ (c.if-code-size.false ∙ c.size.ensures)))
    ∙ first_on _ _ _ (ap not (eq-eqb _ _ (c.if-data-size.false ∙ c.size-2.ensures)))
    ∙ first_on _ _ _ (ap not (sym c.is_state.ensures ∙ c.if-not-is_state.false))
    ∙ first_on _ _ _ (ap not (sym c.is_good_in.ensures ∙ c.if-not-is_good_in.false))
    ∙ first_on _ _ _ (le-ltb _ _ c.if-room-lt32.false)
    ∙ none-held))
