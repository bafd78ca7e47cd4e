-- `chip_sums::flash_verdict` meets its contract: the first refusal that holds decides, in the definition's order.
-- Assumes nothing.
use mathlib.Core.Bool.{not}
use mathlib.Core.Path.{◌∙◌, ap, sym}
use borrow.Author.Tests.{eq-eqb, ne_eqb}
use Rattle.chip_sums.specs.Sums.{flash_verdict}
use Rattle.part.proofs.Laws.{first-here, first_on, none-held}
use Rattle.chip_sums.proofs.flash_verdict.Goals as goal

pub returns-then-not-is_described : goal.returns-then-not-is_described
unfolding flash_verdict
returns-then-not-is_described c = sym (first-here _ _ _ (ap not (sym c.is_described.ensures ∙ c.if-not-is_described.true)))

pub returns-then-code-size : goal.returns-then-code-size
unfolding flash_verdict
returns-then-code-size c =
    sym
    (first_on _ _ _ (ap not (sym c.is_described.ensures ∙ c.if-not-is_described.false))
    ∙ first-here _ _ _ (ap not (ne_eqb _ _ (λ e. c.if-code-size.true (e ∙ sym c.size.ensures)))))

pub returns-then-data-size : goal.returns-then-data-size
unfolding flash_verdict
returns-then-data-size c =
    sym
    (first_on _ _ _ (ap not (sym c.is_described.ensures ∙ c.if-not-is_described.false))
    ∙ first_on _ _ _ (ap not (eq-eqb _ _ (c.if-code-size.false ∙ c.size.ensures)))
    ∙ first-here _ _ _ (ap not (ne_eqb _ _ (λ e. c.if-data-size.true (e ∙ sym c.size-2.ensures)))))

pub returns : goal.returns
unfolding flash_verdict
returns c =
    sym
    (first_on _ _ _ (ap not (sym c.is_described.ensures ∙ c.if-not-is_described.false))
    ∙ first_on _ _ _ (ap not (eq-eqb _ _ (c.if-code-size.false ∙ c.size.ensures)))
    ∙ first_on _ _ _ (ap not (eq-eqb _ _ (c.if-data-size.false ∙ c.size-2.ensures)))
    ∙ none-held)
