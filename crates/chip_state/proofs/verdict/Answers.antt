-- `chip_state::verdict` meets its contract: 1, 2, 3, 9, 4: the first that holds decides.
-- Assumes nothing.
use mathlib.Core.Bool.{not}
use mathlib.Core.Path.{◌∙◌, ap, sym}
use borrow.Author.Tests.{eq-eqb, le-ltb, lt-ltb, ne_eqb}
use Rattle.part.proofs.Laws.{first-here, first_on, none-held}
use Rattle.chip_state.specs.Refusals.{verdict_of}
use Rattle.chip_state.proofs.verdict.Goals as goal

pub returns-then-not-is_described : goal.returns-then-not-is_described
unfolding verdict_of
returns-then-not-is_described c =
    sym
    (first-here _ _ _ (ap not (sym c.is_described.ensures ∙ c.if-not-is_described.true)))

pub returns-then-handed-size : goal.returns-then-handed-size
unfolding verdict_of
returns-then-handed-size c =
    sym
    (first_on _ _ _ (ap not (sym c.is_described.ensures ∙ c.if-not-is_described.false))
    ∙ first-here _ _ _ (ap not (ne_eqb _ _ (λ e. c.if-handed-size.true (e ∙ sym c.size.ensures)))))

pub returns-then-handed-size-2 : goal.returns-then-handed-size-2
unfolding verdict_of
returns-then-handed-size-2 c =
    sym
    (first_on _ _ _ (ap not (sym c.is_described.ensures ∙ c.if-not-is_described.false))
    ∙ first_on _ _ _ (ap not (eq-eqb _ _ (c.if-handed-size.false ∙ c.size.ensures)))
    ∙ first-here _ _ _ (ap not (ne_eqb _ _ (λ e. c.if-handed-size-2.true (e ∙ sym c.size-2.ensures)))))

pub returns-then-not-is_good_state : goal.returns-then-not-is_good_state
unfolding verdict_of
returns-then-not-is_good_state c =
    sym
    (first_on _ _ _ (ap not (sym c.is_described.ensures ∙ c.if-not-is_described.false))
    ∙ first_on _ _ _ (ap not (eq-eqb _ _ (c.if-handed-size.false ∙ c.size.ensures)))
    ∙ first_on _ _ _ (ap not (eq-eqb _ _ (c.if-handed-size-2.false ∙ c.size-2.ensures)))
    ∙ first-here _ _ _ (ap not (sym c.is_good_state.ensures ∙ c.if-not-is_good_state.true)))

pub returns-then-handed-lt32 : goal.returns-then-handed-lt32
unfolding verdict_of
returns-then-handed-lt32 c =
    sym
    (first_on _ _ _ (ap not (sym c.is_described.ensures ∙ c.if-not-is_described.false))
    ∙ first_on _ _ _ (ap not (eq-eqb _ _ (c.if-handed-size.false ∙ c.size.ensures)))
    ∙ first_on _ _ _ (ap not (eq-eqb _ _ (c.if-handed-size-2.false ∙ c.size-2.ensures)))
    ∙ first_on _ _ _ (ap not (sym c.is_good_state.ensures ∙ c.if-not-is_good_state.false))
    ∙ first-here _ _ _ (lt-ltb _ _ c.if-handed-lt32.true))

pub returns : goal.returns
unfolding verdict_of
returns c =
    sym
    (first_on _ _ _ (ap not (sym c.is_described.ensures ∙ c.if-not-is_described.false))
    ∙ first_on _ _ _ (ap not (eq-eqb _ _ (c.if-handed-size.false ∙ c.size.ensures)))
    ∙ first_on _ _ _ (ap not (eq-eqb _ _ (c.if-handed-size-2.false ∙ c.size-2.ensures)))
    ∙ first_on _ _ _ (ap not (sym c.is_good_state.ensures ∙ c.if-not-is_good_state.false))
    ∙ first_on _ _ _ (le-ltb _ _ c.if-handed-lt32.false)
    ∙ none-held)
