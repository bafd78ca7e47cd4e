-- `chip_flash::lands` meets its contract: the fold over the pairs is the definition's test.
-- Assumes nothing.
use Rattle.std.proofs.Common.{◌∙◌, sym, rules, tests, ne_eqb}
use Rattle.std.proofs.lemmas.Iterator.{YieldsList-from_slice, YieldsList-from_zip}
use Rattle.std.proofs.lemmas.Iterator.Consumers.{fold_from_yields_List}
use Rattle.chip_flash.proofs.Laws.{lands_step, lands-apart, lands-fold}
use Rattle.chip_flash.proofs.lands.Goals as goal

pub returns-then-old-new : goal.returns-then-old-new
returns-then-old-new c =
    let old = c.args.old.now in
    let new = c.args.new.now in
    fold_from_yields_List _ lands_step _ _ c.fold.ensures.ran (YieldsList-from_zip (YieldsList-from_slice old cc) (YieldsList-from_slice new cc)) (λ a x b q k. search (rules, tests))
    ∙ lands-fold old new c.if-old-new.true

pub returns-else-old-new : goal.returns-else-old-new
returns-else-old-new c = ne_eqb _ _ c.if-old-new.false ∙ sym (lands-apart _ _ c.if-old-new.false)
