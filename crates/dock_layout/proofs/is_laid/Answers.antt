-- `dock_layout::is_laid` meets its contract: all pairs of two lists of one length are equal where the lists are.
-- Assumes nothing.
use Rattle.std.proofs.Common.{◌∙◌, ne_eqb, rules, tests}
use Rattle.std.proofs.lemmas.Iterator.{YieldsList-from_slice, YieldsList-from_zip}
use Rattle.std.proofs.lemmas.Iterator.Search.{all_from_yields_List}
use Rattle.dock_layout.proofs.Laws.{equal_pair, same-paired}
use Rattle.lent.proofs.Laws.{same-apart}
use Rattle.dock_layout.proofs.is_laid.Goals as goal

pub returns-then-back-state : goal.returns-then-back-state
returns-then-back-state c =
    let back = c.args.back.now in
    let state = c.args.state.now in
    all_from_yields_List equal_pair c.all.new.self _ _ c.all.ensures.ran (YieldsList-from_zip (YieldsList-from_slice back cc) (YieldsList-from_slice state cc)) (λ x b q k. search (rules, tests))
    ∙ same-paired back state c.if-back-state.true

pub returns-else-back-state : goal.returns-else-back-state
returns-else-back-state c = ne_eqb _ _ c.if-back-state.false ∙ same-apart _ _ c.if-back-state.false
