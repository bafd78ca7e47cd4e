-- `frame::sum::sum16` meets its contract: the fold's step is `less` at 16 bits.
-- Assumes nothing.
use Rattle.std.proofs.Common.{◌∙◌, rules, tests}
use Rattle.std.proofs.lemmas.Iterator.{YieldsList-from_slice}
use Rattle.std.proofs.lemmas.Iterator.Consumers.{fold_from_yields_List}
use Rattle.frame.proofs.Laws.Sum.{folded}
use Rattle.frame.specs.Sum.{less}
use Rattle.frame.proofs.sum.sum16.Goals as goal

pub returns : goal.returns
returns c =
    let bytes = c.args.bytes.now in
    fold_from_yields_List _ (less 65536) _ _ c.fold.ensures.ran (YieldsList-from_slice bytes cc) (λ a x b q k. search (rules, tests)) ∙ folded 65536 _ bytes
