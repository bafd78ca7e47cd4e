-- `dock_answer::judge_two` meets its contract: the frame at the front, and one after it.
-- Assumes nothing.
use mathlib.Core.Path.{◌∙◌, ap, sym}
use Rattle.dock_answer.proofs.Laws.{frames-first, frames-second}
use Rattle.frame.specs.Judgement.{is_good}
use Rattle.dock_answer.proofs.judge_two.Goals as goal

pub returns-then-is_good : goal.returns-then-is_good
returns-then-is_good c =
    let good = sym (c.is_good.ensures ∙ ap is_good c.judge_reply-front.ensures) ∙ c.if-is_good.true in
    frames-second _ _ _ _ _ good c.after.ensures c.judge_one.ensures

pub returns : goal.returns
returns c = frames-first _ _ _ _ c.judge_reply-front.ensures (sym c.is_good.ensures ∙ c.if-is_good.false)
