-- `dock_flow::after_work` meets its contract: each frame's next; a page that is not the last has one after it.
-- Assumes nothing.
use mathlib.Core.Path.{◌≡◌, ◌∙◌, sym}
use Rattle.dock_job.specs.declared.Work.TheVariants.{ProgramPage, VerifyPage}
use native.Mathlib.Omega.{arith}
use borrow.Author.Rules.{rules}
use Rattle.dock_flow.proofs.Laws.{not-last-small}
use Rattle.dock_flow.specs.Flow.{after_work}
use Rattle.words.specs.Words.{if◌then◌otherwise◌}
use Rattle.dock_flow.proofs.after_work.Goals as goal

pub returns-in-Blank : goal.returns-in-Blank
unfolding after_work if◌then◌otherwise◌
returns-in-Blank c = search rules

pub returns-in-Program : goal.returns-in-Program
unfolding after_work if◌then◌otherwise◌
returns-in-Program c = search rules

pub returns-in-VerifyBlock : goal.returns-in-VerifyBlock
unfolding after_work if◌then◌otherwise◌
returns-in-VerifyBlock c = search rules

pub returns-in-ProgramPage : goal.returns-in-ProgramPage
unfolding after_work if◌then◌otherwise◌
returns-in-ProgramPage c = search rules

pub returns-in-ProgramPage-2 : goal.returns-in-ProgramPage-2
unfolding after_work if◌then◌otherwise◌
returns-in-ProgramPage-2 c = search rules

pub returns-in-VerifyPage : goal.returns-in-VerifyPage
unfolding after_work if◌then◌otherwise◌
returns-in-VerifyPage c = search rules

pub returns-in-VerifyPage-2 : goal.returns-in-VerifyPage-2
unfolding after_work if◌then◌otherwise◌
returns-in-VerifyPage-2 c = search rules

pub overflow_add-result : goal.overflow_add-result
overflow_add-result c =
    let same : ProgramPage c.in-ProgramPage.page ≡ ProgramPage c.in-ProgramPage-2.page = sym c.in-ProgramPage.is ∙ c.in-ProgramPage-2.is in
    let p : c.in-ProgramPage.page ≡ c.in-ProgramPage-2.page = cc in
    omega (arith, p, not-last-small c.args.job c.in-ProgramPage.page (sym c.if-is_last_page.ensures))

pub overflow_add-result-in-VerifyPage-2 : goal.overflow_add-result-in-VerifyPage-2
overflow_add-result-in-VerifyPage-2 c =
    let same : VerifyPage c.in-VerifyPage.page ≡ VerifyPage c.in-VerifyPage-2.page = sym c.in-VerifyPage.is ∙ c.in-VerifyPage-2.is in
    let p : c.in-VerifyPage.page ≡ c.in-VerifyPage-2.page = cc in
    omega (arith, p, not-last-small c.args.job c.in-VerifyPage.page (sym c.if-is_last_page-2.ensures))
