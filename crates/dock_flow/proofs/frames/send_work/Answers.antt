-- `dock_flow::frames::send_work` meets its contract: a page's frame where one is named, else the command's.
-- Assumes nothing.
use mathlib.Core.Path.{◌∙◌, ap, sym}
use borrow.Author.Rules.{rules}
use Rattle.dock_flow.specs.Frames.{work_frame}
use Rattle.dock_job.proofs.Laws.{named-page-is}
use Rattle.dock_job.specs.Refusals.{good_named_page}
use Rattle.dock_flow.proofs.frames.send_work.Goals as goal

pub send_page-requires : goal.send_page-requires
send_page-requires c = (c.requires.0, named-page-is c.args.job c.in-Some.number (ap (good_named_page c.args.job) (sym c.in-Some.is) ∙ c.requires.1), search rules, search rules)

pub returns-in-Some : goal.returns-in-Some
unfolding work_frame
returns-in-Some c = simp (c.in-Some.is, ← c.send_page.ensures)

pub returns-in-None : goal.returns-in-None
unfolding work_frame
returns-in-None c = simp (c.in-None.is, ← c.send_command.ensures)
