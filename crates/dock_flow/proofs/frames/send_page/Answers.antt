-- `dock_flow::frames::send_page` meets its contract: a page of a block of the job lies in the image, and its frame at the room's start.
-- Assumes nothing.
use Rattle.dock_flow.proofs.LawsFrames.{page-placed}
use Rattle.dock_flow.proofs.frames.send_page.Goals as goal

pub returns : goal.returns
returns c = page-placed c.args.job c.args.image.now _ _ c.args.block c.args.page _ _ _ _ c.page_start-at.ensures.0 c.page_size.ensures c.page_footer-footer.ensures c.page_start-at.ensures.1 c.requires.2 c.requires.3 c.write_data.ensures
