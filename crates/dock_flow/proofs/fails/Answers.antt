-- `dock_flow::fails` meets its contract: each field is the definition's.
-- Assumes nothing.
use Rattle.dock_flow.proofs.LawsFrames.{alike_is}
use Rattle.dock_flow.proofs.fails.Goals as goal

pub returns : goal.returns
returns c =
    let a = alike_is _ _ _ c.query_with-query.ensures in
    simp (← a.cmd, ← a.page, ← a.block, ← c.«com».ensures)
