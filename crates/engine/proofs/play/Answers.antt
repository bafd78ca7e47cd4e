-- `engine::play` meets its contract: the verdict on a byte in enough room, then the room for each byte, then the stretch.
-- Assumes nothing.
use mathlib.Core.Path.{◌∙◌, sym}
use native.Mathlib.Omega.{arith}
use Rattle.engine.proofs.Ending.{engine-plays, engine-refuses, engine-short}
use Rattle.engine.proofs.play.Goals as goal

pub returns-then-room-bytes : goal.returns-then-room-bytes
returns-then-room-bytes c = engine-short _ _ _ _ _ (sym c.verdict-v.ensures ∙ c.in-Ok.is) c.if-room-bytes.true

pub play_stretch-requires : goal.play_stretch-requires
play_stretch-requires c = (sym c.verdict-v.ensures ∙ c.in-Ok.is, omega (arith, c.if-room-bytes.false))

pub returns-in-Err : goal.returns-in-Err
returns-in-Err c = engine-refuses _ _ _ _ _ _ (sym c.verdict-v.ensures ∙ c.in-Err.is)

pub returns-else-room-bytes : goal.returns-else-room-bytes
returns-else-room-bytes c = c.play_stretch.ensures ∙ engine-plays _ _ _ _ _ (sym c.verdict-v.ensures ∙ c.in-Ok.is) c.if-room-bytes.false
