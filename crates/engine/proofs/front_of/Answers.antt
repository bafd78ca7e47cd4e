-- `engine::front_of` meets its contract: what the phase hears decides.
-- Assumes nothing.
use mathlib.Core.Path.{◌∙◌}
use Rattle.engine.proofs.Fronts.{front-command, front-data, front-mode, front-none}
use Rattle.engine.proofs.front_of.Goals as goal

pub returns-then-bytes-eq0 : goal.returns-then-bytes-eq0
returns-then-bytes-eq0 c = front-none _ _ c.if-bytes-eq0.true

pub returns-in-HearsNothing : goal.returns-in-HearsNothing
returns-in-HearsNothing c = front-mode _ _ c.in-HearsNothing.is c.if-bytes-eq0.false

pub returns-in-HearsCommands : goal.returns-in-HearsCommands
returns-in-HearsCommands c = c.front_for.ensures ∙ front-command _ _ c.in-HearsCommands.is c.if-bytes-eq0.false

pub returns-in-HearsData : goal.returns-in-HearsData
returns-in-HearsData c = c.front_for-in-HearsData.ensures ∙ front-data _ _ _ c.in-HearsData.is c.if-bytes-eq0.false
