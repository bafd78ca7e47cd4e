-- `replay_records::replay_part` meets its contract: the struct is the definition.
-- Assumes nothing.
use mathlib.Core.Path.{refl}
use Rattle.replay_records.proofs.replay_part.Goals as goal

pub returns : goal.returns
returns c = refl
