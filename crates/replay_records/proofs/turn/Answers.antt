-- `replay_records::turn` meets its contract: a record that is settled is played so, and any other is played on the chip as it was.
-- Assumes nothing.
use mathlib.Core.Path.{◌∙◌, refl, sym}
use Rattle.replay_quiet.proofs.Plays.{left_alone, settled-plays}
use Rattle.replay_records.proofs.Loop.{never, same-held}
use Rattle.replay_records.proofs.turn.Goals as goal

pub returns-in-Some : goal.returns-in-Some
returns-in-Some c =
    let y = settled-plays _ _ _ _ _ _ _ _ _ _ _ _ c.requires.0 c.requires.1 refl refl refl refl c.settle-quiet.ensures c.in-Some.is in
    (y.plays, y.places, λ e. y.accepted)

pub returns-in-None : goal.returns-in-None
returns-in-None c =
    (same-held _ _ _ _ _ _ _ _ _ _ _ c.play_held.ensures.0 (left_alone _ _ _ _ _ _ _ _ c.settle-quiet.ensures c.in-None.is), c.play_held.ensures.1, λ e. never (sym c.play_held.ensures.2 ∙ e))
