-- `replay_play::play` meets its contract: the judgement of the record first, then the room for its replies, then its events.
-- Assumes nothing.
use mathlib.Core.Path.{◌∙◌, ap, sym}
use Rattle.replay_capture.proofs.Laws.{carries-is}
use Rattle.replay_play.proofs.Laws.{bytes-played, carried-room, event-room, gap-played, nothing-played, ok_good, play-bad, play-events, play-short}
use Rattle.std.specs.Prelude.{Ok}
use Rattle.replay_play.proofs.play.Goals as goal

pub returns-in_default : goal.returns-in_default
returns-in_default c = play-bad _ _ _ _ _ _ _ (sym c.read.ensures ∙ c.in_default.is)

pub returns-then-output-output_least : goal.returns-then-output-output_least
returns-then-output-output_least c = play-short _ _ _ _ _ _ _ _ (sym c.read.ensures ∙ c.in-Ok.is) ok_good c.output_least.ensures c.if-output-output_least.true

pub play_gap-requires : goal.play_gap-requires
play_gap-requires c = event-room c.args.form c.output_least.ensures c.if-output-output_least.false

pub play_bytes-requires : goal.play_bytes-requires
play_bytes-requires c =
    carried-room (carries-is _ _ _ (sym c.read.ensures ∙ c.in-Ok.is ∙ ap Ok c.in-BytesRecord.is)) c.carried-carried.ensures c.output_least.ensures c.if-output-output_least.false

pub returns-in-OtherSeat : goal.returns-in-OtherSeat
returns-in-OtherSeat c =
    play-events _ _ _ _ _ _ _ _ _ (sym c.read.ensures ∙ c.in-Ok.is ∙ ap Ok c.in-OtherSeat.is) ok_good c.output_least.ensures c.if-output-output_least.false (nothing-played _ _ _ _ _ _ _)

pub returns-in-GapRecord : goal.returns-in-GapRecord
returns-in-GapRecord c =
    play-events _ _ _ _ _ _ _ _ _ (sym c.read.ensures ∙ c.in-Ok.is ∙ ap Ok c.in-GapRecord.is) ok_good c.output_least.ensures c.if-output-output_least.false (gap-played _ _ _ _ _ _ _ _ c.play_gap.ensures)

pub returns-in-BytesRecord : goal.returns-in-BytesRecord
returns-in-BytesRecord c =
    play-events _ _ _ _ _ _ _ _ _ (sym c.read.ensures ∙ c.in-Ok.is ∙ ap Ok c.in-BytesRecord.is) ok_good c.output_least.ensures c.if-output-output_least.false
    (bytes-played _ _ _ _ _ _ _ _ _ _ c.carried-carried.ensures c.play_bytes.ensures)
