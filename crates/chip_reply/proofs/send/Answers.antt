-- `chip_reply::send` meets its contract: too little room and a part that is not described get nothing, and each reply's arm writes its payloads.
-- Assumes nothing.
use mathlib.Core.Path.{◌∙◌, refl, sym}
use native.Mathlib.Omega.{arith}
use mir.Syntax.{w16}
use Rattle.numbers.proofs.Laws.{le-written}
use Rattle.part.proofs.Laws.{described-is}
use Rattle.chip_reply.proofs.Laws.{said-nothing, send-short, send-undescribed, sends}
use Rattle.chip_reply.specs.Reply.{payloads}
use Rattle.chip_reply.proofs.send.Goals as goal

pub returns-then-room-lt32 : goal.returns-then-room-lt32
returns-then-room-lt32 c = send-short _ _ _ _ (omega arith)

pub returns-then-not-is_described : goal.returns-then-not-is_described
returns-then-not-is_described c = send-undescribed _ _ _ _ (omega arith) (sym c.is_described.ensures ∙ c.if-not-is_described.true)

pub overflow_cast-d : goal.overflow_cast-d
overflow_cast-d c = omega (arith, (described-is _ (sym c.is_described.ensures ∙ c.if-not-is_described.false)).clock-most)

pub returns-in-Silence : goal.returns-in-Silence
unfolding payloads
returns-in-Silence c = sends _ _ _ _ _ _ _ _ (omega arith) (sym c.is_described.ensures ∙ c.if-not-is_described.false) c.in-Silence.is refl (said-nothing _)

pub returns-in-Status : goal.returns-in-Status
unfolding payloads
returns-in-Status c = sends _ _ _ _ _ _ _ _ (omega arith) (sym c.is_described.ensures ∙ c.if-not-is_described.false) c.in-Status.is refl c.send_one.ensures

pub returns-in-BadFrame : goal.returns-in-BadFrame
unfolding payloads
returns-in-BadFrame c = sends _ _ _ _ _ _ _ _ (omega arith) (sym c.is_described.ensures ∙ c.if-not-is_described.false) c.in-BadFrame.is (rw (← c.status.ensures)) c.send_one-in-BadFrame.ensures

pub returns-in-Rate : goal.returns-in-Rate
unfolding payloads
returns-in-Rate c = sends _ _ _ _ _ _ _ _ (omega arith) (sym c.is_described.ensures ∙ c.if-not-is_described.false) c.in-Rate.is refl c.send_one-in-Rate.ensures

pub returns-in-Pair : goal.returns-in-Pair
unfolding payloads
returns-in-Pair c = sends _ _ _ _ _ _ _ _ (omega arith) (sym c.is_described.ensures ∙ c.if-not-is_described.false) c.in-Pair.is refl c.send_one-in-Pair.ensures

pub returns-in-BadPage : goal.returns-in-BadPage
unfolding payloads
returns-in-BadPage c = sends _ _ _ _ _ _ _ _ (omega arith) (sym c.is_described.ensures ∙ c.if-not-is_described.false) c.in-BadPage.is (rw (← c.status-s.ensures)) c.send_one-in-BadPage.ensures

pub returns-in-LastStored : goal.returns-in-LastStored
unfolding payloads
returns-in-LastStored c = sends _ _ _ _ _ _ _ _ (omega arith) (sym c.is_described.ensures ∙ c.if-not-is_described.false) c.in-LastStored.is refl c.send_two.ensures

pub returns-in-Sum : goal.returns-in-Sum
unfolding payloads
returns-in-Sum c =
    let low = c.to_le_bytes-d.ensures ∙ le-written w16 _ in
    sends _ _ _ _ _ _ _ _ (omega arith) (sym c.is_described.ensures ∙ c.if-not-is_described.false) c.in-Sum.is (rw (← low)) c.send_two-in-Sum.ensures

pub returns-in-Signature : goal.returns-in-Signature
unfolding payloads
returns-in-Signature c = sends _ _ _ _ _ _ _ _ (omega arith) (sym c.is_described.ensures ∙ c.if-not-is_described.false) c.in-Signature.is (rw (← c.bytes-d.ensures)) c.send_two-in-Signature.ensures

pub returns-in-Security : goal.returns-in-Security
unfolding payloads
returns-in-Security c = sends _ _ _ _ _ _ _ _ (omega arith) (sym c.is_described.ensures ∙ c.if-not-is_described.false) c.in-Security.is (rw (← c.security-d.ensures)) c.send_two-in-Security.ensures
