-- `chip_feed::feed` meets its contract: what the bytes still to come make of the last step's outcome stays the same from turn to turn, until one is
-- answered or refused. A turn takes a stretch of bytes that are only added, under one verdict, or one byte by a step.
-- Assumes nothing.
use mathlib.Core.List.{List}
use mathlib.Core.Path.{◌≡◌}
use Prim.Native.Nat.{◌-◌, ◌≤◌, ℕ}
use lib.ListN.{length}
use Rattle.chip.specs.Step.{Outcome}
use Rattle.part.specs.declared.refusal.Refusal.{Refusal}
use Rattle.chip_reply.specs.declared.Sent.{Sent}
use Rattle.std.specs.Prelude.{Result}
use Rattle.chip_core.specs.Effect.{memory}
use Rattle.chip_core.specs.declared.Core.{Core}
use Rattle.chip_feed.proofs.Feeding.{FedFrom}
use Rattle.chip_feed.specs.Feed.{feed_of}
use Rattle.frame.specs.declared.collector.Collector.{Collector}
use Rattle.frame.specs.declared.judgement.Judgement.{Judgement}
use Rattle.chip_feed.proofs.feed.Given as goal

abbrev standing : Core → Collector → Result Sent Refusal → Judgement → List ℕ → List ℕ → List ℕ → List ℕ → Outcome
standing core collector answer fault code extra sums room =
    record { answer = answer; fault = fault; chip = record { core = core; collector = collector }; memory = memory code extra sums; room = room }

abbrev pub invariant-loop-i : goal.invariant-loop-i
invariant-loop-i l =
    (l.i ≤ length l.bytes)
    × (length l.code ≡ length l.initial.code)
    × (length l.data ≡ length l.initial.data)
    × (length l.room ≡ length l.initial.room)
    × (length l.collector.bytes ≡ 260)
    × FedFrom l.part l.bytes l.i (standing l.core l.collector l.answer l.fault l.code l.data l.sums l.room)
    (feed_of l.part l.bytes (standing l.initial.core l.initial.collector l.initial.answer l.initial.fault l.initial.code l.initial.data l.initial.sums l.initial.room))

abbrev pub decreases-loop-i : goal.decreases-loop-i
decreases-loop-i l = length l.bytes - l.i
