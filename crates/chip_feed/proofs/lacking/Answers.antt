-- `chip_feed::lacking` meets its contract: after the header one byte, else as many as the frame layer says; and a LEN is a byte.
-- Assumes nothing.
use Prim.Native.Nat.{◌≤◌}
use borrow.Author.Rules.{rules}
use borrow.Author.Tests.{eq-eqb, ne_eqb}
use Rattle.chip_feed.specs.Inner.Turn.{added_next}
use Rattle.frame.proofs.Laws.Frame.{counted-small}
use Rattle.frame.specs.Frame.{counted}
use Rattle.words.specs.Words.{if◌then◌otherwise◌}
use Rattle.chip_feed.proofs.lacking.Goals as goal

pub returns-then-count-eq1 : goal.returns-then-count-eq1
unfolding added_next if◌then◌otherwise◌
returns-then-count-eq1 c =
    let small : counted c.args.len ≤ 256 = counted-small c.args.len (search rules) in
    (simp (eq-eqb _ _ c.if-count-eq1.true), small)

pub returns : goal.returns
unfolding added_next if◌then◌otherwise◌
returns c =
    let small : counted c.args.len ≤ 256 = counted-small c.args.len (search rules) in
    (simp (ne_eqb _ _ c.if-count-eq1.false, ← c.lacking.ensures), small)
