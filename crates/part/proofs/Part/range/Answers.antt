-- `part::Part::range` meets its contract: each test is the definition's, in its order.
-- Assumes nothing.
use mathlib.Core.Path.{◌∙◌, sym}
use borrow.Author.Tests.{le-ltb, lt-ltb}
use Rattle.part.specs.Part.{range_of}
use Rattle.words.specs.Words.{if◌then◌otherwise◌}
use Rattle.part.proofs.Part.range.Goals as goal

pub returns-then-end-start : goal.returns-then-end-start
unfolding range_of if◌then◌otherwise◌
returns-then-end-start c = simp (lt-ltb _ _ c.if-end-start.true)

pub stretch-requires : goal.stretch-requires
stretch-requires c = (sym c.is_whole_blocks.ensures ∙ c.if-is_whole_blocks.true, c.if-end-start.false)

pub returns-then-is_whole_blocks : goal.returns-then-is_whole_blocks
unfolding range_of if◌then◌otherwise◌
returns-then-is_whole_blocks c = simp (le-ltb _ _ c.if-end-start.false, ← c.is_whole_blocks.ensures, c.if-is_whole_blocks.true, ← c.stretch.ensures)

pub stretch-requires-then-is_whole_blocks-2 : goal.stretch-requires-then-is_whole_blocks-2
stretch-requires-then-is_whole_blocks-2 c = (sym c.is_whole_blocks-2.ensures ∙ c.if-is_whole_blocks-2.true, c.if-end-start.false)

pub returns-then-is_whole_blocks-2 : goal.returns-then-is_whole_blocks-2
unfolding range_of if◌then◌otherwise◌
returns-then-is_whole_blocks-2 c =
    let if1 = c.if-end-start in
    let is-whole-blocks = c.is_whole_blocks in
    let if2 = c.if-is_whole_blocks in
    simp (le-ltb _ _ if1.false, ← is-whole-blocks.ensures, if2.false, ← c.is_whole_blocks-2.ensures, c.if-is_whole_blocks-2.true, ← c.stretch-then-is_whole_blocks-2.ensures)

pub returns : goal.returns
unfolding range_of if◌then◌otherwise◌
returns c = simp (le-ltb _ _ c.if-end-start.false, ← c.is_whole_blocks.ensures, c.if-is_whole_blocks.false, ← c.is_whole_blocks-2.ensures, c.if-is_whole_blocks-2.false)
