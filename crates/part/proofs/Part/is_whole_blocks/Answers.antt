-- `part::Part::is_whole_blocks` meets its contract: each test is the definition's, in its order; a part of an area lies above its first address.
-- Assumes nothing.
use mathlib.Core.Path.{◌∙◌, sym}
use native.Mathlib.Omega.{arith}
use borrow.Author.Rules.{rules}
use Rattle.part.proofs.Laws.{first_small, lies, positive, size_small}
use Rattle.part.specs.Part.{ends_block, starts_block, whole_blocks}
use Rattle.words.specs.Words.{◌and◌}
use Rattle.part.proofs.Part.is_whole_blocks.Goals as goal
use Rattle.part.proofs.Part.is_whole_blocks.Goals.{else-lies_in, else-lies_in-2, then-lies_in, then-lies_in-2}

pub overflow_sub-start : goal.overflow_sub-start
overflow_sub-start c =
    elim c.if-lies_in.branch [
      | then-lies_in w ↦ omega (arith, (lies _ _ _ (sym c.lies_in.ensures ∙ w.if-lies_in.true)).low)
      | else-lies_in w ↦ search rules
    ]

pub overflow_add-result : goal.overflow_add-result
overflow_add-result c =
    elim c.if-lies_in-2.branch [
      | then-lies_in-2 w ↦
          elim c.if-lies_in.branch [
            | then-lies_in v ↦ omega (arith, (lies _ _ _ (sym v.lies_in-then-lies_in.ensures ∙ sym v.value-is ∙ w.if-lies_in-2.true)).high, size_small c.args.self c.args.area (search rules) (search rules), first_small c.args.area)
            | else-lies_in v ↦ search rules
          ]
      | else-lies_in-2 w ↦ search rules
    ]

pub overflow_sub-result : goal.overflow_sub-result
overflow_sub-result c =
    elim c.if-lies_in-2.branch [
      | then-lies_in-2 w ↦
          elim c.if-lies_in.branch [
            | then-lies_in v ↦ omega (arith, (lies _ _ _ (sym v.lies_in-then-lies_in.ensures ∙ sym v.value-is ∙ w.if-lies_in-2.true)).low)
            | else-lies_in v ↦ search rules
          ]
      | else-lies_in-2 w ↦ search rules
    ]

pub nonzero_rem-start : goal.nonzero_rem-start
nonzero_rem-start c = positive _ _ c.block_size-size.ensures

pub nonzero_rem-result : goal.nonzero_rem-result
nonzero_rem-result c = positive _ _ c.block_size-size.ensures

pub returns-then-start-first-eq0 : goal.returns-then-start-first-eq0
unfolding whole_blocks starts_block ends_block ◌and◌
returns-then-start-first-eq0 c = search rules

pub returns-else-start-first-eq0 : goal.returns-else-start-first-eq0
unfolding whole_blocks starts_block ends_block ◌and◌
returns-else-start-first-eq0 c = search rules
