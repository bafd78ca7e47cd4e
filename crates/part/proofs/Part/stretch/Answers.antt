-- `part::Part::stretch` meets its contract: from an area's first address no difference goes below 0.
-- Assumes nothing.
use Prim.Native.Nat.{◌-◌, ◌/◌, ◌≤◌}
use native.Mathlib.Nat.{div-le_self}
use native.Mathlib.Omega.{arith}
use borrow.Author.Rules.{rules}
use Rattle.part.proofs.Blocks.{div_mono}
use Rattle.part.proofs.Laws.{WholeIn, first_small, positive, size_small, whole_in}
use Rattle.part.specs.Part.{block_of, stretch}
use Rattle.part.proofs.Part.stretch.Goals as goal

pub overflow_sub-block : goal.overflow_sub-block
overflow_sub-block c =
    let inside : WholeIn c.args.self c.args.area c.args.start c.args.end = whole_in _ _ _ _ c.requires.0 in
    omega (arith, inside.begins)

pub nonzero_div-block : goal.nonzero_div-block
nonzero_div-block c = positive _ _ c.block_size-size.ensures

pub overflow_sub-result : goal.overflow_sub-result
overflow_sub-result c =
    let inside : WholeIn c.args.self c.args.area c.args.start c.args.end = whole_in _ _ _ _ c.requires.0 in
    omega (arith, inside.ends)

pub nonzero_div-result : goal.nonzero_div-result
nonzero_div-result c = positive _ _ c.block_size-size.ensures

pub overflow_add-result : goal.overflow_add-result
overflow_add-result c =
    let inside : WholeIn c.args.self c.args.area c.args.start c.args.end = whole_in _ _ _ _ c.requires.0 in
    omega (
      arith,
      inside.ends,
      size_small c.args.self c.args.area (search rules) (search rules),
      first_small c.args.area,
      div-le_self
          (c.args.end - c.first-first.result) c.block_size-size.result,
    )

pub overflow_sub-result-2 : goal.overflow_sub-result-2
overflow_sub-result-2 c =
    let blocks-in-order : (c.args.start - c.first-first.result) / c.block_size-size.result ≤ (c.args.end - c.first-first.result) / c.block_size-size.result = div_mono _ (positive _ _ c.block_size-size.ensures) _ _ (omega arith) in
    omega (arith, blocks-in-order)

pub returns : goal.returns
unfolding stretch block_of
returns c = simp (← c.first-first.ensures, ← c.block_size-size.ensures)
