-- `engine::play_stretch` meets its contract: a frame that the chip holds the begin of is joined and answered first; the rest is played where it lies.
-- Assumes nothing.
use mathlib.Core.List.{List, [], ◌++◌}
use mathlib.Core.Path.{◌∙◌, ◌≡◌, ap, refl, subst, sym}
use Prim.Native.Nat.{◌-◌, ◌<◌, ℕ}
use native.Mathlib.Omega.{arith}
use lib.ListN.{drop, length, length-drop}
use borrow.Author.Rules.{rules}
use Rattle.chip_core.specs.Effect.{memory}
use Rattle.chip_state.proofs.Laws.{accepts}
use Rattle.engine.proofs.Ending.{handed-back}
use Rattle.engine.proofs.Joining.{Joined, from_start, held-within, joined}
use Rattle.engine.proofs.Loop.{ahead-is, past-on}
use Rattle.engine.proofs.Turns.{play-held}
use Rattle.engine.specs.Engine.{Plain, Stand, after_frame, begins, facing, played_out}
use Rattle.engine.specs.declared.ToldSoFar.{ToldSoFar}
use Rattle.frame.proofs.Laws.Collector.{heard-none}
use Rattle.frame.specs.Collector.{heard}
use Rattle.frame.specs.declared.judgement.Judgement.TheVariants.{Good}
use Rattle.engine.specs.Inner.Answering.{for_each}
use Rattle.engine.proofs.play_stretch.Goals as goal

pub play_from-reached-requires : goal.play_from-reached-requires
play_from-reached-requires c = ((accepts c.requires.0).part, omega arith, for_each (record { left = omega (arith, c.requires.1); framed = omega arith }), omega arith)

pub returns-then-count-eq0 : goal.returns-then-count-eq0
returns-then-count-eq0 c =
    let nothing : heard c.args.chip.collector ≡ [] = heard-none c.args.chip.collector c.if-count-eq0.true in
    let x : Plain = begins c.args.chip c.args.bytes.now (memory c.args.code.now c.args.«data».now c.args.sums.now) in
    handed-back _ _ _ _ _ _ _ _ c.args.chip _ (played_out c.args.part x) c.ended.ensures (ahead-is c.args.bytes.now c.play_from-reached.result.at)
    (c.play_from-reached.ensures.0 ∙ ap (λ (hs : List ℕ). played_out c.args.part (facing (hs ++ c.args.bytes.now) x.stands)) (sym nothing)) c.play_from-reached.ensures.3

pub begin-begun-requires : goal.begin-begun-requires
begin-begun-requires c =
    let within : c.args.chip.collector.len < 260 = held-within c.args.part c.args.chip (length c.args.code.now) (length c.args.«data».now) c.requires.0 in
    omega (arith, within)

pub slice_bounds-whole-end : goal.slice_bounds-whole-end
slice_bounds-whole-end c =
    let begun-long : length c.begin-begun.result.bytes ≡ 260 = search rules in
    omega (arith, c.begin-begun.ensures.1, begun-long)

pub slice_bounds-ended-end-then-n-eq0 : goal.slice_bounds-ended-end-then-n-eq0
slice_bounds-ended-end-then-n-eq0 c =
    let begun-long : length c.begin-begun.result.bytes ≡ 260 = search rules in
    omega (arith, c.begin-begun.ensures.1, begun-long)

pub ended-requires-then-n-eq0 : goal.ended-requires-then-n-eq0
ended-requires-then-n-eq0 c =
    let long : length c.args.chip.collector.bytes ≡ 260 = search rules in
    let join : Joined c.args.part c.args.chip c.args.bytes.now c.begin-begun.result.bytes c.begin-begun.result.len c.whole-n.result = joined c.args.part c.args.chip c.args.bytes.now c.begin-begun.result.bytes c.begin-begun.result.len c.whole-n.result
    (length c.args.code.now) (length c.args.«data».now) c.requires.0 long c.if-count-eq0.false
    c.begin-begun.ensures.0 c.begin-begun.ensures.1 c.whole-n.ensures.0 c.whole-n.ensures.1 in
    subst (λ (x : List ℕ). length x < 260) (sym (from_start c.begin-begun.result.len c.begin-begun.result.bytes)) (join.short c.if-n-eq0.true)

pub returns-then-n-eq0 : goal.returns-then-n-eq0
returns-then-n-eq0 c =
    let long : length c.args.chip.collector.bytes ≡ 260 = search rules in
    let join : Joined c.args.part c.args.chip c.args.bytes.now c.begin-begun.result.bytes c.begin-begun.result.len c.whole-n.result = joined c.args.part c.args.chip c.args.bytes.now c.begin-begun.result.bytes c.begin-begun.result.len c.whole-n.result
    (length c.args.code.now) (length c.args.«data».now) c.requires.0 long c.if-count-eq0.false
    c.begin-begun.ensures.0 c.begin-begun.ensures.1 c.whole-n.ensures.0 c.whole-n.ensures.1 in
    let nothing : ToldSoFar = record { bytes = 0; frames = 0; faults = 0; first = Good } in
    handed-back _ nothing nothing _ c.args.room.now c.args.room.now _ _ c.args.chip _ (played_out c.args.part (begins c.args.chip c.args.bytes.now (memory c.args.code.now c.args.«data».now c.args.sums.now))) c.ended-then-n-eq0.ensures
    (from_start c.begin-begun.result.len c.begin-begun.result.bytes ∙ join.none c.if-n-eq0.true)
    (sym (play-held c.args.part (begins c.args.chip c.args.bytes.now (memory c.args.code.now c.args.«data».now c.args.sums.now)) (join.holds c.if-n-eq0.true))) (record { grows = omega arith; lies = omega arith; stays = refl })

pub slice_bounds-answer-end : goal.slice_bounds-answer-end
slice_bounds-answer-end c =
    let begun-long : length c.begin-begun.result.bytes ≡ 260 = search rules in
    let long : length c.args.chip.collector.bytes ≡ 260 = search rules in
    let join : Joined c.args.part c.args.chip c.args.bytes.now c.begin-begun.result.bytes c.begin-begun.result.len c.whole-n.result = joined c.args.part c.args.chip c.args.bytes.now c.begin-begun.result.bytes c.begin-begun.result.len c.whole-n.result
    (length c.args.code.now) (length c.args.«data».now) c.requires.0 long c.if-count-eq0.false
    c.begin-begun.ensures.0 c.begin-begun.ensures.1 c.whole-n.ensures.0 c.whole-n.ensures.1 in
    omega (arith, (join.past c.if-n-eq0.false).1, c.begin-begun.ensures.1, begun-long)

pub answer-done-requires : goal.answer-done-requires
answer-done-requires c =
    let long : length c.args.chip.collector.bytes ≡ 260 = search rules in
    let join : Joined c.args.part c.args.chip c.args.bytes.now c.begin-begun.result.bytes c.begin-begun.result.len c.whole-n.result = joined c.args.part c.args.chip c.args.bytes.now c.begin-begun.result.bytes c.begin-begun.result.len c.whole-n.result
    (length c.args.code.now) (length c.args.«data».now) c.requires.0 long c.if-count-eq0.false
    c.begin-begun.ensures.0 c.begin-begun.ensures.1 c.whole-n.ensures.0 c.whole-n.ensures.1 in
    let w = join.past c.if-n-eq0.false in
    ((accepts c.requires.0).part, record { left = omega (arith, c.requires.1, w.0, w.2); framed = omega arith }, omega arith)

pub overflow_sub-n : goal.overflow_sub-n
overflow_sub-n c =
    let long : length c.args.chip.collector.bytes ≡ 260 = search rules in
    let join : Joined c.args.part c.args.chip c.args.bytes.now c.begin-begun.result.bytes c.begin-begun.result.len c.whole-n.result = joined c.args.part c.args.chip c.args.bytes.now c.begin-begun.result.bytes c.begin-begun.result.len c.whole-n.result
    (length c.args.code.now) (length c.args.«data».now) c.requires.0 long c.if-count-eq0.false
    c.begin-begun.ensures.0 c.begin-begun.ensures.1 c.whole-n.ensures.0 c.whole-n.ensures.1 in
    omega (arith, (join.past c.if-n-eq0.false).0)

pub play_from-reached-requires-2 : goal.play_from-reached-requires-2
play_from-reached-requires-2 c =
    let long : length c.args.chip.collector.bytes ≡ 260 = search rules in
    let join : Joined c.args.part c.args.chip c.args.bytes.now c.begin-begun.result.bytes c.begin-begun.result.len c.whole-n.result = joined c.args.part c.args.chip c.args.bytes.now c.begin-begun.result.bytes c.begin-begun.result.len c.whole-n.result
    (length c.args.code.now) (length c.args.«data».now) c.requires.0 long c.if-count-eq0.false
    c.begin-begun.ensures.0 c.begin-begun.ensures.1 c.whole-n.ensures.0 c.whole-n.ensures.1 in
    let w = join.past c.if-n-eq0.false in (
      (accepts c.requires.0).part,
      omega (arith, w.2),
      for_each (record { left = omega (arith, c.answer-done.ensures.3, c.answer-done.auto.room, c.requires.1, w.0, w.2, length-drop (c.whole-n.result - c.args.chip.collector.len) c.args.bytes.now); framed = c.answer-done.ensures.1.framed }),
      omega (arith, c.answer-done.ensures.4, w.0),
    )

pub returns : goal.returns
returns c =
    let long : length c.args.chip.collector.bytes ≡ 260 = search rules in
    let join : Joined c.args.part c.args.chip c.args.bytes.now c.begin-begun.result.bytes c.begin-begun.result.len c.whole-n.result = joined c.args.part c.args.chip c.args.bytes.now c.begin-begun.result.bytes c.begin-begun.result.len c.whole-n.result
    (length c.args.code.now) (length c.args.«data».now) c.requires.0 long c.if-count-eq0.false
    c.begin-begun.ensures.0 c.begin-begun.ensures.1 c.whole-n.ensures.0 c.whole-n.ensures.1 in
    let x : Plain = begins c.args.chip c.args.bytes.now (memory c.args.code.now c.args.«data».now c.args.sums.now) in
    handed-back _ _ _ _ _ _ _ _ c.args.chip _ (played_out c.args.part x) c.ended-2.ensures (ahead-is c.args.bytes.now c.play_from-reached-2.result.at)
    (c.play_from-reached-2.ensures.0
    ∙ ap (λ (s : Stand). played_out c.args.part (facing (drop (c.whole-n.result - c.args.chip.collector.len) c.args.bytes.now) s))
    (c.answer-done.ensures.0 ∙ ap (λ (y : List ℕ). after_frame c.args.part y x.stands) (from_start c.whole-n.result c.begin-begun.result.bytes))
    ∙ sym (join.on c.if-n-eq0.false x.stands refl))
    (past-on c.answer-done.ensures.2 c.play_from-reached-2.ensures.3)
