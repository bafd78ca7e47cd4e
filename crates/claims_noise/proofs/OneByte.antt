-- One changed byte: the proof of `OneByteChanged` for the definition of demand 2.
-- Assumes nothing.
use mathlib.Core.Bool.{Bool, false, not, true}
use mathlib.Core.List.{List, [], ◌++◌, ◌∷◌, map}
use mathlib.Core.Path.{◌∙◌, ◌≡◌, ap, refl, sym}
use Prim.Native.Nat.{◌+◌, ◌-◌, ◌<◌, suc, zero, ℕ}
use lib.Dec.{eqb}
use lib.ListN.{length, replicate, set}
use Rattle.chip.specs.Run.{answers, run}
use Rattle.chip.specs.Step.{Outcome, step_of}
use Rattle.chip.specs.declared.Event.TheVariants.{Byte}
use Rattle.claims_frame.proofs.Framing.{frame-heard}
use Rattle.claims_frame.proofs.OneByte.{one-changed}
use Rattle.claims_frame.specs.OneByte.{AfterLen, fault_changed}
use Rattle.claims_good.proofs.Rooms.{leaves}
use Rattle.claims_good.proofs.Stays.{run-stands}
use Rattle.claims_good.specs.Good.{Stands, Utterance}
use Rattle.claims_fed.proofs.Bad.{bad-frame-does}
use Rattle.claims_fed.specs.Fed.{bad_core, blames, does_in, silence}
use Rattle.claims_noise.proofs.Claims.{over-stands}
use Rattle.claims_fed.proofs.Frames.{bytes-proper, fed-is-done}
use Rattle.claims_fed.specs.Awaits.{Awaits, AwaitsFrame, a_command, a_page, awaits_in, command, good_for, header_in, in_ready, in_setup, judged_in, page}
use Rattle.claims_noise.proofs.Rooms.{as-if, run-by, says-by}
use Rattle.claims_noise.specs.Claims.{OneByteChanged, after_bad, command_over}
use Rattle.chip_core.specs.declared.Phase.{Phase}
use Rattle.chip_core.specs.declared.Phase.TheVariants.{Awaiting, ModeByte, Ready, Setup}
use Rattle.frame.proofs.Laws.Collector.{heard-none}
use Rattle.frame.proofs.Laws.Judgement.{is-good}
use Rattle.frame.proofs.Laws.Sum.{Below, more, none}
use Rattle.frame.specs.Frame.{overhead}
use Rattle.frame.specs.Judgement.{fitting, is_good, judge_of}
use Rattle.frame.specs.declared.Footer.{Footer}
use Rattle.frame.specs.declared.Footer.TheVariants.{Last}
use Rattle.frame.specs.declared.collector.Collector.{Collector}
use Rattle.frame.specs.declared.judgement.Judgement.{Judgement}
use Rattle.frame.specs.declared.judgement.Judgement.TheVariants.{Good, UnfitLength, WrongFooter, WrongSum}
use Rattle.part.specs.declared.Part.{Part}
use Rattle.words.specs.Words.{◌and◌, if◌then◌otherwise◌}

fitting-good : (n : ℕ) (bs : List ℕ) (j : Judgement) → is_good (fitting n bs j) ≡ true → is_good j ≡ true
unfolding fitting if◌then◌otherwise◌ ◌and◌
fitting-good n bs j e = go (is_good j) refl e
  where
    go : (t : Bool) → is_good j ≡ t → is_good (if t and not (eqb (length bs) (n + overhead)) then UnfitLength otherwise j) ≡ true → t ≡ true
    go true q g = refl
    go false q g = sym q ∙ g

fitting-bad : (n : ℕ) (bs : List ℕ) (j : Judgement) → is_good j ≡ false → fitting n bs j ≡ j
unfolding fitting if◌then◌otherwise◌ ◌and◌
fitting-bad n bs j e = ap (λ (t : Bool). if t and not (eqb (length bs) (n + overhead)) then UnfitLength otherwise j) e

-- The footer that is awaited.
pub footer_in : Awaits → Footer
footer_in a_command = Last
footer_in (a_page f n) = f

pub good-judged : (a : Awaits) (bs : List ℕ) → good_for a bs ≡ true → judge_of (footer_in a) bs ≡ Good
unfolding good_for footer_in
good-judged a_command bs e = is-good (judge_of Last bs) e
good-judged (a_page f n) bs e = is-good (judge_of f bs) (fitting-good n bs (judge_of f bs) e)

-- Footer and SUM are judged first, and a fault of theirs is the frame's.
bad-judged : (a : Awaits) (bs : List ℕ) (j : Judgement) → judge_of (footer_in a) bs ≡ j → is_good j ≡ false → judged_in a bs ≡ j
unfolding footer_in
bad-judged a_command bs j e b = e
bad-judged (a_page f n) bs j e b = ap (fitting n bs) e ∙ fitting-bad n bs j b

change-bad : (bs : List ℕ) (i : ℕ) → is_good (fault_changed bs i) ≡ false
unfolding fault_changed if◌then◌otherwise◌
change-bad bs i = go (eqb i (length bs - 1))
  where
    go : (t : Bool) → is_good (if t then WrongFooter (length bs - 1) otherwise WrongSum (length bs - 2)) ≡ false
    go true = refl
    go false = refl

below_set : {m : ℕ} {bs : List ℕ} (i v : ℕ) → v < m → Below m bs → Below m (set bs i v)
below_set i v h none = none
below_set zero v h (more k r) = more h r
below_set (suc i) v h (more k r) = more k (below_set i v h r)

-- The state that a bad frame leaves.
after-core : (o : Outcome) → AwaitsFrame o.chip.core.phase → (after_bad o.chip.core.phase o).chip.core ≡ bad_core o.chip.core.phase o.chip.core
unfolding bad_core command_over
after-core o a = go o.chip.core.phase a
  where
    go : (f : Phase) → AwaitsFrame f → (after_bad f o).chip.core ≡ bad_core f o.chip.core
    go f (command in_setup) = refl
    go f (command in_ready) = refl
    go f (page w) = refl

after-memory : (f : Phase) (o : Outcome) → (after_bad f o).memory ≡ o.memory
unfolding command_over
after-memory ModeByte o = refl
after-memory Setup o = refl
after-memory Ready o = refl
after-memory (Awaiting w) o = refl

after-count : (f : Phase) (o : Outcome) → (after_bad f o).chip.collector ≡ o.chip.collector
unfolding command_over
after-count ModeByte o = refl
after-count Setup o = refl
after-count Ready o = refl
after-count (Awaiting w) o = refl

after-stands : (p : Part) (f : Phase) (o : Outcome) → Stands p o → o.chip.collector.len ≡ 0 → Stands p (after_bad f o)
after-stands p ModeByte o s n = s
after-stands p Setup o s n = s
after-stands p Ready o s n = s
after-stands p (Awaiting w) o s n = over-stands p o s n

pub one-byte-changed : OneByteChanged step_of
unfolding does_in good_for
one-byte-changed p o f i v a n =
    let b = awaits_in o.chip.core.phase in
    let h = header_in o.chip.core.phase in
    let k : AfterLen (footer_in b) f i v =
    record { good = good-judged b f n.good; bytes = n.bytes; after = n.after; inside = n.inside; small = n.small; changed = n.changed } in
    let c = one-changed (footer_in b) f i v k in
    let j = fault_changed f i in
    let judged = bad-judged b (set f i v) j c.fault (change-bad f i) in
    let bad : good_for b (set f i v) ≡ false = ap (λ (j : Judgement). is_good j) judged ∙ change-bad f i in
    let below = below_set i v n.small n.bytes in
    let g = fed-is-done p o (set f i v) n.stands a n.nothing c.frame (c.header ∙ n.header) below in
    let x = bad-frame-does o.chip.core.phase p o.chip.core o.memory (set f i v) a bad in
    let t : Outcome = run p (map Byte (set f i v)) o in
    let q = after-count o.chip.core.phase o in
    let r : (after_bad o.chip.core.phase o).chip.collector.len ≡ 0 = ap (λ (c : Collector). c.len) q ∙ n.nothing in
    let st = run-stands p (map Byte (set f i v)) o n.stands (bytes-proper below) in
    record {
      alone = (frame-heard h (set f i v) c.frame (c.header ∙ n.header)).alone;
      judged = judged;
      bad = bad;
      answers =
          says-by p (map Byte (set f i v)) o ∙ g.answers
          ∙ ap (λ (z : Utterance). replicate (length (set f i v) - 1) silence ++ z ∷ []) (x.utters ∙ ap (blames o.chip.core.phase) judged);
      leaves =
          rw (run-by p (map Byte (set f i v)) o)
          (as-if p (after_bad o.chip.core.phase o) t (after-stands p o.chip.core.phase o n.stands n.nothing) st
          (record {
            core = after-core o a ∙ sym (g.core ∙ x.core);
            count = r ∙ sym g.count;
            hears = heard-none (after_bad o.chip.core.phase o).chip.collector r ∙ sym (heard-none t.chip.collector g.count);
            memory = after-memory o.chip.core.phase o ∙ sym (g.memory ∙ x.memory);
          }));
    }
