-- Events that change what is collected alone, and are answered with nothing: a gap, and a byte after which what is collected is still the front of a frame that is
-- awaited. The next call is accepted then.
-- Assumes nothing.
use mathlib.Core.Bool.{false, true}
use mathlib.Core.List.{List, [], ◌++◌, ◌∷◌}
use mathlib.Core.Path.{◌∙◌, ◌≡◌, ap, refl, sym}
use Prim.Native.Nat.{◌+◌, ◌≤◌, ℕ}
use native.Mathlib.Omega.{arith}
use lib.ListN.{get_or, length, length-append}
use Rattle.chip.proofs.Adding.{Opens, adds-byte, after, collected-good, only-added, verdict_at}
use Rattle.chip.proofs.Settling.{at_gap, completes-is, emptied, step-accepted}
use Rattle.chip.specs.Run.{before}
use Rattle.chip.specs.Step.{reaction, step_of}
use Rattle.chip_frame.specs.Does.{silent}
use Rattle.chip.specs.declared.Event.TheVariants.{Byte, Gap}
use Rattle.chip.specs.Inner.Ways.{completes_at}
use Rattle.chip_core.specs.Effect.{Memory}
use Rattle.chip_core.specs.Hearing.{hearing}
use Rattle.chip_core.specs.declared.Hearing.{Hearing}
use Rattle.chip_state.proofs.Laws.{Begun, FrontFor, accepts, begun, collected-accepted, command-collected, data-collected, front-for, heard-good, none-good}
use Rattle.chip_state.proofs.Laws as state
use Rattle.chip_state.specs.Refusals.{good_collected, good_heard}
use Rattle.chip_state.specs.declared.Chip.{Chip}
use Rattle.frame.proofs.Laws.Collector.{added-count, added-holds, added-places, complete-is, dropped-leaves, heard-byte, heard-holding, heard-none}
use Rattle.frame.specs.Collector.{added, byte_of, dropped, hear, heard, holding}
use Rattle.frame.specs.Frame.{complete, header_byte}
use Rattle.frame.specs.declared.Header.{Header}
use Rattle.frame.specs.declared.Header.TheVariants.{Command, Data}
use Rattle.frame.specs.declared.collector.Collector.{Collector}
use Rattle.part.specs.declared.Part.{Part}
use Rattle.std.specs.Prelude.{Ok}

-- A chip with something else collected.
abbrev pub collects : Chip → Collector → Chip
collects c d = record { core = c.core; collector = d }

-- A gap.
pub gap-drops : (p : Part) (c : Chip) (m : Memory) (room : List ℕ) → verdict_at p c m room ≡ Ok tt
    → before (collects c (dropped c.collector)) m room ≡ step_of p c Gap m room
gap-drops p c m room a =
    step-accepted _ (reaction [] (silent c.core m)) p c Gap Gap m room a refl (at_gap p c.core (heard c.collector) m)
    (emptied p c.collector (dropped c.collector) c.core c.core m room refl (accepts a).roomy)

pub gap-accepted : (p : Part) (c : Chip) (m : Memory) (room : List ℕ) → verdict_at p c m room ≡ Ok tt → verdict_at p (collects c (dropped c.collector)) m room ≡ Ok tt
gap-accepted p c m room a = rw (dropped-leaves c.collector) (collected-accepted p c.core _ 0 _ _ a (none-good (hearing c.core.phase) _ _))

-- A byte that leaves the front of a frame: it completes nothing, and where nothing is collected it opens the frame.
completes-none : (c : Collector) (h : Header) (b : ℕ) → length c.bytes ≡ 260 → Begun c → (c.len ≡ 0 → b ≡ header_byte h) → complete (heard c ++ b ∷ []) ≡ false
    → completes_at c.len (get_or c.bytes 1 0) ≡ false
completes-none c h b l g o e =
    let d : byte_of c h b ≡ holding c (heard c ++ b ∷ []) = sym (adds-byte c h b l g o) ∙ added-holds c (b ∷ []) (omega (arith, g.within)) in
    let hs : hear h (heard c) b ≡ heard c ++ b ∷ [] = sym (heard-byte c h b g.lacks) ∙ ap heard d ∙ heard-holding c (heard c ++ b ∷ []) in
    sym (completes-is c h b l g) ∙ ap complete hs ∙ e

opens-with : (c : Collector) (h : Header) (b : ℕ) → get_or (heard c ++ b ∷ []) 0 0 ≡ header_byte h → c.len ≡ 0 → b ≡ header_byte h
opens-with c h b e z = sym (ap (λ (hs : List ℕ). get_or (hs ++ b ∷ []) 0 0) (heard-none c z)) ∙ e

front-adds : (f : Hearing) (c : Collector) (b : ℕ) → length c.bytes ≡ 260 → good_collected f c.len (get_or c.bytes 0 0) (get_or c.bytes 1 0) ≡ true
    → FrontFor f (length (heard c ++ b ∷ [])) (get_or (heard c ++ b ∷ []) 0 0) (get_or (heard c ++ b ∷ []) 1 0)
    → (completes_at c.len (get_or c.bytes 1 0) ≡ false) × (c.len ≡ 0 → Opens f b)
front-adds f c b l g (state.of_command x) =
    let o = opens-with c Command b x.heads in
    (completes-none c Command b l (begun Command c l (sym (command-collected _ _ _) ∙ g)) o (complete-is _ ∙ x.lacks), o)
front-adds f c b l g (state.of_data {w} x) =
    let o = opens-with c Data b x.heads in
    (completes-none c Data b l (begun Data c l (sym (data-collected w _ _ _) ∙ g)) o (complete-is _ ∙ x.lacks), o)

pub byte-fronts : (p : Part) (c : Chip) (m : Memory) (room : List ℕ) (b : ℕ) → length c.collector.bytes ≡ 260 → verdict_at p c m room ≡ Ok tt
    → good_heard c.core.phase (heard c.collector ++ b ∷ []) ≡ true → before (after c b) m room ≡ step_of p c (Byte b) m room
byte-fronts p c m room b l a g =
    let f = hearing c.core.phase in
    let x = front-adds f c.collector b l (collected-good p c m room a) (front-for f _ _ _ (rw length-append (omega arith)) g) in
    only-added p c m room b l a x.1 x.0

pub fronts-accepted : (p : Part) (c : Chip) (m : Memory) (room bs : List ℕ) → length c.collector.bytes ≡ 260 → c.collector.len + length bs ≤ 260
    → verdict_at p c m room ≡ Ok tt → good_heard c.core.phase (heard c.collector ++ bs) ≡ true
    → verdict_at p (collects c (added c.collector bs)) m room ≡ Ok tt
fronts-accepted p c m room bs l n a g =
    let d = added c.collector bs in
    let e : heard d ≡ heard c.collector ++ bs = ap heard (added-holds c.collector bs n) ∙ heard-holding c.collector (heard c.collector ++ bs) in
    let w : d.len ≤ length d.bytes = omega (arith, added-count c.collector bs l n, added-places c.collector bs l n) in
    collected-accepted p c.core _ d.len _ _ a (heard-good (hearing c.core.phase) d w (rw e g))
