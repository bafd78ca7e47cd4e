-- Noise changes nothing: the proofs of `NoiseAtCommand`, `NoiseAtData` and `NoiseBranches` for the definition of demand 2.
-- Assumes nothing.
use mathlib.Core.Bool.{Bool, false, false≢true, not, true}
use mathlib.Core.List.{List, [], ◌++◌, ◌∷◌, map}
use mathlib.Core.Path.{◌∙◌, ◌≡◌, ap, refl, subst, sym}
use Prim.Native.Nat.{ℕ}
use Rattle.chip.specs.Run.{onward, run}
use Rattle.chip.specs.Step.{Outcome, react_to}
use Rattle.chip.specs.declared.Event.{Event}
use Rattle.chip.specs.declared.Event.TheVariants.{Gap}
use Rattle.claims_frame.proofs.Framing.{Same, nothing}
use Rattle.claims_good.proofs.Rooms.{leaves, reaction_of}
use Rattle.claims_good.proofs.Stays.{run-stands, stays}
use Rattle.claims_good.specs.Good.{AllProper, Proper, Stands, a_gap, and_event}
use Rattle.claims_fed.proofs.Bad.{bad-frame-does}
use Rattle.claims_fed.specs.Fed.{bad_core}
use Rattle.claims_fed.proofs.Steps.{Stepped, frame_done, only_heard, stepped}
use Rattle.claims_fed.specs.Awaits.{Awaits, AwaitsFrame, awaits_in, command, event_of, good_for, header_in, in_ready, in_setup, page}
use Rattle.claims_noise.proofs.Collected.{Leads, chip-stood, leads-frames, leads-quiet}
use Rattle.claims_noise.specs.Claims.{Line, Noise, NoiseAfter, line_after, with_collected}
use Rattle.claims_noise.specs.Noise.{allows, completes_only, empty, no_frame, permitted, then_awaits, then_gap}
use Rattle.chip_pages.specs.Pages.{ready}
use Rattle.chip_core.specs.declared.Core.{Core}
use Rattle.chip_core.specs.declared.Phase.{Phase}
use Rattle.chip_core.specs.declared.Phase.TheVariants.{Awaiting, ModeByte, Ready, Setup}
use Rattle.frame.proofs.Laws.Collector.{heard-none}
use Rattle.frame.specs.Collector.{heard}
use Rattle.frame.specs.Framing.{Framing, Sound, byte, frames, framing, idle}
use Rattle.frame.specs.declared.Header.TheVariants.{Data}
use Rattle.part.specs.declared.Part.{Part}
use Rattle.words.proofs.Laws.{and_left, and_right}
use Rattle.words.specs.Words.{◌and◌, ◌or◌, if◌then◌otherwise◌}

-- The record that noise leaves, from a place in a frame.
unfoldable pub left_in : Phase → Core → Framing → List Sound → Core
left_in ModeByte k w vs = k
left_in Setup k w vs = k
left_in Ready k w vs = k
left_in (Awaiting x) k w vs = if empty (frames Data w vs) then k otherwise ready k

unfoldable pub left_core : Core → Framing → List Sound → Core
left_core k w vs = left_in k.phase k w vs

pub record Left (u : Outcome) (w : Framing) (vs : List Sound) (t : Outcome) : Type 0 where
  pub core : t.chip.core ≡ left_core u.chip.core w vs
  pub memory : t.memory ≡ u.memory
  pub frame : AwaitsFrame t.chip.core.phase
  pub awaits : awaits_in t.chip.core.phase ≡ (line_after (awaits_in u.chip.core.phase) w vs).awaits
  pub same : Same (line_after (awaits_in u.chip.core.phase) w vs).stands (heard t.chip.collector)

-- A sound that completes nothing.
left-on : (k : Core) (w : Framing) (v : Sound) (vs : List Sound) → AwaitsFrame k.phase → (framing (header_in k.phase) w v).done ≡ []
    → left_core k w (v ∷ vs) ≡ left_core k (framing (header_in k.phase) w v).stands vs
unfolding left_core left_in frames
left-on k w v vs a e = go k.phase a e
  where
    go : (f : Phase) → AwaitsFrame f → (framing (header_in f) w v).done ≡ [] → left_in f k w (v ∷ vs) ≡ left_in f k (framing (header_in f) w v).stands vs
    go f (command in_setup) e = refl
    go f (command in_ready) e = refl
    go f (page x) e = ap (λ (ds : List (List ℕ)). if empty (ds ++ frames Data (framing Data w v).stands vs) then k otherwise ready k) e

-- A sound that completes a bad frame.
left-bad : (k : Core) (w x : Framing) (v : Sound) (vs : List Sound) (f : List ℕ) (fs : List (List ℕ)) → AwaitsFrame k.phase
    → (framing (header_in k.phase) w v).done ≡ f ∷ fs → left_core k w (v ∷ vs) ≡ left_core (bad_core k.phase k) x vs
unfolding left_core left_in frames bad_core empty if◌then◌otherwise◌
left-bad k w x v vs f fs a e = go k.phase refl a e
  where
    go : (g : Phase) → k.phase ≡ g → AwaitsFrame g → (framing (header_in g) w v).done ≡ f ∷ fs → left_in g k w (v ∷ vs) ≡ left_in (bad_core g k).phase (bad_core g k) x vs
    go g q (command in_setup) e = rw q
    go g q (command in_ready) e = rw q
    go g q (page y) e = ap (λ (ds : List (List ℕ)). if empty (ds ++ frames Data (framing Data w v).stands vs) then k otherwise ready k) e

-- Where no frame is allowed, a completed frame is bad.
none_allowed : (a : Awaits) (f : List ℕ) (fs : List (List ℕ)) (end : Bool) → permitted no_frame a (f ∷ fs) end ≡ true → good_for a f ≡ false
unfolding permitted allows ◌or◌ ◌and◌
none_allowed a f fs end e = go (good_for a f) e
  where
    go : (t : Bool) → not t or false and end ≡ true → t ≡ false
    go true e = absurd (false≢true e)
    go false e = refl

bad-awaits : (f : Phase) (k : Core) → AwaitsFrame f → k.phase ≡ f → AwaitsFrame (bad_core f k).phase
unfolding bad_core
bad-awaits f k (command in_setup) e = rw e (command in_setup)
bad-awaits f k (command in_ready) e = rw e (command in_ready)
bad-awaits f k (page w) e = command in_ready

bad-next : (f : Phase) (k : Core) (g : List ℕ) (gs : List (List ℕ)) → AwaitsFrame f → k.phase ≡ f → then_awaits (awaits_in f) (g ∷ gs) ≡ awaits_in (bad_core f k).phase
unfolding bad_core then_awaits
bad-next f k g gs (command in_setup) e = rw e
bad-next f k g gs (command in_ready) e = rw e
bad-next f k g gs (page w) e = refl

left-none : (k : Core) (w : Framing) → left_core k w [] ≡ k
unfolding left_core left_in frames empty if◌then◌otherwise◌
left-none k w = go k.phase
  where
    go : (f : Phase) → left_in f k w [] ≡ k
    go ModeByte = refl
    go Setup = refl
    go Ready = refl
    go (Awaiting x) = refl

-- What the rest of a noise does, from the state that its first sound leaves.
Rest : Part → List Sound → Outcome → Type 0
Rest p vs u =
    (w : Framing) → Stands p u → AwaitsFrame u.chip.core.phase → Same w (heard u.chip.collector)
    → completes_only no_frame (awaits_in u.chip.core.phase) w vs ≡ true → Left u w vs (run p (map event_of vs) u)

module _ (p : Part) (v : Sound) (vs : List Sound) (u : Outcome) (w : Framing) (s : Stands p u) (a : AwaitsFrame u.chip.core.phase)
    (h : Proper (event_of v)) (rest : Rest p vs (onward p u (event_of v)))
    (e : completes_only no_frame (awaits_in u.chip.core.phase) w (v ∷ vs) ≡ true) where
  permits : permitted no_frame (awaits_in u.chip.core.phase) (framing (header_in u.chip.core.phase) w v).done (empty vs) ≡ true
  unfolding completes_only
  permits = and_left _ _ e

  rests : completes_only no_frame (then_awaits (awaits_in u.chip.core.phase) (framing (header_in u.chip.core.phase) w v).done)
      (framing (header_in u.chip.core.phase) w v).stands vs ≡ true
  unfolding completes_only
  rests = and_right _ _ e

  -- The rest, where the record is now k.
  resting : (k : Core) → (onward p u (event_of v)).chip.core ≡ k → AwaitsFrame k.phase
      → Same (framing (header_in u.chip.core.phase) w v).stands (heard (onward p u (event_of v)).chip.collector)
      → then_awaits (awaits_in u.chip.core.phase) (framing (header_in u.chip.core.phase) w v).done ≡ awaits_in k.phase
      → Left (onward p u (event_of v)) (framing (header_in u.chip.core.phase) w v).stands vs (run p (map event_of vs) (onward p u (event_of v)))
  unfolding Rest
  resting k c b m t =
      let x = (framing (header_in u.chip.core.phase) w v).stands in
      rest x (stays p u (event_of v) s h) (rw c b) m
      (ap (λ (l : Core). completes_only no_frame (awaits_in l.phase) x vs) c ∙ ap (λ (y : Awaits). completes_only no_frame y x vs) (sym t) ∙ rests)

  -- The line after the rest is the line after all.
  line-is : (k : Core) → (onward p u (event_of v)).chip.core ≡ k
      → then_awaits (awaits_in u.chip.core.phase) (framing (header_in u.chip.core.phase) w v).done ≡ awaits_in k.phase
      → line_after (awaits_in (onward p u (event_of v)).chip.core.phase) (framing (header_in u.chip.core.phase) w v).stands vs
      ≡ line_after (awaits_in u.chip.core.phase) w (v ∷ vs)
  unfolding line_after
  line-is k c t =
      let x = (framing (header_in u.chip.core.phase) w v).stands in
      ap (λ (l : Core). line_after (awaits_in l.phase) x vs) c ∙ ap (λ (y : Awaits). line_after y x vs) (sym t)

  one-sound : Stepped p u v w → Left u w (v ∷ vs) (run p (map event_of vs) (onward p u (event_of v)))
  unfolding then_awaits
  one-sound (only_heard d g) =
      let x = (framing (header_in u.chip.core.phase) w v).stands in
      let z = ap (then_awaits (awaits_in u.chip.core.phase)) d in
      let l = resting u.chip.core g.core a g.same z in
      let y = line-is u.chip.core g.core z in
      record {
        frame = l.frame;
        awaits = l.awaits ∙ ap (λ (x : Line). x.awaits) y;
        same = rw y at l.same;
        core = l.core ∙ ap (λ (k : Core). left_core k x vs) g.core ∙ sym (left-on u.chip.core w v vs a d);
        memory = l.memory ∙ g.memory;
      }
  one-sound (frame_done f fs d g) =
      let x = (framing (header_in u.chip.core.phase) w v).stands in
      let bad = none_allowed (awaits_in u.chip.core.phase) f fs (empty vs) (rw d at permits) in
      let b = bad-frame-does u.chip.core.phase p u.chip.core u.memory f a bad in
      let k : Core = bad_core u.chip.core.phase u.chip.core in
      let z = ap (then_awaits (awaits_in u.chip.core.phase)) d ∙ bad-next u.chip.core.phase u.chip.core f fs a refl in
      let l = resting k (g.core ∙ b.core) (bad-awaits u.chip.core.phase u.chip.core a refl) g.same z in
      let y = line-is k (g.core ∙ b.core) z in
      record {
        frame = l.frame;
        awaits = l.awaits ∙ ap (λ (x : Line). x.awaits) y;
        same = rw y at l.same;
        core = l.core ∙ ap (λ (k : Core). left_core k x vs) (g.core ∙ b.core) ∙ sym (left-bad u.chip.core w x v vs f fs a d);
        memory = l.memory ∙ g.memory ∙ b.memory;
      }

-- The whole of a noise.
pub noise-run : (p : Part) (vs : List Sound) (u : Outcome) (w : Framing) → Stands p u → AwaitsFrame u.chip.core.phase → Same w (heard u.chip.collector)
    → AllProper (map event_of vs) → completes_only no_frame (awaits_in u.chip.core.phase) w vs ≡ true → Left u w vs (run p (map event_of vs) u)
unfolding run Rest line_after
noise-run p [] u w s a m q e = record { core = sym (left-none u.chip.core w); memory = refl; frame = a; awaits = refl; same = m }
noise-run p (v ∷ vs) u w s a m (and_event h q) e =
    one-sound p v vs u w s a h (λ w' s' a' m' e'. noise-run p vs (onward p u (event_of v)) w' s' a' m' q e') e (stepped p u v w s a m)

-- What is collected leads to where the noise begins.
left-leads : {x : Framing} {us : List Sound} (k : Core) (vs : List Sound) → AwaitsFrame k.phase → Leads (header_in k.phase) idle us x
    → left_core k x vs ≡ left_core k idle (us ++ vs)
unfolding left_core left_in
left-leads {x} {us} k vs a l = go k.phase a l
  where
    go : (f : Phase) → AwaitsFrame f → Leads (header_in f) idle us x → left_in f k x vs ≡ left_in f k idle (us ++ vs)
    go f (command in_setup) l = refl
    go f (command in_ready) l = refl
    go f (page w) l = ap (λ (ds : List (List ℕ)). if empty ds then k otherwise ready k) (sym (leads-frames l vs))

-- The chip after the noise, before what ends it.
pub record NoiseHeard (p : Part) (o : Outcome) (vs : List Sound) (t : Outcome) : Type 0 where
  pub core : t.chip.core ≡ left_core o.chip.core idle (with_collected o vs)
  pub memory : t.memory ≡ o.memory
  pub stands : Stands p t

pub noise-heard : (p : Part) (o : Outcome) (vs : List Sound) → AwaitsFrame o.chip.core.phase → NoiseAfter p o vs → NoiseHeard p o vs (run p (map event_of vs) o)
noise-heard p o vs a n =
    let c = chip-stood p o n.stands a in
    let l = noise-run p vs o c.at n.stands a c.same n.bytes (leads-quiet (awaits_in o.chip.core.phase) c.leads vs n.quiet) in
    record {
      core = l.core ∙ left-leads o.chip.core vs a c.leads;
      memory = l.memory;
      stands = run-stands p (map event_of vs) o n.stands n.bytes;
    }

-- And the gap after it.
pub record Forgets (t u : Outcome) : Type 0 where
  pub core : u.chip.core ≡ t.chip.core
  pub memory : u.memory ≡ t.memory
  pub count : u.chip.collector.len ≡ 0

pub gap-forgets : (p : Part) (t : Outcome) → Stands p t → Forgets t (onward p t Gap)
unfolding reaction_of react_to
gap-forgets p t s = let l = leaves p t Gap s in record { core = l.core; memory = l.memory; count = l.count }

pub run-last : (p : Part) (us : List Event) (v : Event) (o : Outcome) → run p (us ++ v ∷ []) o ≡ onward p (run p us o) v
unfolding run
run-last p [] v o = refl
run-last p (u ∷ us) v o = run-last p us v (onward p o u)

pub record NoiseLeaves (p : Part) (o : Outcome) (vs : List Sound) (t : Outcome) : Type 0 where
  pub core : t.chip.core ≡ left_core o.chip.core idle vs
  pub memory : t.memory ≡ o.memory
  pub count : t.chip.collector.len ≡ 0
  pub stands : Stands p t

pub noise-leaves : (p : Part) (o : Outcome) (vs : List Sound) → AwaitsFrame o.chip.core.phase → NoiseAfter p o vs
    → NoiseLeaves p o (with_collected o vs) (run p (then_gap vs) o)
unfolding then_gap
noise-leaves p o vs a n =
    let t : Outcome = run p (map event_of vs) o in
    let l = noise-heard p o vs a n in
    let g = gap-forgets p t l.stands in
    let e : run p (then_gap vs) o ≡ onward p t Gap = run-last p (map event_of vs) Gap o in
    rw e (record { core = g.core ∙ l.core; memory = g.memory ∙ l.memory; count = g.count; stands = stays p t Gap l.stands a_gap })

-- Where nothing is collected, the rule hears the noise alone.
pub none-collected : (o : Outcome) (vs : List Sound) → o.chip.collector.len ≡ 0 → with_collected o vs ≡ vs
none-collected o vs e = ap (λ (hs : List ℕ). map byte hs ++ vs) (heard-none o.chip.collector e)

pub noise-after : (p : Part) (o : Outcome) (vs : List Sound) → Noise no_frame p o vs → NoiseAfter p o vs
noise-after p o vs n =
    record {
      stands = n.stands;
      bytes = n.bytes;
      quiet = ap (completes_only no_frame (awaits_in o.chip.core.phase) idle) (none-collected o vs n.nothing) ∙ n.quiet;
    }

pub from_nothing : (p : Part) (o : Outcome) (vs : List Sound) → AwaitsFrame o.chip.core.phase → Noise no_frame p o vs
    → NoiseLeaves p o vs (run p (then_gap vs) o)
from_nothing p o vs a n =
    subst (λ (us : List Sound). NoiseLeaves p o us (run p (then_gap vs) o)) (none-collected o vs n.nothing) (noise-leaves p o vs a (noise-after p o vs n))
