-- Demand 3's first two claims, for the definition of demand 2: noise while a command is awaited, and while a data frame is; and both where something was
-- collected before the noise.
-- Assumes nothing.
use mathlib.Core.Bool.{Bool, false, not, true}
use mathlib.Core.List.{List, map}
use mathlib.Core.Path.{◌∙◌, ◌≡◌, ap, refl, subst, sym}
use Prim.Native.Nat.{ℕ}
use native.Mathlib.Omega.{arith}
use lib.ListN.{length}
use Rattle.chip.specs.Run.{onward, run}
use Rattle.chip.specs.Step.{Outcome, powered_on, react_to, step_of}
use Rattle.chip.specs.declared.Event.TheVariants.{Gap, PowerOn}
use Rattle.chip_state.specs.Refusals.{good_state}
use Rattle.claims_good.proofs.Core.{core_is, is-core, made-ready}
use Rattle.claims_good.proofs.Rooms.{leaves, reaction_of}
use Rattle.claims_good.proofs.Stays.{stays}
use Rattle.chip_state.proofs.Laws.{accepted, accepts, none-good}
use Rattle.claims_good.specs.Good.{Stands, a_gap, a_power_on}
use Rattle.claims_noise.proofs.Noise.{NoiseLeaves, from_nothing, gap-forgets, left_core, left_in, noise-heard, noise-leaves, run-last}
use Rattle.claims_noise.proofs.Rooms.{as-if, run-by}
use Rattle.claims_noise.specs.Claims.{AsIf, GapEndsNoise, NoiseAtCommand, NoiseAtData, NoiseBranches, PowerOnEndsNoise, command_over, left_at, left_by, run_by, with_collected}
use Rattle.claims_fed.specs.Awaits.{AwaitsCommand, AwaitsFrame, command, event_of, in_ready, in_setup, page}
use Rattle.claims_noise.specs.Noise.{data_completed, empty, then_gap, then_power_on}
use Rattle.chip_core.specs.Hearing.{hearing}
use Rattle.chip_core.specs.declared.Hearing.TheVariants.{HearsCommands}
use Rattle.chip_core.specs.Effect.{Memory}
use Rattle.chip_pages.specs.Pages.{ready}
use Rattle.chip_core.specs.declared.Awaited.{Awaited}
use Rattle.chip_core.specs.declared.Core.{Core}
use Rattle.chip_core.specs.declared.Phase.{Phase}
use Rattle.chip_core.specs.declared.Phase.TheVariants.{Awaiting, ModeByte, Ready, Setup}
use Rattle.frame.proofs.Laws.Collector.{heard-none}
use Rattle.frame.specs.Framing.{Sound, frames, idle}
use Rattle.frame.specs.declared.Header.TheVariants.{Data}
use Rattle.part.specs.declared.Part.{Part}
use Rattle.words.proofs.Laws.{and_both, and_right}
use Rattle.words.specs.Words.{if◌then◌otherwise◌}

command-left : (k : Core) (vs : List Sound) → AwaitsCommand k.phase → left_core k idle vs ≡ k
unfolding left_core left_in
command-left k vs a = go k.phase a
  where
    go : (f : Phase) → AwaitsCommand f → left_in f k idle vs ≡ k
    go f in_setup = refl
    go f in_ready = refl

-- Where a command is over, flash is as it was, the pages stored earlier included, and so are the sums.
over-memory : (o : Outcome) → (command_over o).memory ≡ o.memory
unfolding command_over
over-memory o = refl

-- The state in which the command is over stands too.
pub over-stands : (p : Part) (o : Outcome) → Stands p o → o.chip.collector.len ≡ 0 → Stands p (command_over o)
unfolding command_over good_state hearing
over-stands p o s n =
    let a = accepts s.accepted in
    record {
      accepted =
          accepted (record {
            part = a.part;
            code_long = ap (λ (m : Memory). length m.flash.code_flash) (over-memory o) ∙ a.code_long;
            data_long = ap (λ (m : Memory). length m.flash.data_flash) (over-memory o) ∙ a.data_long;
            state = and_both (rw n (none-good HearsCommands _ _)) (is-core (made-ready (core_is p o.chip.core (and_right _ _ a.state))));
            roomy = a.roomy;
          });
      places = s.places;
      bytes = s.bytes;
      arrays = s.arrays;
    }

-- The state that noise leaves, but for what is collected.
pub record LeftAt (p : Part) (o : Outcome) (us : List Sound) (q : Outcome) : Type 0 where
  pub core : q.chip.core ≡ left_core o.chip.core idle us
  pub memory : q.memory ≡ o.memory
  pub count : q.chip.collector.len ≡ 0
  pub stands : Stands p q

left-data : (p : Part) (o : Outcome) (us : List Sound) (w : Awaited) → Stands p o → o.chip.collector.len ≡ 0 → o.chip.core.phase ≡ Awaiting w
    → LeftAt p o us (left_by us o)
unfolding left_by data_completed left_core left_in command_over if◌then◌otherwise◌
left-data p o us w s n e = go (empty (frames Data idle us)) refl
  where
    core-is-left : (t : Bool) → empty (frames Data idle us) ≡ t
        → (if t then o.chip.core otherwise ready o.chip.core) ≡ left_in o.chip.core.phase o.chip.core idle us
    core-is-left t q =
        sym (ap (λ (f : Phase). left_in f o.chip.core idle us) e ∙ ap (λ (t : Bool). if t then o.chip.core otherwise ready o.chip.core) q)

    go : (t : Bool) → empty (frames Data idle us) ≡ t → LeftAt p o us (if not t then command_over o otherwise o)
    go true q = record { core = core-is-left true q; memory = refl; count = n; stands = s }
    go false q = record { core = core-is-left false q; memory = refl; count = n; stands = over-stands p o s n }

pub left-at : (p : Part) (o : Outcome) (us : List Sound) → Stands p o → o.chip.collector.len ≡ 0 → AwaitsFrame o.chip.core.phase
    → LeftAt p o us (left_at o.chip.core.phase us o)
unfolding left_core left_in
left-at p o us s n a = go o.chip.core.phase refl a
  where
    go : (f : Phase) → o.chip.core.phase ≡ f → AwaitsFrame f → LeftAt p o us (left_at f us o)
    go f e (command in_setup) = record { core = sym (ap (λ (f : Phase). left_in f o.chip.core idle us) e); memory = refl; count = n; stands = s }
    go f e (command in_ready) = record { core = sym (ap (λ (f : Phase). left_in f o.chip.core idle us) e); memory = refl; count = n; stands = s }
    go f e (page w) = left-data p o us w s n e

-- What noise leaves is as if it were what it should leave.
left-as-if : (p : Part) (o q t : Outcome) (vs : List Sound) → LeftAt p o vs q → NoiseLeaves p o vs t → AsIf step_of p q t
left-as-if p o q t vs k l =
    as-if p q t k.stands l.stands
    (record {
      core = k.core ∙ sym l.core;
      count = k.count ∙ sym l.count;
      hears = heard-none q.chip.collector k.count ∙ sym (heard-none t.chip.collector l.count);
      memory = k.memory ∙ sym l.memory;
    })

pub noise-at-command : NoiseAtCommand step_of
noise-at-command p o vs a n =
    rw (run-by p (then_gap vs) o)
    (left-as-if p o o (run p (then_gap vs) o) vs
    (record { core = sym (command-left o.chip.core vs a); memory = refl; count = n.nothing; stands = n.stands })
    (from_nothing p o vs (command a) n))

pub noise-at-data : NoiseAtData step_of
noise-at-data p o w vs e n =
    rw (run-by p (then_gap vs) o)
    (left-as-if p o (left_by vs o) (run p (then_gap vs) o) vs (left-data p o vs w n.stands n.nothing e) (from_nothing p o vs (rw e (page w)) n))

-- Something was collected: a gap alone forgets it.
pub gap-ends-noise : GapEndsNoise step_of
gap-ends-noise p o vs a n =
    let us = with_collected o vs in
    let u : Outcome = onward p o Gap in
    let g = gap-forgets p o n.stands in
    let f : u.chip.core.phase ≡ o.chip.core.phase = ap (λ (k : Core). k.phase) g.core in
    let k : LeftAt p u us (left_at o.chip.core.phase us u) =
    subst (λ (x : Phase). LeftAt p u us (left_at x us u)) f (left-at p u us (stays p o Gap n.stands a_gap) g.count (rw f a)) in
    rw (run-by p (then_gap vs) o)
    (left-as-if p o (left_at o.chip.core.phase us u) (run p (then_gap vs) o) us
    (record {
      core = k.core ∙ ap (λ (x : Core). left_core x idle us) g.core;
      memory = k.memory ∙ g.memory;
      count = k.count;
      stands = k.stands;
    })
    (noise-leaves p o vs a n))

-- Power-on drops the phase with it.
powered-left : (k : Core) (us : List Sound) → powered_on (left_core k idle us) ≡ powered_on k
unfolding left_core left_in if◌then◌otherwise◌
powered-left k us = go k.phase
  where
    over : (t : Bool) → powered_on (if t then k otherwise ready k) ≡ powered_on k
    over true = refl
    over false = refl

    go : (f : Phase) → powered_on (left_in f k idle us) ≡ powered_on k
    go ModeByte = refl
    go Setup = refl
    go Ready = refl
    go (Awaiting w) = over (empty (frames Data idle us))

record PowersOn (t u : Outcome) : Type 0 where
  core : u.chip.core ≡ powered_on t.chip.core
  memory : u.memory ≡ t.memory
  count : u.chip.collector.len ≡ 0

powers-on : (p : Part) (t : Outcome) → Stands p t → PowersOn t (onward p t PowerOn)
unfolding reaction_of react_to
powers-on p t s = let l = leaves p t PowerOn s in record { core = l.core; memory = l.memory; count = l.count }

pub power-on-ends-noise : PowerOnEndsNoise step_of
unfolding then_power_on
power-on-ends-noise p o vs a n =
    let t : Outcome = run p (map event_of vs) o in
    let l = noise-heard p o vs a n in
    let x = powers-on p o n.stands in
    let y = powers-on p t l.stands in
    rw (run-by p (then_power_on vs) o, run-last p (map event_of vs) PowerOn o)
    (as-if p (onward p o PowerOn) (onward p t PowerOn) (stays p o PowerOn n.stands a_power_on) (stays p t PowerOn l.stands a_power_on)
    (record {
      core = x.core ∙ sym (y.core ∙ ap (λ (k : Core). powered_on k) l.core ∙ powered-left o.chip.core (with_collected o vs));
      count = x.count ∙ sym y.count;
      hears = heard-none (onward p o PowerOn).chip.collector x.count ∙ sym (heard-none (onward p t PowerOn).chip.collector y.count);
      memory = x.memory ∙ sym (y.memory ∙ l.memory);
    }))

-- The phase that noise leaves.
left-phase : (k : Core) (w : Awaited) (us : List Sound) → k.phase ≡ Awaiting w → (left_core k idle us).phase ≡ (if data_completed us then Ready otherwise Awaiting w)
unfolding left_core left_in data_completed if◌then◌otherwise◌
left-phase k w us e = ap (λ (f : Phase). (left_in f k idle us).phase) e ∙ go (empty (frames Data idle us))
  where
    go : (t : Bool) → (if t then k otherwise ready k).phase ≡ (if not t then Ready otherwise Awaiting w)
    go true = e
    go false = refl

apart : (w : Awaited) → Ready ≡ Awaiting w → ⊥
apart w e = let z : ◌≡◌ {A = ℕ} 0 1 = cc in omega arith

phase-branch : (w : Awaited) (t : Bool) → (if t then Ready otherwise Awaiting w) ≡ Awaiting w → t ≡ false
unfolding if◌then◌otherwise◌
phase-branch w true e = absurd (apart w e)
phase-branch w false e = refl

phase-ended : (w : Awaited) (t : Bool) → (if t then Ready otherwise Awaiting w) ≡ Ready → t ≡ true
unfolding if◌then◌otherwise◌
phase-ended w true e = refl
phase-ended w false e = absurd (apart w (sym e))

pub noise-branches : NoiseBranches step_of
unfolding if◌then◌otherwise◌
noise-branches p o w vs e n =
    let us = with_collected o vs in
    let f : (run_by step_of p (then_gap vs) o).chip.core.phase ≡ (if data_completed us then Ready otherwise Awaiting w) =
    ap (λ (u : Outcome). u.chip.core.phase) (run-by p (then_gap vs) o)
    ∙ ap (λ (k : Core). k.phase) (noise-leaves p o vs (rw e (page w)) n).core
    ∙ left-phase o.chip.core w us e in
    record {
      stays = λ q. f ∙ ap (λ (t : Bool). if t then Ready otherwise Awaiting w) q;
      ends = λ q. f ∙ ap (λ (t : Bool). if t then Ready otherwise Awaiting w) q;
      stayed = λ q. phase-branch w (data_completed us) (sym f ∙ q);
      ended = λ q. phase-ended w (data_completed us) (sym f ∙ q);
    }
