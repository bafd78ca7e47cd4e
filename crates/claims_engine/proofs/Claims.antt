-- The plain engine is feeding the bytes one by one: the proofs of `EngineIsFeeding` and `EngineGoesOn` (document 02, §7). A chip that holds the front of a frame is as one
-- that has nothing collected and is fed that front first.
-- Assumes nothing.
use mathlib.Core.List.{List, ◌++◌, map, map-append}
use mathlib.Core.Path.{◌∙◌, ◌≡◌, ap, refl, sym}
use Prim.Native.Nat.{◌*◌, ◌<◌, ◌≤◌, ℕ}
use native.Mathlib.Omega.{arith}
use lib.ListN.{drop, length, length-map, replicate}
use lib.Seq.{drop_at}
use Rattle.chip.proofs.Runs.{run-append}
use Rattle.chip.specs.Run.{answers, before, heard_back, onward, run}
use Rattle.chip.specs.Step.{Outcome, react_to}
use Rattle.chip.specs.declared.Event.{Event}
use Rattle.chip.specs.declared.Event.TheVariants.{Byte, Gap}
use Rattle.chip_core.specs.Effect.{Memory}
use Rattle.chip_state.proofs.Laws.{accepts}
use Rattle.chip_state.specs.declared.Chip.{Chip}
use Rattle.claims_engine.proofs.Alike.{SameRun, alike_runs, alike-stands, answers-long, back-short, counts, few, heard-is-good}
use Rattle.claims_engine.proofs.Plays.{Meets, Plays, plays, says-append}
use Rattle.claims_engine.proofs.Refused.{engine-plays, verdict-room}
use Rattle.claims_engine.proofs.Steps.{Keeps, keeps}
use Rattle.claims_engine.proofs.Tells.{Tells, faults-back, frames-back, said-back, silence-says, tells-after}
use Rattle.claims_engine.specs.Claims.{EngineGoesOn, EngineIsFeeding, Feeds}
use Rattle.claims_engine.specs.Feeding.{frames_back}
use Rattle.claims_fed.proofs.Frames.{bytes-proper}
use Rattle.claims_fed.specs.Fed.{silence}
use Rattle.claims_good.proofs.Collected.{below-heard, holds}
use Rattle.claims_good.proofs.Rooms as Rooms
use Rattle.claims_good.proofs.Rooms.{never-refused, reaction_of}
use Rattle.claims_good.proofs.Stays.{run-stands, stays}
use Rattle.claims_good.specs.Good.{Alike, Stands, a_gap, utterances}
use Rattle.claims_noise.proofs.Rooms.{as-if}
use Rattle.engine.specs.Engine.{begins, engine_of, leaves, played_out}
use Rattle.frame.proofs.Laws.Collector.{heard-holding, heard-none, holding-count}
use Rattle.frame.proofs.Laws.Sum.{Below, below-append}
use Rattle.frame.specs.Collector.{heard, holding}
use Rattle.part.specs.declared.Part.{Part}
use Rattle.words.specs.Words.{if◌then◌otherwise◌}

module _ (p : Part) (bs : List ℕ) (c : Chip) (m : Memory) (one : List ℕ) (s : Stands p (before c m one)) (b : Below 256 bs) where
  -- The chip as it would stand with nothing collected: a gap drops what is.
  bare : Outcome
  bare = onward p (before c m one) Gap

  bare-stands : Stands p bare
  unfolding bare
  bare-stands = stays p (before c m one) Gap s a_gap

  bare-meets : Meets (begins c bs m) bare
  unfolding bare reaction_of react_to
  bare-meets = let l = Rooms.leaves p (before c m one) Gap s in record { core = l.core; memory = l.memory; count = l.count }

  -- Fed what the chip holds, it holds that.
  held : Keeps p bare (heard c.collector)
  held =
      keeps p (heard c.collector) bare bare-stands (below-heard c.collector s.bytes)
      (rw (heard-none bare.chip.collector bare-meets.count, bare-meets.core) (heard-is-good p (before c m one) s))

  again : Outcome
  again = run p (map Byte (heard c.collector)) bare

  again-stands : Stands p again
  unfolding again
  again-stands = run-stands p (map Byte (heard c.collector)) bare bare-stands (bytes-proper (below-heard c.collector s.bytes))

  again-alike : Alike again (before c m one)
  unfolding again
  again-alike =
      let h : heard (run p (map Byte (heard c.collector)) bare).chip.collector ≡ heard c.collector =
      held.hears ∙ ap (λ (hs : List ℕ). hs ++ heard c.collector) (heard-none bare.chip.collector bare-meets.count) in
      record {
        core = held.core ∙ bare-meets.core;
        count = sym (counts p again again-stands) ∙ ap length h ∙ counts p (before c m one) s;
        hears = h;
        memory = held.memory ∙ bare-meets.memory;
      }

  same : SameRun p (map Byte bs) again (before c m one)
  same = alike_runs p (map Byte bs) again (before c m one) again-stands s (bytes-proper b) again-alike

  -- The engine's turns, and the bytes fed to that chip.
  played : Plays p (begins c bs m) (played_out p (begins c bs m)) bare
  played = plays p (begins c bs m) bare bare-stands (below-append (below-heard c.collector s.bytes) b) bare-meets

  runs : run p (map Byte (heard c.collector ++ bs)) bare ≡ run p (map Byte bs) again
  unfolding again
  runs = ap (λ (vs : List Event). run p vs bare) (map-append Byte (heard c.collector) bs) ∙ run-append p (map Byte (heard c.collector)) (map Byte bs) bare

  says : utterances p (map Byte (heard c.collector ++ bs)) bare
      ≡ replicate (length (heard c.collector)) silence ++ utterances p (map Byte bs) (before c m one)
  unfolding again
  says =
      ap (λ (vs : List Event). utterances p vs bare) (map-append Byte (heard c.collector) bs)
      ∙ says-append p (map Byte (heard c.collector)) (map Byte bs) bare ∙ rw (held.says, same.says)

  pub tells : Tells (begins c bs m).stands (utterances p (map Byte bs) (before c m one)) (played_out p (begins c bs m)).stands
  tells = tells-after (replicate (length (heard c.collector)) silence) _ (silence-says (length (heard c.collector))) (rw says at played.tells)

  fed-stands : Stands p (run p (map Byte bs) (before c m one))
  fed-stands = run-stands p (map Byte bs) (before c m one) s (bytes-proper b)

  fed-hears : heard (run p (map Byte bs) (before c m one)).chip.collector ≡ (played_out p (begins c bs m)).ahead
  fed-hears = sym same.alike.hears ∙ sym (ap (λ (u : Outcome). heard u.chip.collector) runs) ∙ played.hears

  left-alike : (room any : List ℕ)
      → let e = leaves (played_out p (begins c bs m)) c room in
      Alike (run p (map Byte bs) (before c m one)) (before e.chip e.memory any)
  unfolding leaves
  left-alike room any =
      let x = played_out p (begins c bs m) in
      record {
        core = sym same.alike.core ∙ sym (ap (λ (u : Outcome). u.chip.core) runs) ∙ played.core;
        count = sym (counts p (run p (map Byte bs) (before c m one)) fed-stands) ∙ ap length fed-hears ∙ sym (holding-count c.collector x.ahead);
        hears = fed-hears ∙ sym (heard-holding c.collector x.ahead);
        memory = sym same.alike.memory ∙ sym (ap (λ (u : Outcome). u.memory) runs) ∙ played.memory;
      }

  left-stands : (room : List ℕ)
      → let e = leaves (played_out p (begins c bs m)) c room in
      Stands p (before e.chip e.memory one)
  unfolding leaves
  left-stands room =
      let x = played_out p (begins c bs m) in
      let u = run p (map Byte bs) (before c m one) in
      let short : length x.ahead < 260 = omega (arith, ap length fed-hears, counts p u fed-stands, few p u fed-stands) in
      let h = holds c.collector x.ahead s.places s.bytes (rw fed-hears at (below-heard u.chip.collector fed-stands.bytes)) (omega arith) in
      alike-stands p u (before (leaves x c room).chip (leaves x c room).memory one) fed-stands (left-alike room one) h.places h.bytes (accepts s.accepted).roomy

  feeds : (room : List ℕ) → 32 * length bs ≤ length room
      → Feeds (leaves (played_out p (begins c bs m)) c room) (run p (map Byte bs) (before c m one)) (answers p (map Byte bs) (before c m one)) c room one
  unfolding leaves utterances holding if◌then◌otherwise◌
  feeds room h =
      let ss = answers p (map Byte bs) (before c m one) in
      let x = played_out p (begins c bs m) in
      let said : x.stands.said ≡ heard_back ss = tells.said ∙ sym (said-back ss) in
      let frames : x.stands.frames ≡ frames_back ss = tells.frames ∙ rw (← frames-back ss) (omega arith) in
      let n : length ss ≡ length bs = answers-long p (map Byte bs) (before c m one) ∙ length-map bs Byte in
      record {
        answer = rw (said, frames);
        faults = tells.faults ∙ rw (← faults-back ss) (omega arith);
        first = tells.first ∙ rw (← faults-back ss);
        room = rw said;
        fits = omega (arith, back-short (never-refused p (map Byte bs) (before c m one) s (bytes-proper b)));
        alike = left-alike room one;
        spare = drop_at x.ahead (drop (length x.ahead) c.collector.bytes) (length x.ahead) refl;
      }

-- What the engine leaves of a chip that stands, in enough room.
pub engine-leaves : (p : Part) (bs : List ℕ) (c : Chip) (m : Memory) (room one : List ℕ) → Stands p (before c m one) → 32 * length bs ≤ length room
    → engine_of p bs c m room ≡ leaves (played_out p (begins c bs m)) c room
unfolding engine_of
engine-leaves p bs c m room one s h =
    engine-plays _ p bs c m room (sym (verdict-room p c _ _ (length one) (accepts s.accepted).roomy) ∙ s.accepted) h

pub engine-is-feeding : EngineIsFeeding
engine-is-feeding p bs c m room one s b h = rw (engine-leaves p bs c m room one s h) (feeds p bs c m one s b room h)

pub engine-goes-on : EngineGoesOn
engine-goes-on p bs c m room one s b h =
    let e = leaves (played_out p (begins c bs m)) c room in
    let u = run p (map Byte bs) (before c m one) in
    let t : Stands p (before e.chip e.memory one) = left-stands p bs c m one s b room in
    rw (engine-leaves p bs c m room one s h)
    (record { stands = t; later = as-if p u (before e.chip e.memory one) (fed-stands p bs c m one s b) t (left-alike p bs c m one s b room one) })
