-- A stretch may be cut anywhere: the proof of `EngineAppend` (document 02, §7, "wherever it begins"), from feeding.
-- Assumes nothing.
use mathlib.Core.List.{List, ◌++◌, map, map-append}
use mathlib.Core.Path.{◌∙◌, ◌≡◌, ap, refl, sym}
use Prim.Native.Nat.{ℕ}
use lib.ListN.{drop, length, length-append}
use lib.Seq.{take_at}
use Rattle.chip.proofs.Runs.{run-append}
use Rattle.chip.specs.Run.{answers, before, heard_back, run}
use Rattle.chip.specs.Step.{Outcome}
use Rattle.chip.specs.declared.Event.{Event}
use Rattle.chip.specs.declared.Event.TheVariants.{Byte}
use Rattle.chip_state.specs.declared.Chip.{Chip}
use Rattle.claims_engine.proofs.Alike.{SameRun, alike_runs}
use Rattle.claims_engine.proofs.Claims.{engine-goes-on, engine-is-feeding}
use Rattle.claims_engine.proofs.Plays.{says-append}
use Rattle.claims_engine.proofs.Tells.{faults-append, faults-back, faults_by, first-append, frames-append, frames-back, frames_by, said-append, said-back, said_by}
use Rattle.claims_engine.specs.Claims.{EngineAppend, Feeds, reply_bytes, reply_frames, replies_in}
use Rattle.claims_engine.specs.Feeding.{first_fault}
use Rattle.claims_fed.proofs.Frames.{bytes-proper}
use Rattle.claims_good.proofs.Stays.{run-stands}
use Rattle.claims_good.specs.Good.{Utterance, utterances}
use Rattle.engine.specs.Engine.{EngineLeft, engine_of}
use Rattle.chip_reply.specs.Reply.{sent_as}
use Rattle.std.specs.Prelude.{Ok}
use Rattle.frame.proofs.Laws.Sum.{below-append}
use Rattle.frame.specs.Collector.{heard}
use Rattle.part.specs.declared.Part.{Part}

-- What the engine told, by the utterances to the bytes fed.
record Told (e : EngineLeft) (us : List Utterance) : Type 0 where
  said : replies_in e ≡ said_by us
  answer : e.answer ≡ Ok (sent_as (length (said_by us)) (frames_by us))
  bytes : reply_bytes e.answer ≡ length (said_by us)
  frames : reply_frames e.answer ≡ frames_by us
  faults : e.faults ≡ length (faults_by us)
  first : e.first ≡ first_fault (faults_by us)

told : (p : Part) (vs : List Event) (o : Outcome) (e : EngineLeft) (u : Outcome) (c : Chip) (room one : List ℕ) → Feeds e u (answers p vs o) c room one → Told e (utterances p vs o)
unfolding utterances
told p vs o e u c room one f =
    let ss = answers p vs o in
    let n : reply_bytes e.answer ≡ length (heard_back ss) = ap reply_bytes f.answer in
    record {
      said = rw (n, f.room) (take_at (heard_back ss) (drop (length (heard_back ss)) room) (length (heard_back ss)) refl ∙ said-back ss);
      answer = f.answer ∙ rw (said-back ss, frames-back ss);
      bytes = n ∙ ap length (said-back ss);
      frames = ap reply_frames f.answer ∙ frames-back ss;
      faults = f.faults ∙ ap length (faults-back ss);
      first = f.first ∙ ap first_fault (faults-back ss);
    }

pub engine-append : EngineAppend
engine-append p xs ys c m room part rest one s bx by hx hy h =
    let o = before c m one in
    let d = engine_of p xs c m part in
    let f = engine_of p ys d.chip d.memory rest in
    let e = engine_of p (xs ++ ys) c m room in
    let q = before d.chip d.memory one in
    let u = run p (map Byte xs) o in
    let st = (engine-goes-on p xs c m part one s bx hx).stands in
    let fd = engine-is-feeding p xs c m part one s bx hx in
    let ff = engine-is-feeding p ys d.chip d.memory rest one st by hy in
    let fe = engine-is-feeding p (xs ++ ys) c m room one s (below-append bx by) h in
    let g : SameRun p (map Byte ys) u q = alike_runs p (map Byte ys) u q (run-stands p (map Byte xs) o s (bytes-proper bx)) st (bytes-proper by) fd.alike in
    let r : run p (map Byte (xs ++ ys)) o ≡ run p (map Byte ys) u =
    ap (λ (vs : List Event). run p vs o) (map-append Byte xs ys) ∙ run-append p (map Byte xs) (map Byte ys) o in
    let us = utterances p (map Byte xs) o in
    let vs = utterances p (map Byte ys) q in
    let w : utterances p (map Byte (xs ++ ys)) o ≡ us ++ vs =
    ap (λ (ws : List Event). utterances p ws o) (map-append Byte xs ys) ∙ says-append p (map Byte xs) (map Byte ys) o ∙ rw g.says in
    let td : Told d us = told p (map Byte xs) o d _ c part one fd in
    let tf : Told f vs = told p (map Byte ys) q f _ d.chip rest one ff in
    let te : Told e (us ++ vs) = rw w at (told p (map Byte (xs ++ ys)) o e _ c room one fe) in
    record {
      said = te.said ∙ said-append us vs ∙ rw (td.said, tf.said);
      answer = te.answer ∙ rw (said-append us vs, length-append, frames-append us vs, td.bytes, tf.bytes, td.frames, tf.frames);
      faults = te.faults ∙ rw (faults-append us vs, length-append, td.faults, tf.faults);
      first = te.first ∙ first-append us vs ∙ rw (td.first, tf.first);
      alike =
          record {
            core = sym ff.alike.core ∙ sym g.alike.core ∙ sym (ap (λ (z : Outcome). z.chip.core) r) ∙ fe.alike.core;
            count = sym ff.alike.count ∙ sym g.alike.count ∙ sym (ap (λ (z : Outcome). z.chip.collector.len) r) ∙ fe.alike.count;
            hears = sym ff.alike.hears ∙ sym g.alike.hears ∙ sym (ap (λ (z : Outcome). heard z.chip.collector) r) ∙ fe.alike.hears;
            memory = sym ff.alike.memory ∙ sym g.alike.memory ∙ sym (ap (λ (z : Outcome). z.memory) r) ∙ fe.alike.memory;
          };
    }
