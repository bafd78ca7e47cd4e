-- The proof of `CutAnywhere`.
-- Assumes nothing.
use mathlib.Core.List.{List, [], ◌++◌, ◌∷◌, append_assoc, append-nil, map}
use mathlib.Core.Path.{◌∙◌, ◌≡◌, ap, refl, sym}
use Prim.Native.Nat.{◌+◌, ℕ}
use native.Mathlib.Omega.{arith}
use lib.ListN.{drop, get_or, length, length-append, length-map, replicate, replicate-append-replicate, take}
use lib.Seq.{append_snoc, drop_at, take_at}
use borrow.Author.Tests.{eqb-true}
use Rattle.chip.proofs.Runs.{run-append}
use Rattle.chip.specs.Run.{answers, onward, run, spoken_in}
use Rattle.chip.specs.Step.{Outcome, Reaction, byte_in, heard_byte, powered_on, react_to, reaction, step_of}
use Rattle.chip_frame.specs.Does.{silent}
use Rattle.chip.specs.declared.Event.{Event}
use Rattle.chip.specs.declared.Event.TheVariants.{Byte, Gap, PowerOn}
use Rattle.chip_core.specs.Effect.{Effect, Memory}
use Rattle.chip_core.specs.Hearing.{hearing}
use Rattle.chip_core.specs.declared.Core.{Core}
use Rattle.chip_core.specs.declared.Hearing.{Hearing}
use Rattle.chip_core.specs.declared.Hearing.TheVariants.{HearsCommands, HearsData, HearsNothing}
use Rattle.chip_reply.specs.Reply.{fault_in, frames_of, payloads}
use Rattle.chip_state.proofs.Laws.{accepts}
use Rattle.chip_state.specs.Refusals.{good_collected, good_state}
use Rattle.claims_fed.specs.Fed.{silence}
use Rattle.claims_good.proofs.Rooms.{leaves, reaction_of, says-reaction, utterance_of}
use Rattle.claims_good.proofs.Stays.{run-stands, stays}
use Rattle.claims_good.specs.Good.{Alike, AllProper, Stands, Utterance, a_gap, a_power_on, and_event, no_event, utterances, uttered}
use Rattle.claims_noise.proofs.Rooms.{as-if}
use Rattle.claims_noise.specs.Claims.{AsIf}
use Rattle.claims_runs.specs.Unfinished.{CutAnywhere, CutShort, finished, finished_to, unfinished}
use Rattle.frame.proofs.Laws.Collector.{heard-none}
use Rattle.frame.specs.Collector.{hear, heard}
use Rattle.frame.specs.declared.Header.{Header}
use Rattle.frame.specs.declared.Header.TheVariants.{Command, Data}
use Rattle.part.specs.declared.Part.{Part}
use Rattle.words.proofs.Laws.{and_left, if-all}

-- A byte is skipped, or it is one more of those heard.
data Hears (hs : List ℕ) (b : ℕ) (l : List ℕ) : Type 0 where
  skipped : l ≡ [] → Hears hs b l
  added : l ≡ hs ++ b ∷ [] → Hears hs b l

hears : (h : Header) (hs : List ℕ) (b : ℕ) → Hears hs b (hear h hs b)
unfolding hear
hears h [] b = if-all (Hears [] b) _ (λ t. added refl) (λ t. skipped refl)
hears h (x ∷ xs) b = added refl

-- After an event nothing is collected; or it was a byte, which is one more, and nothing else happened.
data Gathers (v : Event) (k : Core) (hs : List ℕ) (m : Memory) (r : Reaction) : Type 0 where
  none : r.hears ≡ [] → Gathers v k hs m r
  one_more : (b : ℕ) → v ≡ Byte b → r ≡ reaction (hs ++ b ∷ []) (silent k m) → Gathers v k hs m r

byte-gathers : (k : Core) (hs : List ℕ) (b : ℕ) (m : Memory) (l : List ℕ) (x : Effect) → Hears hs b l → Gathers (Byte b) k hs m (heard_byte l x k m)
unfolding heard_byte
byte-gathers k hs b m l x (skipped e) = if-all (Gathers (Byte b) k hs m) _ (λ t. none refl) (λ t. none e)
byte-gathers k hs b m l x (added e) = if-all (Gathers (Byte b) k hs m) _ (λ t. none refl) (λ t. one_more b refl (rw e))

gathers : (v : Event) (p : Part) (k : Core) (hs : List ℕ) (m : Memory) → (hearing k.phase ≡ HearsNothing → hs ≡ []) → Gathers v k hs m (react_to v p k hs m)
unfolding react_to byte_in
gathers Gap p k hs m z = none refl
gathers PowerOn p k hs m z = none refl
gathers (Byte b) p k hs m z = go (hearing k.phase) z
  where
    go : (h : Hearing) → (h ≡ HearsNothing → hs ≡ []) → Gathers (Byte b) k hs m (byte_in h p k hs b m)
    go HearsNothing z = none (z refl)
    go HearsCommands z = byte-gathers k hs b m _ _ (hears Command hs b)
    go (HearsData w) z = byte-gathers k hs b m _ _ (hears Data hs b)

-- In phase 1 nothing is collected.
nothing-heard : (p : Part) (o : Outcome) → Stands p o → hearing o.chip.core.phase ≡ HearsNothing → heard o.chip.collector ≡ []
unfolding good_state good_collected
nothing-heard p o s e =
    let c = o.chip.collector in
    heard-none c
    (eqb-true _ _
    (ap (λ (h : Hearing). good_collected h c.len (get_or c.bytes 0 0) (get_or c.bytes 1 0)) (sym e) ∙ and_left _ _ (accepts s.accepted).state))

silent-says : (p : Part) (hs : List ℕ) (k : Core) (m : Memory) → utterance_of p (reaction hs (silent k m)) ≡ silence
unfolding utterance_of fault_in payloads frames_of
silent-says p hs k m = refl

-- The same of what an event leaves.
data Goes (p : Part) (u : Outcome) (v : Event) : Type 0 where
  anew : heard (onward p u v).chip.collector ≡ [] → Goes p u v
  further : (b : ℕ) → v ≡ Byte b → heard (onward p u v).chip.collector ≡ heard u.chip.collector ++ b ∷ [] → (onward p u v).chip.core ≡ u.chip.core
      → (onward p u v).memory ≡ u.memory → uttered (spoken_in (onward p u v)) ≡ silence → Goes p u v

goes : (p : Part) (u : Outcome) (v : Event) → Stands p u → Goes p u v
unfolding reaction_of
goes p u v s = go (gathers v p u.chip.core (heard u.chip.collector) u.memory (nothing-heard p u s))
  where
    go : Gathers v u.chip.core (heard u.chip.collector) u.memory (reaction_of p u v) → Goes p u v
    go (none e) = anew ((leaves p u v s).hears ∙ e)
    go (one_more b q e) =
        let l = leaves p u v s in
        further b q (l.hears ∙ ap (λ (r : Reaction). r.hears) e) (l.core ∙ ap (λ (r : Reaction). r.does.core) e)
        (l.memory ∙ ap (λ (r : Reaction). r.does.memory) e) (says-reaction p u v s ∙ ap (utterance_of p) e ∙ silent-says p _ _ _)

map_snoc : (hs : List ℕ) (b : ℕ) → map Byte (hs ++ b ∷ []) ≡ map Byte hs ++ Byte b ∷ []
map_snoc [] b = refl
map_snoc (x ∷ xs) b = ap (λ (l : List Event). Byte x ∷ l) (map_snoc xs b)

utterances-snoc : (p : Part) (vs : List Event) (v : Event) (o : Outcome)
    → utterances p (vs ++ v ∷ []) o ≡ utterances p vs o ++ uttered (spoken_in (onward p (run p vs o) v)) ∷ []
unfolding utterances answers run
utterances-snoc p [] v o = refl
utterances-snoc p (w ∷ vs) v o = ap (λ (l : List Utterance). uttered (spoken_in (onward p o w)) ∷ l) (utterances-snoc p vs v (onward p o w))

count-is : (p : Part) (u : Outcome) (v : Event) → Stands p u → (onward p u v).chip.collector.len ≡ length (heard (onward p u v).chip.collector)
count-is p u v s = let l = leaves p u v s in l.count ∙ ap length (sym l.hears)

none_said : (p : Part) (o : Outcome) → utterances p [] o ≡ []
unfolding utterances answers
none_said p o = refl

-- After the events us the chip is u, and its frame that is not finished, hs, began after the first of them.
record Began (p : Part) (o : Outcome) (us : List Event) (u : Outcome) : Type 0 where
  before : List Event
  hs : List ℕ
  reached : run p us o ≡ u
  collects : heard u.chip.collector ≡ hs
  joined : us ≡ before ++ map Byte hs
  core : (run p before o).chip.core ≡ u.chip.core
  memory : (run p before o).memory ≡ u.memory
  nothing : (run p before o).chip.collector.len ≡ 0
  count : u.chip.collector.len ≡ length hs
  quiet : utterances p (map Byte hs) (run p before o) ≡ replicate (length hs) silence

module _ (p : Part) (o : Outcome) where
  begins : o.chip.collector.len ≡ 0 → Began p o [] o
  unfolding run utterances answers
  begins n =
      record {
        before = [];
        hs = [];
        reached = refl;
        collects = heard-none o.chip.collector n;
        joined = refl;
        core = refl;
        memory = refl;
        nothing = n;
        count = n;
        quiet = refl;
      }

  module _ (us : List Event) (u : Outcome) (v : Event) (s : Stands p u) (w : Began p o us u) where
    onward-reached : run p (us ++ v ∷ []) o ≡ onward p u v
    unfolding run
    onward-reached = run-append p us (v ∷ []) o ∙ ap (λ (t : Outcome). onward p t v) w.reached

    -- The bytes of the frame, from where it began.
    from-begun : run p (map Byte w.hs) (run p w.before o) ≡ u
    from-begun = sym (run-append p w.before (map Byte w.hs) o) ∙ ap (λ (l : List Event). run p l o) (sym w.joined) ∙ w.reached

    still-quiet : (b : ℕ) → uttered (spoken_in (onward p u (Byte b))) ≡ silence
        → utterances p (map Byte (w.hs ++ b ∷ [])) (run p w.before o) ≡ replicate (length (w.hs ++ b ∷ [])) silence
    still-quiet b e =
        let q = run p w.before o in
        ap (λ (l : List Event). utterances p l q) (map_snoc w.hs b) ∙ utterances-snoc p (map Byte w.hs) (Byte b) q
        ∙ ap (λ (l : List Utterance). l ++ uttered (spoken_in (onward p (run p (map Byte w.hs) q) (Byte b))) ∷ []) w.quiet
        ∙ ap (λ (x : Utterance). replicate (length w.hs) silence ++ x ∷ []) (ap (λ (t : Outcome). uttered (spoken_in (onward p t (Byte b)))) from-begun ∙ e)
        ∙ replicate-append-replicate (length w.hs) 1 silence ∙ ap (λ (n : ℕ). replicate n silence) (sym (length-append w.hs (b ∷ [])))

    one_more_lem : Goes p u v → Began p o (us ++ v ∷ []) (onward p u v)
    one_more_lem (anew e) =
        record {
          before = us ++ v ∷ [];
          hs = [];
          reached = onward-reached;
          collects = e;
          joined = sym (append-nil (us ++ v ∷ []));
          core = ap (λ (t : Outcome). t.chip.core) onward-reached;
          memory = ap (λ (t : Outcome). t.memory) onward-reached;
          nothing = ap (λ (t : Outcome). t.chip.collector.len) onward-reached ∙ count-is p u v s ∙ ap length e;
          count = count-is p u v s ∙ ap length e;
          quiet = none_said p (run p (us ++ v ∷ []) o);
        }
    one_more_lem (further b q e c m z) =
        record {
          before = w.before;
          hs = w.hs ++ b ∷ [];
          reached = onward-reached;
          collects = e ∙ ap (λ (l : List ℕ). l ++ b ∷ []) w.collects;
          joined =
              ap (λ (l : List Event). l ++ v ∷ []) w.joined ∙ append_assoc w.before (map Byte w.hs) (v ∷ [])
              ∙ ap (λ (x : Event). w.before ++ (map Byte w.hs ++ x ∷ [])) q ∙ ap (λ (l : List Event). w.before ++ l) (sym (map_snoc w.hs b));
          core = w.core ∙ sym c;
          memory = w.memory ∙ sym m;
          nothing = w.nothing;
          count = count-is p u v s ∙ ap length (e ∙ ap (λ (l : List ℕ). l ++ b ∷ []) w.collects);
          quiet = still-quiet b (ap (λ (x : Event). uttered (spoken_in (onward p u x))) (sym q) ∙ z);
        }

  all-begun : (us vs : List Event) (u : Outcome) → Stands p u → AllProper vs → Began p o us u → Began p o (us ++ vs) (run p vs u)
  unfolding run
  all-begun us [] u s q b = rw append-nil b
  all-begun us (v ∷ vs) u s (and_event h q) b =
      rw (← append_snoc us v vs) (all-begun (us ++ v ∷ []) vs (onward p u v) (stays p u v s h) q (one_more_lem us u v s b (goes p u v s)))

proper-before : (us vs : List Event) → AllProper (us ++ vs) → AllProper us
proper-before [] vs q = no_event
proper-before (u ∷ us) vs (and_event h q) = and_event h (proper-before us vs q)

module _ (p : Part) (o : Outcome) (vs : List Event) (s : Stands p o) (n : o.chip.collector.len ≡ 0) (q : AllProper vs) where
  u : Outcome
  u = run p vs o

  b : Began p o vs u
  unfolding u
  b = all-begun p o [] vs o s q (begins p o n)

  at-is : length b.before ≡ finished_to p o vs
  unfolding u
  at-is =
      let l : length vs ≡ length b.before + length (map Byte b.hs) = ap length b.joined ∙ length-append b.before (map Byte b.hs) in
      omega (arith, b.count, length-map b.hs Byte)

  finished-is : finished p o vs ≡ b.before
  unfolding finished
  finished-is = ap (take (finished_to p o vs)) b.joined ∙ take_at b.before (map Byte b.hs) (finished_to p o vs) at-is

  unfinished-is : unfinished p o vs ≡ map Byte b.hs
  unfolding unfinished
  unfinished-is = ap (drop (finished_to p o vs)) b.joined ∙ drop_at b.before (map Byte b.hs) (finished_to p o vs) at-is

  before_stands : Stands p (run p b.before o)
  before_stands = run-stands p b.before o s (proper-before b.before (map Byte b.hs) (rw b.joined at q))

  all-stands : Stands p u
  unfolding u
  all-stands = run-stands p vs o s q

  kept : Outcome
  kept = run p b.before o

  gap-alike : Alike kept (onward p u Gap)
  unfolding kept reaction_of react_to
  gap-alike =
      let r = leaves p u Gap all-stands in
      record {
        core = b.core ∙ sym r.core;
        count = b.nothing ∙ sym r.count;
        hears = heard-none kept.chip.collector b.nothing ∙ sym r.hears;
        memory = b.memory ∙ sym r.memory;
      }

  power-alike : Alike (onward p kept PowerOn) (onward p u PowerOn)
  unfolding kept reaction_of react_to
  power-alike =
      let l = leaves p kept PowerOn before_stands in
      let r = leaves p u PowerOn all-stands in
      record {
        core = l.core ∙ ap powered_on b.core ∙ sym r.core;
        count = l.count ∙ sym r.count;
        hears = l.hears ∙ sym r.hears;
        memory = l.memory ∙ b.memory ∙ sym r.memory;
      }

  gap-forgets : AsIf step_of p (run p (finished p o vs) o) (run p (vs ++ Gap ∷ []) o)
  unfolding run u kept
  gap-forgets =
      rw (finished-is, run-append p vs (Gap ∷ []) o)
      (as-if p kept (onward p u Gap) before_stands (stays p u Gap all-stands a_gap) gap-alike)

  power-forgets : AsIf step_of p (run p (finished p o vs ++ PowerOn ∷ []) o) (run p (vs ++ PowerOn ∷ []) o)
  unfolding run u kept
  power-forgets =
      rw (finished-is, run-append p b.before (PowerOn ∷ []) o, run-append p vs (PowerOn ∷ []) o)
      (as-if p (onward p kept PowerOn) (onward p u PowerOn) (stays p kept PowerOn before_stands a_power_on) (stays p u PowerOn all-stands a_power_on) power-alike)

  cut_short : CutShort p o vs
  unfolding u
  cut_short =
      record {
        collected = unfinished-is ∙ ap (map Byte) (sym b.collects);
        count = rw finished-is b.nothing;
        core = rw finished-is b.core;
        memory = rw finished-is b.memory;
        silent = rw (unfinished-is, finished-is) (b.quiet ∙ ap (λ (k : ℕ). replicate k silence) (sym (length-map b.hs Byte)));
        after_gap = gap-forgets;
        after_power_on = power-forgets;
      }

pub cut-anywhere : CutAnywhere
cut-anywhere p o vs s n q = cut_short p o vs s n q
