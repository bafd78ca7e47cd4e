-- At most one good frame came: the proof of `OneFrameCarried` for the definition of demand 2.
-- Assumes nothing.
use mathlib.Core.Bool.{true}
use mathlib.Core.List.{List, [], ◌++◌, ◌∷◌, map}
use mathlib.Core.Path.{◌∙◌, ◌≡◌, ap, refl, sym}
use Prim.Native.Nat.{◌+◌, ◌-◌, ℕ}
use lib.ListN.{get_or}
use borrow.Author.Tests.{eqb-true}
use Rattle.chip.specs.Run.{onward, run, spoken_in}
use Rattle.chip.specs.Step.{Outcome, reaction, step_of}
use Rattle.chip.specs.declared.Event.TheVariants.{Byte}
use Rattle.claims_frame.proofs.Framing.{nothing}
use Rattle.claims_good.proofs.Rooms.{utterance_of}
use Rattle.claims_good.proofs.Stays.{run-stands, stays}
use Rattle.claims_good.specs.Good.{Alike, AllProper, Proper, Stands, and_event, no_event, uttered}
use Rattle.claims_noise.proofs.Allowed.{allowed-or-none, done-completes}
use Rattle.claims_noise.proofs.Claims.{LeftAt, left-at}
use Rattle.claims_fed.proofs.Frames.{Completed, bytes-proper, completed, does-same, fed-is-done, no-frame}
use Rattle.claims_fed.specs.Fed.{FedIsDone, does_in}
use Rattle.claims_noise.proofs.Noise.{Left, noise-run}
use Rattle.claims_noise.proofs.OneByte.{footer_in, good-judged}
use Rattle.claims_fed.specs.Awaits.{Awaits, AwaitsFrame, awaits_in, event_of, good_for, header_in, header_of}
use Rattle.claims_fed.proofs.Steps.{stepped}
use Rattle.claims_noise.proofs.Rooms.{as-if, run-by}
use Rattle.claims_noise.specs.Claims.{AsIf, Carried, Line, Noise, OneFrameCarried, OnlyThis, frame_came, last_good, left_at, line_after, noise_only, none_good, run_by}
use Rattle.claims_noise.specs.Noise.{no_frame, then_awaits}
use Rattle.chip_core.specs.Effect.{Effect}
use Rattle.chip_core.specs.declared.Core.{Core}
use Rattle.frame.proofs.Laws.Collector.{heard-none}
use Rattle.frame.proofs.Laws.Judgement.{good-is}
use Rattle.frame.proofs.Laws.Sum.{Below}
use Rattle.frame.specs.Frame.{counted, header_byte}
use Rattle.frame.specs.Framing.{Framed, Framing, Sound, begun, byte, framing, gap, idle, inside, quiet}
use Rattle.frame.specs.declared.Header.{Header}
use Rattle.part.specs.declared.Part.{Part}
use Rattle.words.proofs.Laws.{if-all}

-- A frame that is begun is begun by the awaited header.
data Headed (h : Header) : Framing → Type 0 where
  head_idle : Headed h idle
  head_begun : (x : ℕ) → x ≡ header_byte h → Headed h (begun x)
  head_inside : (x : ℕ) (xs : List ℕ) (n : ℕ) → x ≡ header_byte h → Headed h (inside (x ∷ xs) n)

record Goes (h : Header) (f : Framed) : Type 0 where
  stands : Headed h f.stands
  begins : (g : List ℕ) (gs : List (List ℕ)) → f.done ≡ g ∷ gs → get_or g 0 0 ≡ header_byte h

goes_on : {h : Header} {w : Framing} → Headed h w → Goes h (quiet w)
goes_on k = record { stands = k; begins = λ g gs e. absurd (no-frame g gs e) }

goes : (h : Header) (w : Framing) (v : Sound) → Headed h w → Goes h (framing h w v)
unfolding framing
goes h w gap k = goes_on head_idle
goes h idle (byte b) head_idle = if-all (Goes h) _ (λ t. goes_on (head_begun b (eqb-true _ _ t))) (λ t. goes_on head_idle)
goes h (begun y) (byte b) (head_begun x e) = goes_on (head_inside y (b ∷ []) (counted b + 2) e)
goes h (inside [] m) (byte b) k = elim k [ ]
goes h (inside (y ∷ ys) m) (byte b) (head_inside x xs n e) =
    if-all (Goes h) _
    (λ t. record { stands = head_idle; begins = λ g gs q. let z : y ∷ (ys ++ b ∷ []) ≡ g = cc in ap (λ (l : List ℕ). get_or l 0 0) (sym z) ∙ e })
    (λ t. goes_on (head_inside y (ys ++ b ∷ []) (m - 1) e))

next-headed : (a : Awaits) (w : Framing) (v : Sound) (ds : List (List ℕ)) → Headed (header_of a) w → (framing (header_of a) w v).done ≡ ds
    → Headed (header_of (then_awaits a ds)) (framing (header_of a) w v).stands
unfolding then_awaits
next-headed a w v [] k e = (goes (header_of a) w v k).stands
next-headed a w v (g ∷ gs) k e = rw (ap (λ (x : Framed). x.stands) (done-completes (header_of a) w v g gs e)) head_idle

line-headed : (a : Awaits) (w : Framing) (vs : List Sound) → Headed (header_of a) w → Headed (header_of (line_after a w vs).awaits) (line_after a w vs).stands
unfolding line_after
line-headed a w [] k = k
line-headed a w (v ∷ vs) k =
    line-headed (then_awaits a (framing (header_of a) w v).done) (framing (header_of a) w v).stands vs (next-headed a w v (framing (header_of a) w v).done k refl)

-- The events of a list that ends with a sound.
proper-front : (us : List Sound) (v : Sound) → AllProper (map event_of (us ++ v ∷ [])) → AllProper (map event_of us) × Proper (event_of v)
proper-front [] v (and_event h q) = (no_event, h)
proper-front (u ∷ us) v (and_event h q) = let r = proper-front us v q in (and_event h r.0, r.1)

run-front : (p : Part) (us : List Sound) (v : Sound) (o : Outcome) → run p (map event_of (us ++ v ∷ [])) o ≡ onward p (run p (map event_of us) o) (event_of v)
unfolding run
run-front p [] v o = refl
run-front p (u ∷ us) v o = run-front p us v (onward p o (event_of u))

-- The frame came, after the noise us, with the sound v.
module _ (p : Part) (o : Outcome) (f : List ℕ) (us : List Sound) (v : Sound) (below : Below 256 f) (a : AwaitsFrame o.chip.core.phase)
    (n : Noise no_frame p o us) (h : Proper (event_of v))
    (d : (framing (header_of (line_after (awaits_in o.chip.core.phase) idle us).awaits) (line_after (awaits_in o.chip.core.phase) idle us).stands v).done ≡ f ∷ [])
    (g : good_for (line_after (awaits_in o.chip.core.phase) idle us).awaits f ≡ true) where
  line : Line
  line = line_after (awaits_in o.chip.core.phase) idle us

  u : Outcome
  u = run p (map event_of us) o

  q : Outcome
  q = left_at o.chip.core.phase us o

  heard-left : Left o idle us u
  unfolding u
  heard-left = noise-run p us o idle n.stands a (rw (heard-none o.chip.collector n.nothing) nothing) n.bytes n.quiet

  u-stands : Stands p u
  unfolding u
  u-stands = run-stands p (map event_of us) o n.stands n.bytes

  q-left : LeftAt p o us q
  unfolding q
  q-left = left-at p o us n.stands n.nothing a

  same-core : q.chip.core ≡ u.chip.core
  same-core = q-left.core ∙ sym heard-left.core

  same_memory : q.memory ≡ u.memory
  same_memory = q-left.memory ∙ sym heard-left.memory

  the-header : get_or f 0 0 ≡ header_byte (header_of line.awaits)
  unfolding line
  the-header = (goes (header_of line.awaits) line.stands v (line-headed (awaits_in o.chip.core.phase) idle us head_idle)).begins f [] d

  q-header : get_or f 0 0 ≡ header_byte (header_in q.chip.core.phase)
  unfolding line
  q-header =
      the-header ∙ ap (λ (x : Awaits). header_byte (header_of x)) (sym heard-left.awaits)
      ∙ ap (λ (k : Core). header_byte (header_in k.phase)) (sym same-core)

  alone : FedIsDone p q f f
  unfolding line
  alone =
      fed-is-done p q f q-left.stands (rw same-core heard-left.frame) q-left.count
      (good-is (footer_in line.awaits) f (good-judged line.awaits f g)).frame q-header below

  came : Completed p u v f
  unfolding line
  came =
      completed p u line.stands v f
      (ap (λ (x : Awaits). framing (header_of x) line.stands v) heard-left.awaits ∙ done-completes (header_of line.awaits) line.stands v f [] d)
      (stepped p u v line.stands u-stands heard-left.frame heard-left.same)

  does-alike : does_in p f q.chip.core q.memory ≡ does_in p f u.chip.core u.memory
  does-alike = does-same p f same-core same_memory

  frame-alike : Alike (run p (map Byte f) q) (onward p u (event_of v))
  frame-alike =
      record {
        core = alone.core ∙ ap (λ (x : Effect). x.core) does-alike ∙ sym came.core;
        count = alone.count ∙ sym came.count;
        hears = heard-none (run p (map Byte f) q).chip.collector alone.count ∙ sym (heard-none (onward p u (event_of v)).chip.collector came.count);
        memory = alone.memory ∙ ap (λ (x : Effect). x.memory) does-alike ∙ sym came.memory;
      }

  frame-as-if : AsIf step_of p (run p (map Byte f) q) (onward p u (event_of v))
  frame-as-if =
      as-if p (run p (map Byte f) q) (onward p u (event_of v)) (run-stands p (map Byte f) q q-left.stands (bytes-proper below)) (stays p u (event_of v) u-stands h)
      frame-alike

  frame-said : uttered (spoken_in (run p (map Byte f) q)) ≡ uttered (spoken_in (onward p u (event_of v)))
  frame-said = alone.last ∙ ap (λ (x : Effect). utterance_of p (reaction [] x)) does-alike ∙ sym came.says

  frame-carried : (vs : List Sound) → vs ≡ us ++ v ∷ [] → Carried step_of p o f vs
  unfolding u q
  frame-carried vs e =
      let r : run_by step_of p (map event_of vs) o ≡ onward p u (event_of v) =
      run-by p (map event_of vs) o ∙ ap (λ (xs : List Sound). run p (map event_of xs) o) e ∙ run-front p us v o in
      frame_came us v e n (rw (r, run-by p (map Byte f) q) frame-as-if) (rw (r, run-by p (map Byte f) q) frame-said)

pub one-frame-carried : OneFrameCarried step_of
one-frame-carried p o f vs below a n = go (allowed-or-none f (awaits_in o.chip.core.phase) idle vs n.quiet)
  where
    go : OnlyThis f (awaits_in o.chip.core.phase) idle vs → Carried step_of p o f vs
    go (none_good e) = noise_only (record { stands = n.stands; nothing = n.nothing; bytes = n.bytes; quiet = e })
    go (last_good us v e c d g) =
        let r = proper-front us v (rw e at n.bytes) in
        frame-carried p o f us v below a (record { stands = n.stands; nothing = n.nothing; bytes = r.0; quiet = c }) r.1 d g vs e
