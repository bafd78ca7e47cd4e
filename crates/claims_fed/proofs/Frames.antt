-- The bytes of one frame, one after the other: nothing is said or done until the last one, and then the frame does its work.
-- Assumes nothing.
use mathlib.Core.Bool.{false≢true, true}
use mathlib.Core.List.{List, [], ◌++◌, ◌∷◌, map}
use mathlib.Core.Path.{◌∙◌, ◌≡◌, ap, refl, sym}
use Prim.Native.Nat.{◌+◌, ◌-◌, ◌<◌, ◌≤◌, suc, ℕ}
use native.Mathlib.Omega.{arith}
use lib.ListN.{get_or, length, replicate}
use lib.Seq.{append_snoc}
use borrow.Author.Tests.{eqb-true}
use Rattle.chip.specs.Run.{answers, onward, run, spoken_in}
use Rattle.chip.specs.Step.{Outcome, reaction}
use Rattle.chip_frame.specs.Does.{silent}
use Rattle.chip.specs.declared.Event.TheVariants.{Byte}
use Rattle.claims_frame.proofs.Framing.{Same, header, nothing, some, step-begins, step-last, step-more}
use Rattle.claims_good.proofs.Rooms.{utterance_of}
use Rattle.claims_good.proofs.Stays.{stays}
use Rattle.claims_good.specs.Good.{AllProper, Stands, Utterance, a_byte, and_event, no_event, utterances, uttered}
use Rattle.claims_fed.proofs.Steps.{Stepped, frame_done, only_heard, stepped}
use Rattle.claims_fed.specs.Fed.{FedIsDone, does, does_in, silence}
use Rattle.claims_fed.specs.Awaits.{AwaitsFrame, event_of, header_in}
use Rattle.chip_core.specs.Effect.{Effect, Memory}
use Rattle.chip_core.specs.declared.Core.{Core}
use Rattle.frame.proofs.Laws.Collector.{heard-none}
use Rattle.frame.proofs.Laws.Frame.{counted-some}
use Rattle.frame.proofs.Laws.Sum.{Below, more, none}
use Rattle.frame.specs.Collector.{heard}
use Rattle.frame.specs.Frame.{counted, header_byte, is_frame}
use Rattle.frame.specs.Framing.{Framed, Framing, Sound, begun, byte, completes, framing, idle, inside, quiet}
use Rattle.frame.specs.declared.Header.{Header}
use Rattle.part.specs.declared.Part.{Part}
use Rattle.chip_reply.specs.Reply.{fault_in, frames_of, payloads}
use Rattle.words.proofs.Laws.{and_left, and_right}

pub bytes-proper : {bs : List ℕ} → Below 256 bs → AllProper (map Byte bs)
bytes-proper none = no_event
bytes-proper (more h r) = and_event (a_byte h) (bytes-proper r)

-- Bytes that complete nothing until the last one, which completes f.
pub data Ends (h : Header) : Framing → List ℕ → List ℕ → Type 0 where
  last_one : (w : Framing) (b : ℕ) (f : List ℕ) → framing h w (byte b) ≡ completes f → Ends h w (b ∷ []) f
  one_more : (w x : Framing) (b c : ℕ) (bs f : List ℕ) → framing h w (byte b) ≡ quiet x → Ends h x (c ∷ bs) f → Ends h w (b ∷ c ∷ bs) f

rest-ends : (h : Header) (got rest : List ℕ) (n : ℕ) → n ≡ length rest → 1 ≤ n → Ends h (inside got n) rest (got ++ rest)
rest-ends h got [] n e k = absurd (omega arith)
rest-ends h got (b ∷ []) n e k = last_one (inside got n) b (got ++ b ∷ []) (step-last h got n b (omega arith))
rest-ends h got (b ∷ c ∷ rest) n e k =
    one_more (inside got n) (inside (got ++ b ∷ []) (n - 1)) b c rest (got ++ b ∷ c ∷ rest) (step-more h got n b (omega arith))
    (rw (← (append_snoc got b (c ∷ rest))) (rest-ends h (got ++ b ∷ []) (c ∷ rest) (n - 1) (omega arith) (omega arith)))

begun-ends : (h : Header) (x l : ℕ) (rest : List ℕ) (n : ℕ) → n ≡ counted l + 2 → n ≡ length rest → Ends h (begun x) (l ∷ rest) (x ∷ l ∷ rest)
unfolding framing
begun-ends h x l [] n m e = absurd (omega (arith, counted-some l))
begun-ends h x l (b ∷ rest) n m e =
    one_more (begun x) (inside (x ∷ l ∷ []) (counted l + 2)) l b rest (x ∷ l ∷ b ∷ rest) refl
    (rest-ends h (x ∷ l ∷ []) (b ∷ rest) (counted l + 2) (omega arith) (omega arith))

pub frame-ends : (h : Header) (bs : List ℕ) → is_frame bs ≡ true → get_or bs 0 0 ≡ header_byte h → Ends h idle bs bs
unfolding is_frame
frame-ends h [] t e = absurd (false≢true (and_left _ _ t))
frame-ends h (x ∷ []) t e = absurd (false≢true (and_left _ _ t))
frame-ends h (x ∷ l ∷ rest) t e =
    let n : suc (suc (length rest)) ≡ counted l + 4 = eqb-true _ _ (and_right _ _ t) in
    one_more idle (begun x) x l rest (x ∷ l ∷ rest) (step-begins h x e) (begun-ends h x l rest (counted l + 2) refl (omega arith))

same-idle : {w : Framing} {hs : List ℕ} → w ≡ idle → Same w hs → hs ≡ []
same-idle e nothing = refl
same-idle e (header x) = absurd (let z : ◌≡◌ {A = ℕ} 0 1 = cc in omega arith)
same-idle e (some x l rest n k m) = absurd (let z : ◌≡◌ {A = ℕ} 0 1 = cc in omega arith)

pub silent-says : (p : Part) (k : Core) (m : Memory) → utterance_of p (reaction [] (silent k m)) ≡ silence
unfolding utterance_of fault_in payloads frames_of
silent-says p k m = refl

pub no-frame : (f : List ℕ) (fs : List (List ℕ)) → ◌≡◌ {A = List (List ℕ)} [] (f ∷ fs) → ⊥
no-frame f fs e = let z : ◌≡◌ {A = ℕ} 0 1 = cc in omega arith

pub does-same : (p : Part) (f : List ℕ) {k l : Core} {m n : Memory} → k ≡ l → m ≡ n → does_in p f k m ≡ does_in p f l n
does-same p f e g = rw (e, g)

-- A sound that completes the frame f.
pub record Completed (p : Part) (u : Outcome) (v : Sound) (f : List ℕ) : Type 0 where
  pub says : uttered (spoken_in (onward p u (event_of v))) ≡ utterance_of p (reaction [] (does_in p f u.chip.core u.memory))
  pub core : (onward p u (event_of v)).chip.core ≡ (does_in p f u.chip.core u.memory).core
  pub memory : (onward p u (event_of v)).memory ≡ (does_in p f u.chip.core u.memory).memory
  pub count : (onward p u (event_of v)).chip.collector.len ≡ 0

pub completed : (p : Part) (u : Outcome) (w : Framing) (v : Sound) (f : List ℕ) → framing (header_in u.chip.core.phase) w v ≡ completes f → Stepped p u v w
    → Completed p u v f
unfolding does_in
completed p u w v f e (only_heard d s) = absurd (no-frame f [] (sym d ∙ ap (λ (x : Framed). x.done) e))
completed p u w v f e (frame_done f' fs d s) =
    let q : f' ∷ fs ≡ f ∷ [] = sym d ∙ ap (λ (x : Framed). x.done) e in
    let r : f' ≡ f = cc in
    let t : (framing (header_in u.chip.core.phase) w v).stands ≡ idle = ap (λ (x : Framed). x.stands) e in
    let k = u.chip.core in
    let m = u.memory in
    record {
      says = s.says ∙ ap (λ (g : List ℕ). utterance_of p (reaction [] (does k.phase p k m g))) r;
      core = s.core ∙ ap (λ (g : List ℕ). (does k.phase p k m g).core) r;
      memory = s.memory ∙ ap (λ (g : List ℕ). (does k.phase p k m g).memory) r;
      count = s.count ∙ ap length (same-idle t s.same);
    }

run-last : (p : Part) (u : Outcome) (b : ℕ) (f : List ℕ) → Completed p u (byte b) f → FedIsDone p u (b ∷ []) f
unfolding utterances answers run
run-last p u b f c =
    record { answers = ap (λ (z : Utterance). z ∷ []) c.says; last = c.says; core = c.core; memory = c.memory; count = c.count }

run_more : (p : Part) (u : Outcome) (b c : ℕ) (bs f : List ℕ) → (onward p u (Byte b)).chip.core ≡ u.chip.core → (onward p u (Byte b)).memory ≡ u.memory
    → uttered (spoken_in (onward p u (Byte b))) ≡ silence → FedIsDone p (onward p u (Byte b)) (c ∷ bs) f → FedIsDone p u (b ∷ c ∷ bs) f
unfolding utterances answers run
run_more p u b c bs f k m s r =
    let n : length (b ∷ c ∷ bs) - 1 ≡ suc (length (c ∷ bs) - 1) = omega arith in
    let e = does-same p f k m in
    record {
      answers =
          ap (λ (z : Utterance). z ∷ utterances p (map Byte (c ∷ bs)) (onward p u (Byte b))) s
          ∙ ap (λ (zs : List Utterance). silence ∷ zs)
          (r.answers ∙ ap (λ (x : Effect). replicate (length (c ∷ bs) - 1) silence ++ utterance_of p (reaction [] x) ∷ []) e)
          ∙ ap (λ (j : ℕ). replicate j silence ++ utterance_of p (reaction [] (does_in p f u.chip.core u.memory)) ∷ []) (sym n);
      last = r.last ∙ ap (λ (x : Effect). utterance_of p (reaction [] x)) e;
      core = r.core ∙ ap (λ (x : Effect). x.core) e;
      memory = r.memory ∙ ap (λ (x : Effect). x.memory) e;
      count = r.count;
    }

-- What the rest of the frame does, from the state that a byte of it leaves.
RestRuns : Part → Header → Framing → List ℕ → List ℕ → Outcome → Type 0
RestRuns p h x cs f u =
    Stands p u → AwaitsFrame u.chip.core.phase → Same x (heard u.chip.collector) → h ≡ header_in u.chip.core.phase → FedIsDone p u cs f

runs_on : (p : Part) (h : Header) (u : Outcome) (w x : Framing) (b c : ℕ) (bs f : List ℕ) → Stands p u → AwaitsFrame u.chip.core.phase
    → h ≡ header_in u.chip.core.phase → b < 256 → framing h w (byte b) ≡ quiet x → RestRuns p h x (c ∷ bs) f (onward p u (Byte b))
    → Stepped p u (byte b) w → FedIsDone p u (b ∷ c ∷ bs) f
unfolding RestRuns
runs_on p h u w x b c bs f s a q k e rest (frame_done f' fs d t) =
    absurd (no-frame f' fs (sym (ap (λ (y : Framed). y.done) e) ∙ ap (λ (j : Header). (framing j w (byte b)).done) q ∙ d))
runs_on p h u w x b c bs f s a q k e rest (only_heard d t) =
    let y : (framing (header_in u.chip.core.phase) w (byte b)).stands ≡ x =
    ap (λ (j : Header). (framing j w (byte b)).stands) (sym q) ∙ ap (λ (y : Framed). y.stands) e in
    run_more p u b c bs f t.core t.memory (t.says ∙ silent-says p u.chip.core u.memory)
    (rest (stays p u (Byte b) s (a_byte k)) (rw t.core a) (rw y at t.same) (q ∙ ap (λ (l : Core). header_in l.phase) (sym t.core)))

pub ends-runs : (p : Part) (h : Header) {w : Framing} {bs f : List ℕ} → Ends h w bs f → Below 256 bs → (u : Outcome) → Stands p u
    → AwaitsFrame u.chip.core.phase → Same w (heard u.chip.collector) → h ≡ header_in u.chip.core.phase → FedIsDone p u bs f
unfolding RestRuns
ends-runs p h (last_one w b f e) n u s a m q =
    run-last p u b f (completed p u w (byte b) f (ap (λ (k : Header). framing k w (byte b)) (sym q) ∙ e) (stepped p u (byte b) w s a m))
ends-runs p h (one_more w x b c cs f e r) (more k n) u s a m q =
    runs_on p h u w x b c cs f s a q k e (λ s' a' m' q'. ends-runs p h r n (onward p u (Byte b)) s' a' m' q') (stepped p u (byte b) w s a m)

-- A whole frame, from nothing collected.
pub fed-is-done : (p : Part) (u : Outcome) (f : List ℕ) → Stands p u → AwaitsFrame u.chip.core.phase → u.chip.collector.len ≡ 0 → is_frame f ≡ true
    → get_or f 0 0 ≡ header_byte (header_in u.chip.core.phase) → Below 256 f → FedIsDone p u f f
fed-is-done p u f s a n t e b =
    let z : heard u.chip.collector ≡ [] = heard-none u.chip.collector n in
    ends-runs p (header_in u.chip.core.phase) (frame-ends (header_in u.chip.core.phase) f t e) b u s a (rw z nothing) refl
