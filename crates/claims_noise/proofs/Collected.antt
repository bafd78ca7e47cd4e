-- Where the framing rule stands after what a chip has collected: at the same place of the same frame, nothing completed.
-- Assumes nothing.
use mathlib.Core.Bool.{false, false≢true, true}
use mathlib.Core.List.{List, [], ◌++◌, ◌∷◌, append-nil, map}
use mathlib.Core.Path.{◌∙◌, ◌≡◌, ap, refl, sym}
use Prim.Native.Nat.{◌+◌, ◌-◌, ◌<◌, suc, ℕ}
use native.Mathlib.Decide.{dec_lt}
use native.Mathlib.Omega.{arith}
use lib.ListN.{get_or, length, length-append}
use lib.Seq.{append_snoc}
use Rattle.chip.specs.Step.{Outcome}
use Rattle.chip_core.specs.Hearing.{hearing}
use Rattle.chip_core.specs.declared.Hearing.{Hearing}
use Rattle.chip_core.specs.declared.Hearing.TheVariants.{HearsCommands, HearsData}
use Rattle.chip_core.specs.declared.Phase.{Phase}
use Rattle.chip_state.proofs.Laws.{accepts, begun, command-collected, data-collected, state-collected}
use Rattle.chip_state.specs.Refusals.{good_begun, good_collected}
use Rattle.claims_fed.specs.Awaits.{Awaits, AwaitsFrame, command, header_in, header_of, in_ready, in_setup, page}
use Rattle.claims_frame.proofs.Framing.{Same, header, nothing, some, step-begins, step-more}
use Rattle.claims_good.proofs.Collected.{Begins, good-begins}
use Rattle.claims_good.proofs.Collected as Begins
use Rattle.claims_good.specs.Good.{Stands}
use Rattle.claims_noise.specs.Noise.{completes_only, empty, no_frame, permitted, then_awaits}
use Rattle.frame.proofs.Laws.Frame.{full-yes}
use Rattle.frame.specs.Collector.{heard}
use Rattle.frame.specs.Frame.{complete, counted}
use Rattle.frame.specs.Framing.{Framed, Framing, Sound, begun as begun_with, byte, frames, framing, idle, inside, quiet}
use Rattle.frame.specs.declared.Header.{Header}
use Rattle.frame.specs.declared.Header.TheVariants.{Command, Data}
use Rattle.part.specs.declared.Part.{Part}
use Rattle.words.proofs.Laws.{and_right}

-- Sounds that complete nothing, from one place to another.
pub data Leads (h : Header) : Framing → List Sound → Framing → Type 0 where
  here : (w : Framing) → Leads h w [] w
  on : (w y x : Framing) (v : Sound) (vs : List Sound) → framing h w v ≡ quiet y → Leads h y vs x → Leads h w (v ∷ vs) x

pub leads-frames : {h : Header} {w x : Framing} {us : List Sound} → Leads h w us x → (vs : List Sound) → frames h w (us ++ vs) ≡ frames h x vs
unfolding frames
leads-frames (here w) vs = refl
leads-frames {h} (on w y x v us e l) vs = ap (λ (f : Framed). f.done ++ frames h f.stands (us ++ vs)) e ∙ leads-frames l vs

pub leads-quiet : (a : Awaits) {w x : Framing} {us : List Sound} → Leads (header_of a) w us x → (vs : List Sound) → completes_only no_frame a w (us ++ vs) ≡ true
    → completes_only no_frame a x vs ≡ true
unfolding completes_only then_awaits
leads-quiet a (here w) vs q = q
leads-quiet a (on w y x v us e l) vs q =
    let r = and_right (permitted no_frame a (framing (header_of a) w v).done (empty (us ++ vs))) _ q in
    leads-quiet a l vs (ap (λ (f : Framed). completes_only no_frame (then_awaits a f.done) f.stands (us ++ vs)) (sym e) ∙ r)

-- Bytes lead from w to the place of the bytes hs.
pub record Stood (h : Header) (w : Framing) (bs hs : List ℕ) : Type 0 where
  pub at : Framing
  pub leads : Leads h w (map byte bs) at
  pub same : Same at hs

regroup : {w : Framing} (x l b : ℕ) (got rest : List ℕ) → Same w (x ∷ l ∷ ((got ++ b ∷ []) ++ rest)) → Same w (x ∷ l ∷ (got ++ b ∷ rest))
regroup x l b got rest s = rw append_snoc at s

stood-inside : (h : Header) (x l : ℕ) (got rest : List ℕ) (n : ℕ) → length got + n ≡ counted l + 2 → length rest < n
    → Stood h (inside (x ∷ l ∷ got) n) rest (x ∷ l ∷ (got ++ rest))
stood-inside h x l got [] n e k =
    record { at = inside (x ∷ l ∷ got) n; leads = here _; same = rw append-nil (some x l got n (omega arith) e) }
stood-inside h x l got (b ∷ rest) n e k =
    let m : length (got ++ b ∷ []) ≡ length got + 1 = length-append got (b ∷ []) in
    let r = stood-inside h x l (got ++ b ∷ []) rest (n - 1) (omega arith) (omega arith) in
    record {
      at = r.at;
      leads = on _ (inside (x ∷ l ∷ (got ++ b ∷ [])) (n - 1)) _ (byte b) (map byte rest) (step-more h (x ∷ l ∷ got) n b (omega arith)) r.leads;
      same = regroup x l b got rest r.same;
    }

stood : (h : Header) (hs : List ℕ) → Begins h hs → complete hs ≡ false → Stood h idle hs hs
unfolding complete framing
stood h [] Begins.nothing c = record { at = idle; leads = here idle; same = nothing }
stood h (x ∷ []) (Begins.header y ys e) c =
    record { at = begun_with x; leads = on idle (begun_with x) (begun_with x) (byte x) [] (step-begins h x e) (here (begun_with x)); same = header x }
stood h (x ∷ l ∷ rest) (Begins.header y ys e) c = go (dec_lt (length rest) (counted l + 2))
  where
    go : Dec (length rest < counted l + 2) → Stood h idle (x ∷ l ∷ rest) (x ∷ l ∷ rest)
    go (yes k) =
        let r = stood-inside h x l [] rest (counted l + 2) (omega arith) k in
        record {
          at = r.at;
          leads = on idle (begun_with x) _ (byte x) (map byte (l ∷ rest)) (step-begins h x e) (on (begun_with x) _ _ (byte l) (map byte rest) refl r.leads);
          same = r.same;
        }
    go (no k) = absurd (false≢true (sym c ∙ full-yes (suc (suc (length rest))) l (omega arith) (omega arith)))

-- What a chip has collected that stands.
pub chip-stood : (p : Part) (o : Outcome) → Stands p o → AwaitsFrame o.chip.core.phase
    → Stood (header_in o.chip.core.phase) idle (heard o.chip.collector) (heard o.chip.collector)
unfolding hearing
chip-stood p o s a = go o.chip.core.phase refl a
  where
    some-stood : (h : Header) → good_begun h o.chip.collector.len (get_or o.chip.collector.bytes 0 0) (get_or o.chip.collector.bytes 1 0) ≡ true
        → Stood h idle (heard o.chip.collector) (heard o.chip.collector)
    some-stood h g =
        stood h (heard o.chip.collector) (good-begins h o.chip.collector s.places g) (begun h o.chip.collector s.places g).lacks

    collected : (e : Hearing) → hearing o.chip.core.phase ≡ e
        → good_collected e o.chip.collector.len (get_or o.chip.collector.bytes 0 0) (get_or o.chip.collector.bytes 1 0) ≡ true
    collected e q = state-collected p o.chip.core _ _ _ e (accepts s.accepted).state q

    go : (f : Phase) → o.chip.core.phase ≡ f → AwaitsFrame f → Stood (header_in f) idle (heard o.chip.collector) (heard o.chip.collector)
    go f e (command in_setup) = some-stood Command (sym (command-collected _ _ _) ∙ collected HearsCommands (ap hearing e))
    go f e (command in_ready) = some-stood Command (sym (command-collected _ _ _) ∙ collected HearsCommands (ap hearing e))
    go f e (page w) = some-stood Data (sym (data-collected w _ _ _) ∙ collected (HearsData w) (ap hearing e))
