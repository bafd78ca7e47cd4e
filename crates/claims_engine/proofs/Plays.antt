-- Playing the bytes ahead is feeding them, from a chip with nothing collected: by the engine's turns (document 02, §7).
-- Assumes nothing.
use mathlib.Core.Bool.{true}
use mathlib.Core.List.{List, [], ◌++◌, ◌∷◌, map, map-append}
use mathlib.Core.Path.{◌∙◌, ◌≡◌, ap, refl, subst, sym}
use Prim.Native.Nat.{◌+◌, ◌-◌, ◌≤◌, suc, zero, ℕ}
use native.Mathlib.Omega.{arith}
use lib.ListN.{drop, get_or, length, length-append, replicate, take, take-append-drop}
use lib.Seq.{get_or-take, length-take-le}
use Rattle.chip.proofs.Runs.{run-append}
use Rattle.chip.specs.Run.{answers, onward, run, spoken_in}
use Rattle.chip.specs.Step.{Outcome, reaction}
use Rattle.chip.specs.declared.Event.{Event}
use Rattle.chip.specs.declared.Event.TheVariants.{Byte}
use Rattle.chip_core.specs.Effect.{Effect}
use Rattle.chip_core.specs.Hearing.{hearing}
use Rattle.chip_core.specs.declared.Core.{Core}
use Rattle.chip_frame.specs.Does.{mode_byte}
use Rattle.chip_state.proofs.Laws.{none-good}
use Rattle.chip_state.specs.Refusals.{good_heard}
use Rattle.claims_engine.proofs.Laws.{HearsFor, Lies, front-none, front-part, lies, mode, nothing, part, skipped, turn-mode, turn-skipped, turn-whole, whole}
use Rattle.claims_engine.proofs.Steps.{Passes, awaits-for, keeps, mode-passes, part-good, skip-passes}
use Rattle.claims_engine.proofs.Tells.{Tells, silence-says, tells-append, tells-one, tells-silent}
use Rattle.claims_fed.proofs.Frames.{bytes-proper, fed-is-done}
use Rattle.claims_fed.specs.Awaits.{header_in}
use Rattle.claims_fed.specs.Fed.{FedIsDone, does, does_in, silence}
use Rattle.claims_good.proofs.Rooms.{utterance_of}
use Rattle.claims_good.proofs.Stays.{run-stands, stays}
use Rattle.claims_good.specs.Good.{Stands, Utterance, a_byte, utterances, uttered}
use Rattle.engine.proofs.Turns.{complete-long, play-held, play-on}
use Rattle.engine.specs.Engine.{Plain, Stand, after_frame, after_mode, front_of, facing, played_out, turn}
use Rattle.engine.specs.declared.Front.TheVariants.{Held}
use Rattle.frame.proofs.Laws.Collector.{heard-none}
use Rattle.frame.proofs.Laws.Frame.{counted-frame}
use Rattle.frame.proofs.Laws.Sum.{Below, below-drop, below-take, more}
use Rattle.frame.specs.Collector.{heard}
use Rattle.frame.specs.Frame.{complete, counted, header_byte}
use Rattle.frame.specs.declared.Header.{Header}
use Rattle.part.specs.declared.Part.{Part}

-- What is said to one list of events after another.
pub says-append : (p : Part) (us vs : List Event) (o : Outcome) → utterances p (us ++ vs) o ≡ utterances p us o ++ utterances p vs (run p us o)
unfolding utterances answers run
says-append p [] vs o = refl
says-append p (u ∷ us) vs o = ap (λ (zs : List Utterance). uttered (spoken_in (onward p o u)) ∷ zs) (says-append p us vs (onward p o u))

-- The engine before these bytes and the chip that is fed them stand at the same place, and nothing is collected.
pub record Meets (x : Plain) (o : Outcome) : Type 0 where
  pub core : o.chip.core ≡ x.stands.core
  pub memory : o.memory ≡ x.stands.memory
  pub count : o.chip.collector.len ≡ 0

-- From x to y the engine goes as the chip does that is fed the bytes ahead.
pub record Plays (p : Part) (x y : Plain) (o : Outcome) : Type 0 where
  pub core : (run p (map Byte x.ahead) o).chip.core ≡ y.stands.core
  pub memory : (run p (map Byte x.ahead) o).memory ≡ y.stands.memory
  pub hears : heard (run p (map Byte x.ahead) o).chip.collector ≡ y.ahead
  pub tells : Tells x.stands (utterances p (map Byte x.ahead) o) y.stands

-- Some of the bytes, and then the others.
then-plays : (p : Part) (ds es : List ℕ) (s t : Stand) (y : Plain) (o : Outcome) → Tells s (utterances p (map Byte ds) o) t
    → Plays p (facing es t) y (run p (map Byte ds) o) → Plays p (facing (ds ++ es) s) y o
then-plays p ds es s t y o a r =
    let e : run p (map Byte (ds ++ es)) o ≡ run p (map Byte es) (run p (map Byte ds) o) =
    ap (λ (vs : List Event). run p vs o) (map-append Byte ds es) ∙ run-append p (map Byte ds) (map Byte es) o in
    let u : utterances p (map Byte (ds ++ es)) o ≡ utterances p (map Byte ds) o ++ utterances p (map Byte es) (run p (map Byte ds) o) =
    ap (λ (vs : List Event). utterances p vs o) (map-append Byte ds es) ∙ says-append p (map Byte ds) (map Byte es) o in
    record {
      core = ap (λ (q : Outcome). q.chip.core) e ∙ r.core;
      memory = ap (λ (q : Outcome). q.memory) e ∙ r.memory;
      hears = ap (λ (q : Outcome). heard q.chip.collector) e ∙ r.hears;
      tells = rw u (tells-append (utterances p (map Byte ds) o) _ a r.tells);
    }

-- What is held.
held-plays : (p : Part) (x : Plain) (o : Outcome) → Stands p o → Below 256 x.ahead → Meets x o → good_heard x.stands.core.phase x.ahead ≡ true
    → front_of (hearing x.stands.core.phase) x.ahead ≡ Held → Plays p x (played_out p x) o
held-plays p x o s b a g e =
    let z : heard o.chip.collector ≡ [] = heard-none o.chip.collector a.count in
    let r = keeps p x.ahead o s b (rw (z, a.core) g) in
    rw (play-held p x e)
    (record {
      core = r.core ∙ a.core;
      memory = r.memory ∙ a.memory;
      hears = r.hears ∙ rw z;
      tells = rw r.says (tells-silent (replicate (length x.ahead) silence) (silence-says (length x.ahead)) refl refl refl refl);
    })

-- All stretches of so many bytes.
Within : ℕ → Part → Type 0
Within n p = (x : Plain) (o : Outcome) → length x.ahead ≤ n → Stands p o → Below 256 x.ahead → Meets x o → Plays p x (played_out p x) o

-- A byte that passes.
byte-plays : (n : ℕ) (p : Part) → Within n p → (b : ℕ) (cs : List ℕ) (s t : Stand) (o : Outcome) → length (b ∷ cs) ≤ suc n → Stands p o → Below 256 (b ∷ cs)
    → Meets (facing (b ∷ cs) s) o → Passes p o b t.core → t.memory ≡ s.memory → Tells s (silence ∷ []) t → turn p (facing (b ∷ cs) s) ≡ facing cs t
    → Plays p (facing (b ∷ cs) s) (played_out p (facing (b ∷ cs) s)) o
unfolding Within run utterances answers
byte-plays n p rest b cs s t o l st (more k r) a q m w e =
    rw (play-on p (facing (b ∷ cs) s), e)
    (then-plays p (b ∷ []) cs s t (played_out p (facing cs t)) o (rw q.says w)
    (rest (facing cs t) (onward p o (Byte b)) (omega arith) (stays p o (Byte b) st (a_byte k)) r
    (record { core = q.core; memory = q.memory ∙ a.memory ∙ sym m; count = q.count })))

-- A whole frame.
frame-tells : (p : Part) (f : List ℕ) (s : Stand) (n : ℕ)
    → Tells s (replicate n silence ++ utterance_of p (reaction [] (does_in p f s.core s.memory)) ∷ []) (after_frame p f s)
unfolding after_frame utterance_of does_in does
frame-tells p f s n =
    tells-append {r = s} {s = s} {t = after_frame p f s} (replicate n silence) (utterance_of p (reaction [] (does_in p f s.core s.memory)) ∷ [])
    (tells-silent {s = s} {t = s} (replicate n silence) (silence-says n) refl refl refl refl)
    (tells-one {s = s} {t = after_frame p f s} (utterance_of p (reaction [] (does_in p f s.core s.memory))) refl refl refl refl)

module _ (n : ℕ) (p : Part) (rest : Within n p) (bs : List ℕ) (s : Stand) (o : Outcome) (l : length bs ≤ suc n) (st : Stands p o) (b : Below 256 bs)
    (a : Meets (facing bs s) o) where
  frame-plays : (f gs : List ℕ) → bs ≡ f ++ gs → 1 ≤ length f → FedIsDone p o f f → Below 256 f → Below 256 gs
      → turn p (facing bs s) ≡ facing gs (after_frame p f s) → Plays p (facing bs s) (played_out p (facing bs s)) o
  unfolding Within after_frame does_in does
  frame-plays f gs e i d bf bg t =
      let x : does_in p f o.chip.core o.memory ≡ does_in p f s.core s.memory = rw (a.core, a.memory) in
      let m : length bs ≡ length f + length gs = ap length e ∙ length-append f gs in
      let w : Tells s (utterances p (map Byte f) o) (after_frame p f s) = rw (d.answers, x) (frame-tells p f s (length f - 1)) in
      let r : Plays p (facing gs (after_frame p f s)) (played_out p (facing gs (after_frame p f s))) (run p (map Byte f) o) =
      rest (facing gs (after_frame p f s)) (run p (map Byte f) o) (omega arith) (run-stands p (map Byte f) o st (bytes-proper bf)) bg
      (record { core = d.core ∙ ap (λ (y : Effect). y.core) x; memory = d.memory ∙ ap (λ (y : Effect). y.memory) x; count = d.count }) in
      rw (play-on p (facing bs s), t, e) (then-plays p f gs s (after_frame p f s) _ o w r)

  whole-plays : (h : Header) → HearsFor (hearing s.core.phase) h → get_or bs 0 0 ≡ header_byte h → complete bs ≡ true
      → Plays p (facing bs s) (played_out p (facing bs s)) o
  whole-plays h w e c =
      let n = counted (get_or bs 1 0) + 4 in
      let i : n ≤ length bs = complete-long bs c in
      let f = take n bs in
      let j : length f ≡ n = length-take-le n bs i in
      let one : get_or f 1 0 ≡ get_or bs 1 0 = get_or-take n bs 1 0 (omega arith) in
      let q = awaits-for s.core.phase h w in
      let whole-frame : FedIsDone p o f f =
      fed-is-done p o f st (rw a.core q.frame) a.count (counted-frame f (j ∙ ap (λ (v : ℕ). counted v + 4) (sym one)))
      (get_or-take n bs 0 0 (omega arith) ∙ e ∙ ap header_byte (sym q.header) ∙ ap (λ (k : Core). header_byte (header_in k.phase)) (sym a.core))
      (below-take 256 n b) in
      frame-plays f (drop n bs) (sym (take-append-drop n bs)) (omega arith) whole-frame (below-take 256 n b) (below-drop 256 n b) (turn-whole p h bs s w e c)

-- One turn more.
one_more : (n : ℕ) (p : Part) → Within n p → Within (suc n) p
unfolding Within
one_more n p rest x o l st b a = go x.ahead l b a (lies (hearing x.stands.core.phase) x.ahead)
  where
    go : (bs : List ℕ) → length bs ≤ suc n → Below 256 bs → Meets (facing bs x.stands) o → Lies (hearing x.stands.core.phase) bs
        → Plays p (facing bs x.stands) (played_out p (facing bs x.stands)) o
    go bs l b a (nothing e) =
        held-plays p (facing bs x.stands) o st b a (rw e (none-good (hearing x.stands.core.phase) _ _)) (front-none _ bs (omega (arith, ap length e)))
    go bs l b a (part h w e c) = held-plays p (facing bs x.stands) o st b a (part-good _ h bs w e c b) (front-part _ h bs w e c)
    go bs l b a (whole h w e c) = whole-plays n p rest bs x.stands o l st b a h w e c
    go [] l b a (mode y cs f e) = absurd (omega (arith, ap length e))
    go [] l b a (skipped h y cs w e g) = absurd (omega (arith, ap length e))
    go (d ∷ ds) l b a (mode y cs f e) =
        byte-plays n p rest d ds x.stands (after_mode d x.stands) o l st b a
        (subst (Passes p o d) (ap (λ (k : Core). mode_byte k d) a.core) (mode-passes p o d st a.count (rw a.core f))) refl
        (tells-silent (silence ∷ []) (silence-says 1) refl refl refl refl) (turn-mode p d ds x.stands f)
    go (d ∷ ds) l b a (skipped h y cs w e g) =
        let u : d ≡ y = cc in
        let g2 : d ≡ header_byte h → ⊥ = λ z. g (sym u ∙ z) in
        byte-plays n p rest d ds x.stands x.stands o l st b a
        (subst (Passes p o d) a.core (skip-passes p o h d st a.count (rw a.core w) g2)) refl
        (tells-silent (silence ∷ []) (silence-says 1) refl refl refl refl) (turn-skipped p h d ds x.stands w g2)

none_ahead : (p : Part) → Within zero p
unfolding Within
none_ahead p x o l st b a = go x.ahead l b a
  where
    go : (bs : List ℕ) → length bs ≤ zero → Below 256 bs → Meets (facing bs x.stands) o → Plays p (facing bs x.stands) (played_out p (facing bs x.stands)) o
    go [] l b a = held-plays p (facing [] x.stands) o st b a (none-good (hearing x.stands.core.phase) _ _) (front-none _ [] (omega arith))
    go (d ∷ ds) l b a = absurd (omega arith)

within : (n : ℕ) (p : Part) → Within n p
unfolding Within
within zero p x o l st b a = none_ahead p x o l st b a
within (suc n) p x o l st b a = one_more n p (within n p) x o l st b a

pub plays : (p : Part) (x : Plain) (o : Outcome) → Stands p o → Below 256 x.ahead → Meets x o → Plays p x (played_out p x) o
unfolding Within
plays p x o st b a = within (length x.ahead) p x o (omega arith) st b a
