-- Laws of the plain engine's definition (document 02, §7), beside those that its code rests on: what lies at the front and what a turn takes of it, also where more bytes
-- follow; and that a stretch may be cut anywhere (`TurnsAppend`).
-- Assumes nothing.
use mathlib.Core.Bool.{Bool, false, true}
use mathlib.Core.List.{List, [], ◌++◌, ◌∷◌}
use mathlib.Core.Path.{◌∙◌, ◌≡◌, ap, refl, sym}
use Prim.Native.Nat.{◌+◌, ◌<◌, ◌≤◌, suc, zero, ℕ}
use native.Mathlib.Omega.{arith}
use lib.Dec.{eqb}
use lib.ListN.{get_or-append, drop, get_or, length, length-append, length-drop, take}
use lib.Seq.{drop-append-le, take-append-le}
use borrow.Author.Tests.{eq-eqb, eqb-false, eqb-true, ne_eqb}
use Rattle.chip_core.specs.Hearing.{hearing}
use Rattle.chip_core.specs.declared.Awaited.{Awaited}
use Rattle.chip_core.specs.declared.Hearing.{Hearing}
use Rattle.chip_core.specs.declared.Hearing.TheVariants.{HearsCommands, HearsData, HearsNothing}
use Rattle.claims_engine.specs.Claims.{TurnsAppend}
use Rattle.engine.proofs.Turns.{complete-long, play-held, play-on}
use Rattle.engine.proofs.Turns as engine
use Rattle.engine.specs.Engine.{Plain, Stand, after_frame, after_mode, front_for, front_of, facing, played_out, turn}
use Rattle.engine.specs.declared.Front.TheVariants.{Held, Mode, Skipped, Whole}
use Rattle.frame.proofs.Laws.Frame.{counted-some, full-yes}
use Rattle.frame.specs.Frame.{complete, counted, header_byte}
use Rattle.frame.specs.declared.Header.{Header}
use Rattle.frame.specs.declared.Header.TheVariants.{Command, Data}
use Rattle.part.specs.declared.Part.{Part}
use Rattle.words.specs.Words.{if◌then◌otherwise◌}

-- The header that a phase hears.
pub data HearsFor : Hearing → Header → Type 0 where
  for_commands : HearsFor HearsCommands Command
  for_data : (w : Awaited) → HearsFor (HearsData w) Data

-- What lies at the front of the bytes ahead.
pub data Lies (f : Hearing) (bs : List ℕ) : Type 0 where
  nothing : bs ≡ [] → Lies f bs
  mode : (b : ℕ) (cs : List ℕ) → f ≡ HearsNothing → bs ≡ b ∷ cs → Lies f bs
  skipped : (h : Header) (b : ℕ) (cs : List ℕ) → HearsFor f h → bs ≡ b ∷ cs → (b ≡ header_byte h → ⊥) → Lies f bs
  part : (h : Header) → HearsFor f h → get_or bs 0 0 ≡ header_byte h → complete bs ≡ false → Lies f bs
  whole : (h : Header) → HearsFor f h → get_or bs 0 0 ≡ header_byte h → complete bs ≡ true → Lies f bs

lies-for : (f : Hearing) (h : Header) (b : ℕ) (cs : List ℕ) → HearsFor f h → Lies f (b ∷ cs)
lies-for f h b cs w = go (eqb b (header_byte h)) refl (complete (b ∷ cs)) refl
  where
    go : (t : Bool) → eqb b (header_byte h) ≡ t → (u : Bool) → complete (b ∷ cs) ≡ u → Lies f (b ∷ cs)
    go false t u v = skipped h b cs w refl (eqb-false b (header_byte h) t)
    go true t false v = part h w (eqb-true b (header_byte h) t) v
    go true t true v = whole h w (eqb-true b (header_byte h) t) v

pub lies : (f : Hearing) (bs : List ℕ) → Lies f bs
lies f [] = nothing refl
lies HearsNothing (b ∷ cs) = mode b cs refl refl
lies HearsCommands (b ∷ cs) = lies-for HearsCommands Command b cs for_commands
lies (HearsData w) (b ∷ cs) = lies-for (HearsData w) Data b cs (for_data w)

pub complete-append : (bs ys : List ℕ) → complete bs ≡ true → complete (bs ++ ys) ≡ true
unfolding complete
complete-append bs ys e =
    let l : counted (get_or bs 1 0) + 4 ≤ length bs = complete-long bs e in
    let s : 1 ≤ counted (get_or bs 1 0) = counted-some (get_or bs 1 0) in
    let n : length (bs ++ ys) ≡ length bs + length ys = length-append bs ys in
    let d : get_or (bs ++ ys) 1 0 ≡ get_or bs 1 0 = get_or-append bs ys 0 1 (omega arith) in
    rw d (full-yes (length (bs ++ ys)) (get_or bs 1 0) (omega arith) (omega arith))

-- The front, by what lies there.
pub front-mode : (f : Hearing) (b : ℕ) (cs : List ℕ) → f ≡ HearsNothing → front_of f (b ∷ cs) ≡ Mode
unfolding front_of
front-mode f b cs e = rw e

front-for : (f : Hearing) (h : Header) (b : ℕ) (cs : List ℕ) → HearsFor f h → front_of f (b ∷ cs) ≡ front_for h (b ∷ cs)
unfolding front_of
front-for f h b cs for_commands = refl
front-for f h b cs (for_data w) = refl

pub front-skipped : (f : Hearing) (h : Header) (b : ℕ) (cs : List ℕ) → HearsFor f h → (b ≡ header_byte h → ⊥) → front_of f (b ∷ cs) ≡ Skipped
unfolding front_for if◌then◌otherwise◌
front-skipped f h b cs w n = front-for f h b cs w ∙ simp (ne_eqb b (header_byte h) n)

pub front-whole : (f : Hearing) (h : Header) (bs : List ℕ) → HearsFor f h → get_or bs 0 0 ≡ header_byte h → complete bs ≡ true
    → front_of f bs ≡ Whole (counted (get_or bs 1 0) + 4)
unfolding front_for if◌then◌otherwise◌
front-whole f h [] w e c = absurd (omega (arith, complete-long [] c))
front-whole f h (b ∷ cs) w e c = front-for f h b cs w ∙ simp (eq-eqb b (header_byte h) e, c)

pub front-part : (f : Hearing) (h : Header) (bs : List ℕ) → HearsFor f h → get_or bs 0 0 ≡ header_byte h → complete bs ≡ false → front_of f bs ≡ Held
unfolding front_for if◌then◌otherwise◌ front_of
front-part f h [] w e c = refl
front-part f h (b ∷ cs) w e c = front-for f h b cs w ∙ simp (eq-eqb b (header_byte h) e, c)

pub front-none : (f : Hearing) (bs : List ℕ) → length bs ≤ 0 → front_of f bs ≡ Held
unfolding front_of
front-none f [] h = refl
front-none f (b ∷ cs) h = absurd (omega arith)

-- One turn, by what lies at the front.
pub turn-mode : (p : Part) (b : ℕ) (cs : List ℕ) (s : Stand) → hearing s.core.phase ≡ HearsNothing → turn p (facing (b ∷ cs) s) ≡ facing cs (after_mode b s)
turn-mode p b cs s f = engine.turn-mode p (facing (b ∷ cs) s) (front-mode _ b cs f)

pub turn-skipped : (p : Part) (h : Header) (b : ℕ) (cs : List ℕ) (s : Stand) → HearsFor (hearing s.core.phase) h → (b ≡ header_byte h → ⊥)
    → turn p (facing (b ∷ cs) s) ≡ facing cs s
turn-skipped p h b cs s w n = engine.turn-skips p (facing (b ∷ cs) s) (front-skipped _ h b cs w n)

pub turn-whole : (p : Part) (h : Header) (bs : List ℕ) (s : Stand) → HearsFor (hearing s.core.phase) h → get_or bs 0 0 ≡ header_byte h → complete bs ≡ true
    → let n = counted (get_or bs 1 0) + 4 in
    turn p (facing bs s) ≡ facing (drop n bs) (after_frame p (take n bs) s)
turn-whole p h bs s w e c = engine.turn-whole p (facing bs s) (counted (get_or bs 1 0) + 4) (front-whole _ h bs w e c)

-- A byte at least is taken, or what lies ahead is held and nothing changes; and in the first case the same is taken where more bytes follow.
pub record Takes (p : Part) (x : Plain) : Type 0 where
  pub less : length (turn p x).ahead < length x.ahead
  pub same : (ys : List ℕ) → turn p (facing (x.ahead ++ ys) x.stands) ≡ facing ((turn p x).ahead ++ ys) (turn p x).stands

pub data Turned (p : Part) (x : Plain) : Type 0 where
  stays : front_of (hearing x.stands.core.phase) x.ahead ≡ Held → Turned p x
  takes : Takes p x → Turned p x

mode-takes : (p : Part) (b : ℕ) (cs : List ℕ) (s : Stand) → hearing s.core.phase ≡ HearsNothing → Takes p (facing (b ∷ cs) s)
mode-takes p b cs s f =
    let t = turn-mode p b cs s f in
    record { less = rw t (omega arith); same = λ ys. turn-mode p b (cs ++ ys) s f ∙ rw t }

skip-takes : (p : Part) (h : Header) (b : ℕ) (cs : List ℕ) (s : Stand) → HearsFor (hearing s.core.phase) h → (b ≡ header_byte h → ⊥) → Takes p (facing (b ∷ cs) s)
skip-takes p h b cs s w n =
    let t = turn-skipped p h b cs s w n in
    record { less = rw t (omega arith); same = λ ys. turn-skipped p h b (cs ++ ys) s w n ∙ rw t }

whole_takes : (p : Part) (h : Header) (bs : List ℕ) (s : Stand) → HearsFor (hearing s.core.phase) h → get_or bs 0 0 ≡ header_byte h → complete bs ≡ true
    → Takes p (facing bs s)
whole_takes p h bs s w e c =
    let n = counted (get_or bs 1 0) + 4 in
    let l : n ≤ length bs = complete-long bs c in
    let k : 1 ≤ counted (get_or bs 1 0) = counted-some (get_or bs 1 0) in
    let t : turn p (facing bs s) ≡ facing (drop n bs) (after_frame p (take n bs) s) = turn-whole p h bs s w e c in
    record {
      less = rw (t, length-drop) (omega arith);
      same = λ ys.
          let d : get_or (bs ++ ys) 1 0 ≡ get_or bs 1 0 = get_or-append bs ys 0 1 (omega arith) in
          let g : get_or (bs ++ ys) 0 0 ≡ header_byte h = get_or-append bs ys 0 0 (omega arith) ∙ e in
          turn-whole p h (bs ++ ys) s w g (complete-append bs ys c)
          ∙ rw (d, t, drop-append-le, take-append-le);
    }

pub turned : (p : Part) (x : Plain) → Turned p x
turned p x = go (lies (hearing x.stands.core.phase) x.ahead)
  where
    go : Lies (hearing x.stands.core.phase) x.ahead → Turned p x
    go (nothing e) = stays (front-none _ x.ahead (omega (arith, ap length e)))
    go (mode b cs f e) = takes (rw (← e) at (mode-takes p b cs x.stands f))
    go (skipped h b cs w e n) = takes (rw (← e) at (skip-takes p h b cs x.stands w n))
    go (part h w e c) = stays (front-part _ h x.ahead w e c)
    go (whole h w e c) = takes (whole_takes p h x.ahead x.stands w e c)

-- What is left ahead is held.
Ends : Plain → Type 0
Ends y = front_of (hearing y.stands.core.phase) y.ahead ≡ Held

turns-end : (n : ℕ) (p : Part) (x : Plain) → length x.ahead ≤ n → Ends (played_out p x)
unfolding Ends
turns-end zero p x h = let e = front-none _ x.ahead h in rw (play-held p x e) e
turns-end (suc n) p x h = go (λ l. turns-end n p (turn p x) l) (turned p x)
  where
    go : (length (turn p x).ahead ≤ n → Ends (played_out p (turn p x))) → Turned p x → Ends (played_out p x)
    go on (stays e) = rw (play-held p x e) e
    go on (takes t) = let l = t.less in rw (play-on p x) (on (omega arith))

pub play-ends : (p : Part) (x : Plain) → let y = played_out p x in front_of (hearing y.stands.core.phase) y.ahead ≡ Held
unfolding Ends
play-ends p x = turns-end (length x.ahead) p x (omega arith)

-- Cut anywhere.
Cut : Part → Plain → List ℕ → Type 0
Cut p x ys = played_out p (facing (x.ahead ++ ys) x.stands) ≡ played_out p (facing ((played_out p x).ahead ++ ys) (played_out p x).stands)

cut-held : (p : Part) (x : Plain) (ys : List ℕ) → front_of (hearing x.stands.core.phase) x.ahead ≡ Held → Cut p x ys
unfolding Cut
cut-held p x ys e = ap (λ (y : Plain). played_out p (facing (y.ahead ++ ys) y.stands)) (sym (play-held p x e))

cut : (n : ℕ) (p : Part) (x : Plain) (ys : List ℕ) → length x.ahead ≤ n → Cut p x ys
unfolding Cut
cut zero p x ys h = cut-held p x ys (front-none _ x.ahead h)
cut (suc n) p x ys h = go (λ l. cut n p (turn p x) ys l) (turned p x)
  where
    go : (length (turn p x).ahead ≤ n → Cut p (turn p x) ys) → Turned p x → Cut p x ys
    go on (stays e) = cut-held p x ys e
    go on (takes t) =
        let l = t.less in
        play-on p (facing (x.ahead ++ ys) x.stands) ∙ ap (played_out p) (t.same ys) ∙ on (omega arith)
        ∙ ap (λ (y : Plain). played_out p (facing (y.ahead ++ ys) y.stands)) (sym (play-on p x))

pub turns-append : TurnsAppend
unfolding Cut
turns-append p xs ys s = cut (length xs) p (facing xs s) ys (omega arith)
