-- Laws of the engine's turns: a turn takes a byte at least, or what lies ahead is held and stays; so more turns than bytes change nothing.
-- Assumes nothing.
use mathlib.Core.Bool.{Bool, false, not, true}
use mathlib.Core.List.{List, [], ◌∷◌}
use mathlib.Core.Path.{◌∙◌, ◌≡◌, ap, refl, sym}
use native.Mathlib.Decide.{dec_lt}
use Prim.Native.Nat.{◌+◌, ◌-◌, ◌<◌, ◌≤◌, suc, zero, ℕ}
use native.Mathlib.Omega.{arith}
use lib.Dec.{eqb}
use lib.ListN.{drop, get_or, length, length-drop, take}
use Rattle.chip_core.specs.Hearing.{hearing}
use Rattle.chip_core.specs.declared.Hearing.{Hearing}
use Rattle.chip_core.specs.declared.Hearing.TheVariants.{HearsCommands, HearsData, HearsNothing}
use Rattle.engine.specs.Engine.{Plain, after_frame, after_mode, front_for, front_of, facing, played_out, turn, turn_by, turns}
use Rattle.engine.specs.declared.Front.{Front}
use Rattle.engine.specs.declared.Front.TheVariants.{Held, Mode, Skipped, Whole}
use Rattle.frame.specs.Frame.{complete, counted, header_byte}
use Rattle.frame.specs.declared.Header.{Header}
use Rattle.frame.specs.declared.Header.TheVariants.{Command, Data}
use Rattle.part.specs.declared.Part.{Part}
use Rattle.frame.proofs.Laws.Collector.{complete-is}
use Rattle.frame.proofs.Laws.Frame.{full-not, full-room, full-short}
use Rattle.words.specs.Words.{if◌then◌otherwise◌}

abbrev pub front_in : Plain → Front
front_in x = front_of (hearing x.stands.core.phase) x.ahead

-- What each front says of the bytes ahead.
pub data Fronted (bs : List ℕ) : Front → Type 0 where
  held_ahead : complete bs ≡ false → Fronted bs Held
  one_skipped : 1 ≤ length bs → Fronted bs Skipped
  one_mode : 1 ≤ length bs → Fronted bs Mode
  whole_frame : {n : ℕ} → complete bs ≡ true → n ≡ counted (get_or bs 1 0) + 4 → Fronted bs (Whole n)

front-for : (h : Header) (bs : List ℕ) → 1 ≤ length bs → Fronted bs (front_for h bs)
unfolding front_for if◌then◌otherwise◌
front-for h bs l = go (not (eqb (get_or bs 0 0) (header_byte h)))
  where
    inside : (t : Bool) → complete bs ≡ t → Fronted bs (if t then Whole (counted (get_or bs 1 0) + 4) otherwise Held)
    inside true e = whole_frame e refl
    inside false e = held_ahead e

    go : (t : Bool) → Fronted bs (if t then Skipped otherwise if complete bs then Whole (counted (get_or bs 1 0) + 4) otherwise Held)
    go true = one_skipped l
    go false = inside (complete bs) refl

pub fronted : (f : Hearing) (bs : List ℕ) → Fronted bs (front_of f bs)
unfolding front_of
fronted f [] = held_ahead (complete-is [] ∙ full-short 0 (get_or [] 1 0) (omega arith))
fronted HearsNothing (b ∷ bs) = one_mode (omega arith)
fronted HearsCommands (b ∷ bs) = front-for Command (b ∷ bs) (omega arith)
fronted (HearsData w) (b ∷ bs) = front-for Data (b ∷ bs) (omega arith)

-- A whole frame lies in the bytes ahead.
pub complete-long : (bs : List ℕ) → complete bs ≡ true → counted (get_or bs 1 0) + 4 ≤ length bs
complete-long bs e = go (dec_lt (length bs) (counted (get_or bs 1 0) + 4))
  where
    go : Dec (length bs < counted (get_or bs 1 0) + 4) → counted (get_or bs 1 0) + 4 ≤ length bs
    go (no k) = omega arith
    go (yes k) = absurd (let z : ◌≡◌ {A = Bool} true false = sym e ∙ complete-is bs ∙ full-not _ _ k in let y : ◌≡◌ {A = ℕ} 0 1 = cc in omega arith)

pub whole-fits : (f : Hearing) (bs : List ℕ) (m : ℕ) → front_of f bs ≡ Whole m → (1 ≤ m) × (m ≤ length bs)
whole-fits f bs m e = go (front_of f bs) (fronted f bs) e
  where
    go : (r : Front) → Fronted bs r → r ≡ Whole m → (1 ≤ m) × (m ≤ length bs)
    go r (held_ahead k) q = absurd (let y : ◌≡◌ {A = ℕ} 0 1 = cc in omega arith)
    go r (one_skipped l) q = absurd (let y : ◌≡◌ {A = ℕ} 0 1 = cc in omega arith)
    go r (one_mode l) q = absurd (let y : ◌≡◌ {A = ℕ} 0 1 = cc in omega arith)
    go r (whole_frame {n} k u) q = let z : n ≡ m = cc in (omega arith, omega (arith, complete-long bs k))

-- What is held is shorter than the longest frame.
pub held-short : (f : Hearing) (bs : List ℕ) → front_of f bs ≡ Held → counted (get_or bs 1 0) ≤ 256 → length bs < 260
held-short f bs e c = go (front_of f bs) (fronted f bs) e
  where
    go : (r : Front) → Fronted bs r → r ≡ Held → length bs < 260
    go r (held_ahead k) q = full-room (length bs) (get_or bs 1 0) (sym (complete-is bs) ∙ k) c
    go r (one_skipped l) q = absurd (let y : ◌≡◌ {A = ℕ} 0 1 = cc in omega arith)
    go r (one_mode l) q = absurd (let y : ◌≡◌ {A = ℕ} 0 1 = cc in omega arith)
    go r (whole_frame k u) q = absurd (let y : ◌≡◌ {A = ℕ} 0 1 = cc in omega arith)

-- One turn.
turn_is : (p : Part) (x : Plain) (r : Front) → front_in x ≡ r → turn p x ≡ turn_by r p x
unfolding turn
turn_is p x r e = ap (λ (r : Front). turn_by r p x) e

pub turn-held : (p : Part) (x : Plain) → front_in x ≡ Held → turn p x ≡ x
unfolding turn_by
turn-held p x e = turn_is p x Held e

pub turn-skips : (p : Part) (x : Plain) → front_in x ≡ Skipped → turn p x ≡ facing (drop 1 x.ahead) x.stands
unfolding turn_by
turn-skips p x e = turn_is p x Skipped e

pub turn-mode : (p : Part) (x : Plain) → front_in x ≡ Mode → turn p x ≡ facing (drop 1 x.ahead) (after_mode (get_or x.ahead 0 0) x.stands)
unfolding turn_by
turn-mode p x e = turn_is p x Mode e

pub turn-whole : (p : Part) (x : Plain) (n : ℕ) → front_in x ≡ Whole n → turn p x ≡ facing (drop n x.ahead) (after_frame p (take n x.ahead) x.stands)
unfolding turn_by
turn-whole p x n e = turn_is p x (Whole n) e

-- A turn takes a byte at least, or nothing.
pub data Turning (p : Part) (x : Plain) : Type 0 where
  still : front_in x ≡ Held → Turning p x
  onward : length (turn p x).ahead < length x.ahead → Turning p x

pub turning : (p : Part) (x : Plain) → Turning p x
turning p x = go (front_in x) refl (fronted (hearing x.stands.core.phase) x.ahead)
  where
    shorter : (n : ℕ) → (turn p x).ahead ≡ drop n x.ahead → 1 ≤ n → n ≤ length x.ahead → Turning p x
    shorter n e l k = onward (let z : length (turn p x).ahead ≡ length x.ahead - n = ap length e ∙ length-drop n x.ahead in omega arith)

    go : (r : Front) → front_in x ≡ r → Fronted x.ahead r → Turning p x
    go r e (held_ahead k) = still e
    go r e (one_skipped l) = shorter 1 (ap (λ (y : Plain). y.ahead) (turn-skips p x e)) (omega arith) l
    go r e (one_mode l) = shorter 1 (ap (λ (y : Plain). y.ahead) (turn-mode p x e)) (omega arith) l
    go r e (whole_frame {n} k u) =
        shorter n (ap (λ (y : Plain). y.ahead) (turn-whole p x n e)) (omega arith) (omega (arith, complete-long x.ahead k))

turns-still : (n : ℕ) (p : Part) (x : Plain) → front_in x ≡ Held → turns n p x ≡ x
unfolding turns
turns-still zero p x e = refl
turns-still (suc n) p x e = ap (turns n p) (turn-held p x e) ∙ turns-still n p x e

turns-enough : (n m : ℕ) (p : Part) (x : Plain) → length x.ahead ≤ n → length x.ahead ≤ m → turns n p x ≡ turns m p x
unfolding turns
turns-enough zero zero p x k l = refl
turns-enough zero (suc m) p x k l = go (turning p x)
  where
    go : Turning p x → x ≡ turns m p (turn p x)
    go (still e) = sym (turns-still (suc m) p x e)
    go (onward e) = absurd (omega arith)
turns-enough (suc n) zero p x k l = go (turning p x)
  where
    go : Turning p x → turns n p (turn p x) ≡ x
    go (still e) = turns-still (suc n) p x e
    go (onward e) = absurd (omega arith)
turns-enough (suc n) (suc m) p x k l = go (turning p x) (turns-enough n m p (turn p x))
  where
    go : Turning p x → (length (turn p x).ahead ≤ n → length (turn p x).ahead ≤ m → turns n p (turn p x) ≡ turns m p (turn p x)) → turns n p (turn p x) ≡ turns m p (turn p x)
    go (still e) i = turns-still (suc n) p x e ∙ sym (turns-still (suc m) p x e)
    go (onward e) i = i (omega arith) (omega arith)

pub turns-play : (n : ℕ) (p : Part) (x : Plain) → length x.ahead ≤ n → turns n p x ≡ played_out p x
unfolding played_out
turns-play n p x k = turns-enough n (length x.ahead) p x k (omega arith)

-- Playing goes on from a turn.
pub play-on : (p : Part) (x : Plain) → played_out p x ≡ played_out p (turn p x)
unfolding turns
play-on p x = sym (turns-play (suc (length x.ahead)) p x (omega arith)) ∙ turns-play (length x.ahead) p (turn p x) (go (turning p x))
  where
    go : Turning p x → length (turn p x).ahead ≤ length x.ahead
    go (still e) = let z : length (turn p x).ahead ≡ length x.ahead = ap (λ (y : Plain). length y.ahead) (turn-held p x e) in omega arith
    go (onward e) = omega arith

pub play-held : (p : Part) (x : Plain) → front_in x ≡ Held → played_out p x ≡ x
unfolding played_out
play-held p x e = turns-still (length x.ahead) p x e
