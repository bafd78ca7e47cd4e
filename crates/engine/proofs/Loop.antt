-- The loop over a stretch: what is to come makes the same of where the engine stands, from turn to turn.
-- Assumes nothing.
use mathlib.Core.List.{List}
use mathlib.Core.Path.{◌∙◌, ◌≡◌, ap, refl, sym}
use Prim.Native.Nat.{◌+◌, ◌-◌, ◌<◌, ◌≤◌, ℕ}
use native.Mathlib.Omega.{arith}
use lib.ListN.{drop, get_or, length, length-drop, take}
use lib.Seq.{drop-drop, get_or-drop, take_all}
use Rattle.chip_core.specs.Effect.{Memory}
use Rattle.chip_core.specs.Hearing.{hearing}
use Rattle.chip_core.specs.declared.Core.{Core}
use Rattle.chip_core.specs.declared.Hearing.{Hearing}
use Rattle.chip_frame.specs.Does.{mode_byte}
use Rattle.engine.proofs.Fronts.{front-none}
use Rattle.engine.proofs.Turns.{held-short, play-held, play-on, turn-mode, turn-skips, turn-whole, whole-fits}
use Rattle.engine.specs.Engine.{Plain, Stand, after_frame, front_of, facing, played_out, turn}
use Rattle.engine.specs.declared.Front.{Front}
use Rattle.engine.specs.declared.Front.TheVariants.{Held, Mode, Skipped, Whole}
use Rattle.engine.specs.declared.ToldSoFar.{ToldSoFar}
use Rattle.engine.specs.Inner.Answering.{Ample, Past, RoomAhead, for_each, for_one, stand_of}
use Rattle.frame.proofs.Laws.Frame.{counted-small}
use Rattle.part.specs.declared.Part.{Part}

-- How far a play has come: x is what the bytes still to come make of where it stands.
pub record PlayedFrom (p : Part) (bs : List ℕ) (t₀ : ToldSoFar) (room₀ : List ℕ) (i : ℕ) (k : Core) (t : ToldSoFar) (m : Memory) (room : List ℕ) (x : Plain) : Type 0 where
  pub inside : i ≤ length bs
  pub roomy : Ample k t (drop i bs) room
  pub few : t.faults ≤ i
  pub past : Past t₀ t room room₀
  pub rest : played_out p (facing (drop i bs) (stand_of k t m room)) ≡ x

ample-lies : {k : Core} {t : ToldSoFar} {bs room : List ℕ} → Ample k t bs room → t.bytes ≤ length room
ample-lies (for_each r) = omega (arith, r.left)
ample-lies (for_one e r) = omega (arith, r.left)

-- One byte was taken, and no frame lay at the front.
ample-less : {k : Core} {r : Front} (q : Core) (t : ToldSoFar) (bs : List ℕ) (i : ℕ) (room : List ℕ) → front_of (hearing k.phase) (drop i bs) ≡ r
    → (r ≡ Whole (length (drop i bs)) → ⊥) → i < length bs → Ample k t (drop i bs) room → Ample q t (drop (i + 1) bs) room
ample-less q t bs i room e z l (for_each r) =
    let a : length (drop i bs) ≡ length bs - i = length-drop i bs in
    let b : length (drop (i + 1) bs) ≡ length bs - (i + 1) = length-drop (i + 1) bs in
    for_each (record { left = omega (arith, r.left); framed = r.framed })
ample-less q t bs i room e z l (for_one f r) = absurd (z (sym e ∙ f))

-- A whole frame lay there: the room for its reply, and what is left after it.
pub ample-one : {k : Core} {t : ToldSoFar} {room : List ℕ} (bs : List ℕ) (i n : ℕ) → 1 ≤ n → i + n ≤ length bs → Ample k t (drop i bs) room → RoomAhead t 1 room
ample-one bs i n a b (for_each r) = let d : length (drop i bs) ≡ length bs - i = length-drop i bs in record { left = omega (arith, r.left); framed = r.framed }
ample-one bs i n a b (for_one e r) = r

ample-after : (k q : Core) (t u : ToldSoFar) (bs : List ℕ) (i n : ℕ) (room room' : List ℕ) → front_of (hearing k.phase) (drop i bs) ≡ Whole n → i ≤ length bs → RoomAhead u 0 room'
    → u.bytes ≤ t.bytes + 31 → length room' ≡ length room → Ample k t (drop i bs) room → Ample q u (drop (i + n) bs) room'
ample-after k q t u bs i n room room' e h r b l (for_each a) =
    let w = whole-fits (hearing k.phase) (drop i bs) n e in
    let d : length (drop i bs) ≡ length bs - i = length-drop i bs in
    let c : length (drop (i + n) bs) ≡ length bs - (i + n) = length-drop (i + n) bs in
    for_each (record { left = omega (arith, w.0, w.1, a.left); framed = r.framed })
ample-after k q t u bs i n room room' e h r b l (for_one f a) =
    let d : length (drop i bs) ≡ length bs - i = length-drop i bs in
    let c : length (drop (i + n) bs) ≡ length bs - (i + n) = length-drop (i + n) bs in
    let x : Whole n ≡ Whole (length (drop i bs)) = sym e ∙ f in
    let y : n ≡ length (drop i bs) = cc in
    for_each (record { left = omega (arith, r.left); framed = r.framed })

pub played-start : (p : Part) (bs : List ℕ) (i : ℕ) (k : Core) (t : ToldSoFar) (m : Memory) (room : List ℕ) → i ≤ length bs → Ample k t (drop i bs) room → t.faults ≤ i
    → PlayedFrom p bs t room i k t m room (played_out p (facing (drop i bs) (stand_of k t m room)))
played-start p bs i k t m room h r f = record { inside = h; roomy = r; few = f; past = record { grows = omega arith; lies = ample-lies r; stays = refl }; rest = refl }

-- The bytes ahead are lent as a part to the end.
pub ahead-is : (bs : List ℕ) (i : ℕ) → take (length bs - i) (drop i bs) ≡ drop i bs
ahead-is bs i = let e : length (drop i bs) ≡ length bs - i = length-drop i bs in take_all (length bs - i) (drop i bs) (omega arith)

pub front-is : {p : Part} {bs : List ℕ} {t₀ : ToldSoFar} {room₀ : List ℕ} {i : ℕ} {k : Core} {t : ToldSoFar} {m : Memory} {room : List ℕ} {x : Plain} (f : Hearing) (r q : Front)
    → PlayedFrom p bs t₀ room₀ i k t m room x → f ≡ hearing k.phase → r ≡ front_of f (take (length bs - i) (drop i bs)) → r ≡ q
    → front_of (hearing k.phase) (drop i bs) ≡ q
front-is {p} {bs} {t₀} {room₀} {i} {k} {t} {m} {room} {x} f r q h e g s =
    ap (λ (f : Hearing). front_of f (drop i bs)) (sym e) ∙ ap (front_of f) (sym (ahead-is bs i)) ∙ sym g ∙ s

turned : {p : Part} {bs : List ℕ} {t₀ : ToldSoFar} {room₀ : List ℕ} {i : ℕ} {k : Core} {t : ToldSoFar} {m : Memory} {room : List ℕ} {x : Plain} (n : ℕ) (s : Stand) → PlayedFrom p bs t₀ room₀ i k t m room x
    → turn p (facing (drop i bs) (stand_of k t m room)) ≡ facing (drop n (drop i bs)) s → played_out p (facing (drop (i + n) bs) s) ≡ x
turned {p} {bs} {t₀} {room₀} {i} {k} {t} {m} {room} {x} n s h e =
    ap (λ (y : List ℕ). played_out p (facing y s)) (sym (drop-drop n i bs)) ∙ sym (ap (played_out p) e) ∙ sym (play-on p (facing (drop i bs) (stand_of k t m room))) ∙ h.rest

pub played-skips : {p : Part} {bs : List ℕ} {t₀ : ToldSoFar} {room₀ : List ℕ} {i : ℕ} {k : Core} {t : ToldSoFar} {m : Memory} {room : List ℕ} {x : Plain} → PlayedFrom p bs t₀ room₀ i k t m room x
    → front_of (hearing k.phase) (drop i bs) ≡ Skipped → i < length bs → PlayedFrom p bs t₀ room₀ (i + 1) k t m room x
played-skips {p} {bs} {t₀} {room₀} {i} {k} {t} {m} {room} {x} h e l =
    record {
      inside = omega arith;
      roomy = ample-less k t bs i room e (λ q. let y : ◌≡◌ {A = ℕ} 0 1 = cc in omega arith) l h.roomy;
      few = omega (arith, h.few);
      past = h.past;
      rest = turned 1 (stand_of k t m room) h (turn-skips p (facing (drop i bs) (stand_of k t m room)) e);
    }

pub played-mode : {p : Part} {bs : List ℕ} {t₀ : ToldSoFar} {room₀ : List ℕ} {i : ℕ} {k : Core} {t : ToldSoFar} {m : Memory} {room : List ℕ} {x : Plain} (q : Core) → PlayedFrom p bs t₀ room₀ i k t m room x
    → front_of (hearing k.phase) (drop i bs) ≡ Mode → q ≡ mode_byte k (get_or bs i 0) → i < length bs → PlayedFrom p bs t₀ room₀ (i + 1) q t m room x
played-mode {p} {bs} {t₀} {room₀} {i} {k} {t} {m} {room} {x} q h e f l =
    let j : i ≡ i + 0 = omega arith in
    let b : q ≡ mode_byte k (get_or (drop i bs) 0 0) = f ∙ ap (λ (j : ℕ). mode_byte k (get_or bs j 0)) j ∙ ap (mode_byte k) (sym (get_or-drop i bs 0 0)) in
    record {
      inside = omega arith;
      roomy = ample-less q t bs i room e (λ q. let y : ◌≡◌ {A = ℕ} 0 1 = cc in omega arith) l h.roomy;
      few = omega (arith, h.few);
      past = h.past;
      rest =
          turned 1 (stand_of q t m room) h
          (turn-mode p (facing (drop i bs) (stand_of k t m room)) e ∙ ap (λ (c : Core). facing (drop 1 (drop i bs)) (stand_of c t m room)) (sym b));
    }

still-past : (n m : ℕ) (xs ys : List ℕ) → n ≤ m → drop n xs ≡ drop n ys → drop m xs ≡ drop m ys
still-past n m xs ys h e =
    let j : m ≡ n + (m - n) = omega arith in
    ap (λ (i : ℕ). drop i xs) j ∙ sym (drop-drop (m - n) n xs) ∙ ap (drop (m - n)) e ∙ drop-drop (m - n) n ys ∙ ap (λ (i : ℕ). drop i ys) (sym j)

pub past-on : {t₀ t u : ToldSoFar} {room₀ room room' : List ℕ} → Past t₀ t room room₀ → Past t u room' room → Past t₀ u room' room₀
past-on {t₀} {t} {u} {room₀} {room} {room'} h z =
    record { grows = omega (arith, h.grows, z.grows); lies = z.lies; stays = z.stays ∙ still-past t.bytes u.bytes room room₀ z.grows h.stays }

-- A frame lies in the bytes.
pub whole-ends : (k : Core) (bs : List ℕ) (i n : ℕ) → front_of (hearing k.phase) (drop i bs) ≡ Whole n → i < length bs → (1 ≤ n) × (i + n ≤ length bs)
whole-ends k bs i n e l =
    let w = whole-fits (hearing k.phase) (drop i bs) n e in
    let d : length (drop i bs) ≡ length bs - i = length-drop i bs in
    (w.0, omega (arith, w.1))

-- A frame where it lies, lent as a part.
pub played-whole : {p : Part} {bs : List ℕ} {t₀ : ToldSoFar} {room₀ : List ℕ} {i : ℕ} {k : Core} {t : ToldSoFar} {m : Memory} {room : List ℕ} {x : Plain} (n : ℕ) (q : Core) (u : ToldSoFar) (m' : Memory) (room' : List ℕ)
    → PlayedFrom p bs t₀ room₀ i k t m room x → front_of (hearing k.phase) (drop i bs) ≡ Whole n
    → stand_of q u m' room' ≡ after_frame p (take (i + n - i) (drop i bs)) (stand_of k t m room) → RoomAhead u 0 room' → Past t u room' room → u.bytes ≤ t.bytes + 31
    → u.faults ≤ t.faults + 1 → length room' ≡ length room → PlayedFrom p bs t₀ room₀ (i + n) q u m' room' x
played-whole {p} {bs} {t₀} {room₀} {i} {k} {t} {m} {room} {x} n q u m' room' h e f r z b c l =
    let w = whole-fits (hearing k.phase) (drop i bs) n e in
    let d : length (drop i bs) ≡ length bs - i = length-drop i bs in
    let j : i + n - i ≡ n = omega arith in
    let a : take (i + n - i) (drop i bs) ≡ take n (drop i bs) = ap (λ (j : ℕ). take j (drop i bs)) j in
    record {
      inside = omega (arith, w.1);
      roomy = ample-after k q t u bs i n room room' e h.inside r b l h.roomy;
      few = omega (arith, w.0, h.few);
      past = past-on h.past z;
      rest =
          turned n (stand_of q u m' room') h
          (turn-whole p (facing (drop i bs) (stand_of k t m room)) n e
          ∙ ap (λ (y : List ℕ). facing (drop n (drop i bs)) (after_frame p y (stand_of k t m room))) (sym a)
          ∙ ap (facing (drop n (drop i bs))) (sym f));
    }

-- What a play ends with.
pub played-holds : {p : Part} {bs : List ℕ} {t₀ : ToldSoFar} {room₀ : List ℕ} {i : ℕ} {k : Core} {t : ToldSoFar} {m : Memory} {room : List ℕ} {x : Plain} → PlayedFrom p bs t₀ room₀ i k t m room x
    → front_of (hearing k.phase) (drop i bs) ≡ Held → ((j : ℕ) → get_or bs j 0 < 256)
    → (facing (drop i bs) (stand_of k t m room) ≡ x) × (i ≤ length bs) × (length bs - i < 260) × Past t₀ t room room₀
played-holds {p} {bs} {t₀} {room₀} {i} {k} {t} {m} {room} {x} h e b =
    let d : length (drop i bs) ≡ length bs - i = length-drop i bs in
    let s : get_or (drop i bs) 1 0 < 256 = rw (get_or-drop i bs 1 0) (b (i + 1)) in (
      sym (play-held p (facing (drop i bs) (stand_of k t m room)) e) ∙ h.rest,
      h.inside,
      omega (arith, held-short (hearing k.phase) (drop i bs) e (counted-small _ s)),
      h.past,
    )

pub played-ends : {p : Part} {bs : List ℕ} {t₀ : ToldSoFar} {room₀ : List ℕ} {i : ℕ} {k : Core} {t : ToldSoFar} {m : Memory} {room : List ℕ} {x : Plain} → PlayedFrom p bs t₀ room₀ i k t m room x → length bs ≤ i
    → (facing (drop i bs) (stand_of k t m room) ≡ x) × (i ≤ length bs) × (length bs - i < 260) × Past t₀ t room room₀
played-ends {p} {bs} {t₀} {room₀} {i} {k} {t} {m} {room} {x} h l =
    let d : length (drop i bs) ≡ 0 = length-drop i bs ∙ omega arith in (
      sym (play-held p (facing (drop i bs) (stand_of k t m room)) (sym (front-none (hearing k.phase) (drop i bs) d))) ∙ h.rest,
      h.inside,
      omega arith,
      h.past,
    )
