-- Laws of the chip's refusals, over plain variables: what an accepted call gives, and that one byte more, where the frame begun still lacks some, is accepted too.
-- Assumes nothing.
use mathlib.Core.Bool.{Bool, false, not, true}
use mathlib.Core.List.{List, [], ◌++◌, ◌∷◌}
use mathlib.Core.Path.{◌∙◌, ◌≡◌, ap, refl, sym}
use Prim.Native.Nat.{◌%◌, ◌+◌, ◌-◌, ◌<◌, ◌≤◌, suc, ℕ}
use native.Mathlib.Decide.{dec_lt}
use native.Mathlib.Nat.{mod-eq_of_lt, mod-lt, mod_self, suc-mod}
use native.Mathlib.Numerals.{add-one}
use native.Mathlib.Omega.{arith}
use lib.Dec.{eqb, ltb}
use lib.ListN.{get_or-append, get_or, length, length-append}
use borrow.Author.Tests.{eq-eqb, eqb-true, le-ltb, lt-ltb, ltb-false, ltb-true, ne_eqb, not-false, not-true}
use Rattle.chip_core.specs.declared.Core.{Core}
use Rattle.chip_options.proofs.Laws.{options-bare}
use Rattle.chip_state.specs.Refusals.{good_awaited, good_begun, good_collected, good_core, good_phase, good_places, good_state, verdict_of}
use Rattle.chip_state.specs.declared.Handed.{Handed}
use Rattle.frame.proofs.Laws.Frame.{full-not, full-short, full-yes}
use Rattle.frame.specs.Frame.{complete, counted, full, header_byte}
use Rattle.frame.specs.declared.Header.{Header}
use Rattle.frame.specs.declared.Header.TheVariants.{Command, Data}
use Rattle.chip_core.specs.Hearing.{hearing}
use Rattle.chip_core.specs.declared.Hearing.{Hearing}
use Rattle.chip_core.specs.declared.Hearing.TheVariants.{HearsCommands, HearsData, HearsNothing}
use Rattle.chip_core.specs.declared.Awaited.{Awaited}
use Rattle.chip_core.specs.declared.Phase.{Phase}
use Rattle.chip_core.specs.declared.Phase.TheVariants.{Awaiting, ModeByte, Ready, Setup}
use Rattle.frame.proofs.Laws.Collector.{complete-within, heard-at, length-heard}
use Rattle.frame.specs.Collector.{heard}
use Rattle.frame.specs.declared.collector.Collector.{Collector}
use Rattle.part.proofs.Laws.{block-size-bare, described-bare, first_on, none-held, passed, passes, place-bare, size-bare}
use Rattle.part.specs.Part.{bare, described, place_of, size}
use Rattle.part.specs.Refusal.{◌when◌, first_of}
use Rattle.part.specs.declared.Area.TheVariants.{CodeFlash, DataFlash}
use Rattle.part.specs.declared.Part.{Part}
use Rattle.part.specs.declared.Place.{Place}
use Rattle.std.specs.Prelude.{None, Ok, Option, Some}
use Rattle.part.specs.declared.refusal.Refusal.TheVariants.{BadState, ShortRoom}
use Rattle.words.proofs.Laws.{and_both, and_left, and_right, or_right}
use Rattle.words.specs.Words.{◌and◌, ◌or◌}

-- The last byte of a block, without a sum that could wrap.
pub block-end-is : (y s : ℕ) → 0 < s → eqb (y % s) (s - 1) ≡ eqb ((y + 1) % s) 0
block-end-is y s h = go (dec_lt (y % s) (s - 1))
  where
    m : (y + 1) % s ≡ suc (y % s) % s
    m = rw add-one (suc-mod y s)

    go : Dec (y % s < s - 1) → eqb (y % s) (s - 1) ≡ eqb ((y + 1) % s) 0
    go (yes l) =
        let e : suc (y % s) % s ≡ suc (y % s) = mod-eq_of_lt (omega arith) in
        ne_eqb (y % s) (s - 1) (λ z. omega arith) ∙ sym (ne_eqb ((y + 1) % s) 0 (λ z. omega (arith, m)))
    go (no l) =
        let b : y % s < s = mod-lt y h in
        let e : suc (y % s) ≡ s = omega arith in
        let z : suc (y % s) % s ≡ 0 = rw e (mod_self s) in
        eq-eqb (y % s) (s - 1) (omega arith) ∙ sym (eq-eqb ((y + 1) % s) 0 (omega (arith, m)))

-- What makes a call accepted, and what acceptance gives.
pub record Accepts (p : Part) (k : Core) (h : Handed) : Type 0 where
  pub part : described p ≡ true
  pub code_long : h.code ≡ size p CodeFlash
  pub data_long : h.«data» ≡ size p DataFlash
  pub state : good_state p k h.count h.head h.len ≡ true
  pub roomy : 32 ≤ h.room

pub accepts : {p : Part} {k : Core} {h : Handed} → verdict_of p k h ≡ Ok tt → Accepts p k h
unfolding verdict_of
accepts {p} {k} {h} e =
    let a = passed _ _ e in
    let b = passed _ _ a.rest in
    let c = passed _ _ b.rest in
    let d = passed _ _ c.rest in
    let f = passed _ _ d.rest in
    record {
      part = not-false _ a.not-held;
      code_long = eqb-true _ _ (not-false _ b.not-held);
      data_long = eqb-true _ _ (not-false _ c.not-held);
      state = not-false _ d.not-held;
      roomy = ltb-false h.room 32 f.not-held;
    }

pub accepted : {p : Part} {k : Core} {h : Handed} → Accepts p k h → verdict_of p k h ≡ Ok tt
unfolding verdict_of
accepted {p} {k} {h} a =
    passes _ _ (ap not a.part)
    (passes _ _ (ap not (eq-eqb _ _ a.code_long))
    (passes _ _ (ap not (eq-eqb _ _ a.data_long)) (passes _ _ (ap not a.state) (passes _ _ (le-ltb h.room 32 a.roomy) none-held))))

-- Where part and lengths bar nothing, state and room are left to decide.
pub verdict-left : (p : Part) (k : Core) (h : Handed) → described p ≡ true → h.code ≡ size p CodeFlash → h.«data» ≡ size p DataFlash
    → verdict_of p k h ≡ first_of (BadState when not (good_state p k h.count h.head h.len) ∷ ShortRoom when ltb h.room 32 ∷ [])
unfolding verdict_of
verdict-left p k h d c e = first_on _ _ _ (ap not d) ∙ first_on _ _ _ (ap not (eq-eqb _ _ c)) ∙ first_on _ _ _ (ap not (eq-eqb _ _ e))

-- No name of a part is looked at: the verdict on a part without its names is the part's.
places-bare : (p : Part) (x y : Option Place) → good_places (bare p) x y ≡ good_places p x y
unfolding good_places
places-bare p None None = refl
places-bare p None (Some place) = refl
places-bare p (Some place) None = refl
places-bare p (Some place) (Some other) = rw (block-size-bare p other.area)

phase-bare : (p : Part) (f : Phase) → good_phase (bare p) f ≡ good_phase p f
unfolding good_phase good_awaited
phase-bare p ModeByte = refl
phase-bare p Setup = refl
phase-bare p Ready = refl
phase-bare p (Awaiting w) = rw (place-bare p w.next, place-bare p w.last, places-bare p (place_of p w.next) (place_of p w.last))

pub state-bare : (p : Part) (k : Core) (count head len : ℕ) → good_state (bare p) k count head len ≡ good_state p k count head len
unfolding good_state good_core
state-bare p k count head len = rw (options-bare p k.options, phase-bare p k.phase)

pub verdict-bare : (p : Part) (k : Core) (h : Handed) → verdict_of (bare p) k h ≡ verdict_of p k h
unfolding verdict_of
verdict-bare p k h = rw (described-bare p, size-bare p CodeFlash, size-bare p DataFlash, state-bare p k h.count h.head h.len)

-- What is collected in a good state: fewer bytes than the frame begun needs.
pub record Begun (c : Collector) : Type 0 where
  pub within : c.len < 260
  pub lacks : complete (heard c) ≡ false

pub begun : (h : Header) (c : Collector) → length c.bytes ≡ 260 → good_begun h c.len (get_or c.bytes 0 0) (get_or c.bytes 1 0) ≡ true → Begun c
unfolding good_begun ◌or◌
begun h c l t = go (eqb c.len 0) refl t
  where
    full? : Bool
    full? = full c.len (get_or c.bytes 1 0)

    go : (z : Bool) → eqb c.len 0 ≡ z → z or ltb c.len 260 and eqb (get_or c.bytes 0 0) (header_byte h) and not full? ≡ true → Begun c
    go true z e =
        let n : c.len ≡ 0 = eqb-true _ _ z in
        record { within = omega arith; lacks = complete-within c l (omega arith) ∙ full-short _ _ (omega arith) }
    go false z e =
        let w : c.len < 260 = ltb-true _ _ (and_left _ _ e) in
        record { within = w; lacks = complete-within c l (omega arith) ∙ not-true _ (and_right _ _ (and_right _ _ e)) }

-- What a good state gives of what is collected, by what the phase hears.
pub state-collected : (p : Part) (k : Core) (count head len : ℕ) (e : Hearing) → good_state p k count head len ≡ true → hearing k.phase ≡ e
    → good_collected e count head len ≡ true
unfolding good_state
state-collected p k count head len e t f = ap (λ (g : Hearing). good_collected g count head len) (sym f) ∙ and_left _ _ t

pub none-begun : (p : Part) (k : Core) (count head len : ℕ) → good_state p k count head len ≡ true → hearing k.phase ≡ HearsNothing → count ≡ 0
unfolding good_collected
none-begun p k count head len t e = eqb-true count 0 (state-collected p k count head len HearsNothing t e)

pub none-collected : (count head len : ℕ) → good_collected HearsNothing count head len ≡ true → count ≡ 0
unfolding good_collected
none-collected count head len e = eqb-true count 0 e

pub command-collected : (count head len : ℕ) → good_collected HearsCommands count head len ≡ good_begun Command count head len
unfolding good_collected
command-collected count head len = refl

pub data-collected : (w : Awaited) (count head len : ℕ) → good_collected (HearsData w) count head len ≡ good_begun Data count head len
unfolding good_collected
data-collected w count head len = refl

-- What is collected, where something is, is the front of a frame: what that gives, and what makes it so.
pub record Front (h : Header) (n head len : ℕ) : Type 0 where
  pub within : n < 260
  pub heads : head ≡ header_byte h
  pub lacks : full n len ≡ false

front : (h : Header) (n head len : ℕ) → 1 ≤ n → good_begun h n head len ≡ true → Front h n head len
unfolding good_begun ◌or◌
front h n head len k e =
    let f : ltb n 260 and eqb head (header_byte h) and not (full n len) ≡ true = go (eqb n 0) (ne_eqb n 0 (λ q. omega arith)) e in
    record { within = ltb-true _ _ (and_left _ _ f); heads = eqb-true _ _ (and_left _ _ (and_right _ _ f)); lacks = not-true _ (and_right _ _ (and_right _ _ f)) }
  where
    go : (t : Bool) → t ≡ false → t or ltb n 260 and eqb head (header_byte h) and not (full n len) ≡ true → ltb n 260 and eqb head (header_byte h) and not (full n len) ≡ true
    go true z e = absurd (let z : ◌≡◌ {A = ℕ} 0 1 = cc in omega arith)
    go false z e = e

front-good : (h : Header) (n head len : ℕ) → Front h n head len → good_begun h n head len ≡ true
unfolding good_begun
front-good h n head len b = or_right (eqb n 0) (and_both (lt-ltb n 260 b.within) (and_both (eq-eqb _ _ b.heads) (ap not b.lacks)))

-- Of which frame, by what is heard.
pub data FrontFor : Hearing → ℕ → ℕ → ℕ → Type 0 where
  of_command : {n head len : ℕ} → Front Command n head len → FrontFor HearsCommands n head len
  of_data : {w : Awaited} {n head len : ℕ} → Front Data n head len → FrontFor (HearsData w) n head len

pub front-for : (f : Hearing) (n head len : ℕ) → 1 ≤ n → good_collected f n head len ≡ true → FrontFor f n head len
unfolding good_collected
front-for HearsNothing n head len k e = absurd (let z : n ≡ 0 = eqb-true n 0 e in omega arith)
front-for HearsCommands n head len k e = of_command (front Command n head len k e)
front-for (HearsData w) n head len k e = of_data (front Data n head len k e)

-- Nothing collected is good, whatever is heard; and what comes first of what is good.
pub none-good : (f : Hearing) (head len : ℕ) → good_collected f 0 head len ≡ true
unfolding good_collected good_begun ◌or◌
none-good HearsNothing head len = refl
none-good HearsCommands head len = refl
none-good (HearsData w) head len = refl

full-less : (n m x : ℕ) → m ≤ n → full n x ≡ false → full m x ≡ false
full-less n m x k e = go (dec_lt m (counted x + 4))
  where
    go : Dec (m < counted x + 4) → full m x ≡ false
    go (yes u) = full-not m x u
    go (no u) = absurd (let z : ◌≡◌ {A = Bool} true false = sym (full-yes n x (omega arith) (omega arith)) ∙ e in let y : ◌≡◌ {A = ℕ} 0 1 = cc in omega arith)

front_cut : (h : Header) (xs ys : List ℕ) → 1 ≤ length xs → Front h (length (xs ++ ys)) (get_or (xs ++ ys) 0 0) (get_or (xs ++ ys) 1 0)
    → Front h (length xs) (get_or xs 0 0) (get_or xs 1 0)
front_cut h xs ys k b =
    let l : length (xs ++ ys) ≡ length xs + length ys = length-append xs ys in
    record {
      within = omega (arith, b.within, l);
      heads = sym (get_or-append xs ys 0 0 (omega arith)) ∙ b.heads;
      lacks = go (dec_lt (length xs) 2);
    }
  where
    go : Dec (length xs < 2) → full (length xs) (get_or xs 1 0) ≡ false
    go (yes u) = full-short _ _ u
    go (no u) =
        let e : get_or (xs ++ ys) 1 0 ≡ get_or xs 1 0 = get_or-append xs ys 0 1 (omega arith) in
        full-less (length (xs ++ ys)) (length xs) (get_or xs 1 0) (rw length-append (omega arith)) (ap (λ (x : ℕ). full (length (xs ++ ys)) x) (sym e) ∙ b.lacks)

pub collected-cut : (f : Hearing) (xs ys : List ℕ) → 1 ≤ length xs → good_collected f (length (xs ++ ys)) (get_or (xs ++ ys) 0 0) (get_or (xs ++ ys) 1 0) ≡ true
    → good_collected f (length xs) (get_or xs 0 0) (get_or xs 1 0) ≡ true
unfolding good_collected
collected-cut f xs ys k e = go f (front-for f _ _ _ (rw length-append (omega arith)) e)
  where
    go : (f : Hearing) → FrontFor f (length (xs ++ ys)) (get_or (xs ++ ys) 0 0) (get_or (xs ++ ys) 1 0) → good_collected f (length xs) (get_or xs 0 0) (get_or xs 1 0) ≡ true
    go f (of_command b) = front-good Command _ _ _ (front_cut Command xs ys k b)
    go f (of_data b) = front-good Data _ _ _ (front_cut Data xs ys k b)

-- No more is collected in a good state than has places, and the bytes that are heard tell whether the state is good.
front-within : (f : Hearing) (n head len : ℕ) → FrontFor f n head len → n < 260
front-within f n head len (of_command x) = x.within
front-within f n head len (of_data x) = x.within

pub good-within : (f : Hearing) (n head len : ℕ) → good_collected f n head len ≡ true → n < 260
good-within f n head len e = go (dec_lt n 1)
  where
    go : Dec (n < 1) → n < 260
    go (yes k) = omega arith
    go (no k) = front-within f n head len (front-for f n head len (omega arith) e)

pub heard-good : (f : Hearing) (d : Collector) → d.len ≤ length d.bytes → good_collected f (length (heard d)) (get_or (heard d) 0 0) (get_or (heard d) 1 0) ≡ true
    → good_collected f d.len (get_or d.bytes 0 0) (get_or d.bytes 1 0) ≡ true
unfolding good_collected
heard-good f d w e = go (dec_lt d.len 1)
  where
    n : length (heard d) ≡ d.len
    n = length-heard d w

    as-front : (h : Header) → 0 < d.len → Front h (length (heard d)) (get_or (heard d) 0 0) (get_or (heard d) 1 0) → Front h d.len (get_or d.bytes 0 0) (get_or d.bytes 1 0)
    as-front h k x =
        record {
          within = omega (arith, x.within, n);
          heads = sym (heard-at d 0 k) ∙ x.heads;
          lacks = go (dec_lt d.len 2);
        }
      where
        go : Dec (d.len < 2) → full d.len (get_or d.bytes 1 0) ≡ false
        go (yes u) = full-short _ _ u
        go (no u) = ap (λ (i : ℕ). full i (get_or d.bytes 1 0)) (sym n) ∙ ap (λ (i : ℕ). full (length (heard d)) i) (sym (heard-at d 1 (omega arith))) ∙ x.lacks

    on : (f : Hearing) → 0 < d.len → FrontFor f (length (heard d)) (get_or (heard d) 0 0) (get_or (heard d) 1 0) → good_collected f d.len (get_or d.bytes 0 0) (get_or d.bytes 1 0) ≡ true
    on f k (of_command x) = front-good Command _ _ _ (as-front Command k x)
    on f k (of_data x) = front-good Data _ _ _ (as-front Data k x)

    go : Dec (d.len < 1) → good_collected f d.len (get_or d.bytes 0 0) (get_or d.bytes 1 0) ≡ true
    go (yes k) = let z : d.len ≡ 0 = omega arith in rw z (none-good f _ _)
    go (no k) = on f (omega arith) (front-for f _ _ _ (omega (arith, n)) e)

-- Where a call is accepted, the same with something else collected that is good is accepted too.
pub collected-accepted : (p : Part) (k : Core) (h : Handed) (n head len : ℕ) → verdict_of p k h ≡ Ok tt → good_collected (hearing k.phase) n head len ≡ true
    → verdict_of p k (record { count = n; head = head; len = len; code = h.code; «data» = h.«data»; room = h.room }) ≡ Ok tt
unfolding good_state
collected-accepted p k h n head len e g =
    let a = accepts e in
    accepted (record {
      part = a.part;
      code_long = a.code_long;
      data_long = a.data_long;
      state = and_both g (and_right (good_collected (hearing k.phase) h.count h.head h.len) _ a.state);
      roomy = a.roomy;
    })

-- One byte more than header and LEN, the frame not complete yet.
more-collected : (f : Hearing) (n head len : ℕ) → n + 1 < counted len + 4 → counted len ≤ 256 → FrontFor f n head len → good_collected f (n + 1) head len ≡ true
unfolding good_collected
more-collected f n head len s c (of_command x) = front-good Command (n + 1) head len (record { within = omega arith; heads = x.heads; lacks = full-not (n + 1) len s })
more-collected f n head len s c (of_data x) = front-good Data (n + 1) head len (record { within = omega arith; heads = x.heads; lacks = full-not (n + 1) len s })

pub one-more-accepted : (p : Part) (k : Core) (h : Handed) → verdict_of p k h ≡ Ok tt → 2 ≤ h.count → h.count + 1 < counted h.len + 4 → counted h.len ≤ 256
    → verdict_of p k (record { count = h.count + 1; head = h.head; len = h.len; code = h.code; «data» = h.«data»; room = h.room }) ≡ Ok tt
one-more-accepted p k h e n s c =
    let f = hearing k.phase in
    let x = front-for f h.count h.head h.len (omega arith) (state-collected p k h.count h.head h.len f (accepts e).state refl) in
    collected-accepted p k h (h.count + 1) h.head h.len e (more-collected f h.count h.head h.len s c x)
