-- What is collected stays good: begun by the awaited header, and fewer bytes than the frame begun needs.
-- Assumes nothing.
use mathlib.Core.Bool.{Bool, false, not, true}
use mathlib.Core.List.{List, [], ◌++◌, ◌∷◌}
use mathlib.Core.Path.{◌∙◌, ◌≡◌, ap, refl, sym}
use Prim.Native.Nat.{◌<◌, ◌≤◌, suc, ℕ}
use native.Mathlib.Omega.{arith}
use lib.Dec.{eqb, ltb}
use lib.ListN.{get_or, length, length-append, length-drop}
use lib.Seq.{get_or-take}
use borrow.Author.Tests.{eq-eqb, eqb-false, eqb-true, lt-ltb, ltb-true}
use Rattle.chip_state.specs.Refusals.{good_begun}
use Rattle.frame.proofs.Laws.Collector.{complete-within, heard-none, length-heard}
use Rattle.frame.proofs.Laws.Frame.{counted-small, full-room}
use Rattle.frame.proofs.Laws.Sum.{Below, below-append, below_at, below-drop, below-take, more, none}
use Rattle.frame.specs.Collector.{hear, heard, holding}
use Rattle.frame.specs.Frame.{complete, full, header_byte}
use Rattle.frame.specs.declared.Header.{Header}
use Rattle.frame.specs.declared.collector.Collector.{Collector}
use Rattle.words.proofs.Laws.{and_both, and_left, and_right, if-all, or_left, or_right}
use Rattle.words.specs.Words.{◌and◌, ◌or◌}

-- Nothing, or bytes begun by the header.
pub data Begins (h : Header) : List ℕ → Type 0 where
  nothing : Begins h []
  header : (x : ℕ) (xs : List ℕ) → x ≡ header_byte h → Begins h (x ∷ xs)

pub hear-begins : (h : Header) (hs : List ℕ) (b : ℕ) → Begins h hs → Begins h (hear h hs b)
unfolding hear
hear-begins h [] b nothing = if-all (Begins h) _ (λ t. header b [] (eqb-true _ _ t)) (λ t. nothing)
hear-begins h (x ∷ xs) b (header y ys e) = header x (xs ++ b ∷ []) e

heard-first : (c : Collector) → 0 < c.len → get_or (heard c) 0 0 ≡ get_or c.bytes 0 0
unfolding heard
heard-first c k = get_or-take c.len c.bytes 0 0 k

-- What is heard in a good state.
pub good-begins : (h : Header) (c : Collector) → length c.bytes ≡ 260 → good_begun h c.len (get_or c.bytes 0 0) (get_or c.bytes 1 0) ≡ true
    → Begins h (heard c)
unfolding good_begun ◌or◌
good-begins h c l t = go (eqb c.len 0) refl t
  where
    some : (hs : List ℕ) → length hs ≡ c.len → (c.len ≡ 0 → ⊥) → get_or hs 0 0 ≡ header_byte h → Begins h hs
    some [] n z e = absurd (z (sym n))
    some (x ∷ xs) n z e = header x xs e

    go : (z : Bool) → eqb c.len 0 ≡ z
        → z or ltb c.len 260 and eqb (get_or c.bytes 0 0) (header_byte h) and not (full c.len (get_or c.bytes 1 0)) ≡ true → Begins h (heard c)
    go true z e = rw (heard-none c (eqb-true _ _ z)) nothing
    go false z e =
        let w : c.len < 260 = ltb-true _ _ (and_left _ _ e) in
        let f : get_or c.bytes 0 0 ≡ header_byte h = eqb-true _ _ (and_left _ _ (and_right (ltb c.len 260) _ e)) in
        let n : c.len ≡ 0 → ⊥ = eqb-false _ _ z in
        some (heard c) (length-heard c (omega arith)) n (heard-first c (omega arith) ∙ f)

-- Such bytes, not yet a complete frame, are good.
pub begins-good : (h : Header) (c : Collector) → length c.bytes ≡ 260 → c.len ≤ 260 → Below 256 c.bytes → Begins h (heard c) → complete (heard c) ≡ false
    → good_begun h c.len (get_or c.bytes 0 0) (get_or c.bytes 1 0) ≡ true
unfolding good_begun
begins-good h c l w b g n = go (heard c) refl g
  where
    lacks : full c.len (get_or c.bytes 1 0) ≡ false
    lacks = sym (complete-within c l w) ∙ n

    room : c.len < 260
    room = full-room c.len (get_or c.bytes 1 0) lacks (counted-small _ (below_at 1 (omega arith) b))

    long : length (heard c) ≡ c.len
    long = length-heard c (omega arith)

    go : (hs : List ℕ) → heard c ≡ hs → Begins h hs
        → eqb c.len 0 or ltb c.len 260 and eqb (get_or c.bytes 0 0) (header_byte h) and not (full c.len (get_or c.bytes 1 0)) ≡ true
    go [] e nothing = or_left _ (eq-eqb c.len 0 (sym long ∙ ap length e))
    go (x ∷ xs) e (header y ys f) =
        let m : 0 < c.len = let z : length (heard c) ≡ suc (length xs) = ap length e in omega (arith, long) in
        let d : get_or c.bytes 0 0 ≡ header_byte h = sym (heard-first c m) ∙ ap (λ (hs : List ℕ). get_or hs 0 0) e ∙ f in
        or_right (eqb c.len 0) (and_both (lt-ltb c.len 260 room) (and_both (eq-eqb _ _ d) (ap not lacks)))

-- A collector that holds such bytes.
pub record Holds (c : Collector) (hs : List ℕ) : Type 0 where
  pub places : length (holding c hs).bytes ≡ 260
  pub bytes : Below 256 (holding c hs).bytes
  pub within : (holding c hs).len ≤ 260

pub holds : (c : Collector) (hs : List ℕ) → length c.bytes ≡ 260 → Below 256 c.bytes → Below 256 hs → length hs ≤ 260 → Holds c hs
unfolding holding
holds c hs l b g w =
    record {
      places = rw (length-append, length-drop) (omega arith);
      bytes = below-append g (below-drop 256 (length hs) b);
      within = w;
    }

pub below-heard : (c : Collector) → Below 256 c.bytes → Below 256 (heard c)
unfolding heard
below-heard c b = below-take 256 c.len b

pub below-hear : (h : Header) (hs : List ℕ) (b : ℕ) → b < 256 → Below 256 hs → Below 256 (hear h hs b)
unfolding hear
below-hear h [] b k g = if-all (Below 256) _ (λ t. more k none) (λ t. none)
below-hear h (x ∷ xs) b k g = below-append g (more k none)
