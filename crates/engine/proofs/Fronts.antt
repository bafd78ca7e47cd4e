-- Laws of what lies at the front, as the code decides it.
-- Assumes nothing.
use mathlib.Core.Bool.{Bool, false, true}
use mathlib.Core.List.{List, [], ◌∷◌}
use mathlib.Core.Path.{◌∙◌, ◌≡◌, ap, refl, sym}
use Prim.Native.Nat.{◌+◌, ℕ}
use native.Mathlib.Omega.{arith}
use lib.ListN.{get_or, length}
use borrow.Author.Tests.{eq-eqb, ne_eqb}
use Rattle.chip_core.specs.declared.Awaited.{Awaited}
use Rattle.chip_core.specs.declared.Hearing.{Hearing}
use Rattle.chip_core.specs.declared.Hearing.TheVariants.{HearsCommands, HearsData, HearsNothing}
use Rattle.engine.specs.Engine.{front_for, front_of}
use Rattle.engine.specs.declared.Front.TheVariants.{Held, Mode, Skipped, Whole}
use Rattle.engine.specs.Inner.Answering.{whole_of}
use Rattle.frame.specs.Frame.{complete, counted, header_byte}
use Rattle.frame.specs.declared.Header.{Header}
use Rattle.frame.specs.declared.Header.TheVariants.{Command, Data}
use Rattle.words.specs.Words.{if◌then◌otherwise◌}

pub front-skips : (h : Header) (bs : List ℕ) → (get_or bs 0 0 ≡ header_byte h → ⊥) → Skipped ≡ front_for h bs
unfolding front_for if◌then◌otherwise◌
front-skips h bs e = rw (ne_eqb _ _ e)

-- From its header on a frame is held, or whole.
from-header : (h : Header) (bs : List ℕ) → get_or bs 0 0 ≡ header_byte h → front_for h bs ≡ (if complete bs then Whole (counted (get_or bs 1 0) + 4) otherwise Held)
unfolding front_for if◌then◌otherwise◌
from-header h bs e = rw (eq-eqb _ _ e)

pub front-holds : (h : Header) (bs : List ℕ) (n : ℕ) → get_or bs 0 0 ≡ header_byte h → n ≡ whole_of bs → n ≡ 0 → Held ≡ front_for h bs
unfolding whole_of if◌then◌otherwise◌
front-holds h bs n e w z = go (complete bs) w ∙ sym (from-header h bs e)
  where
    go : (t : Bool) → n ≡ (if t then counted (get_or bs 1 0) + 4 otherwise 0) → Held ≡ (if t then Whole (counted (get_or bs 1 0) + 4) otherwise Held)
    go true q = absurd (omega arith)
    go false q = refl

pub front-whole : (h : Header) (bs : List ℕ) (n : ℕ) → get_or bs 0 0 ≡ header_byte h → n ≡ whole_of bs → (n ≡ 0 → ⊥) → Whole n ≡ front_for h bs
unfolding whole_of if◌then◌otherwise◌
front-whole h bs n e w z = go (complete bs) w ∙ sym (from-header h bs e)
  where
    go : (t : Bool) → n ≡ (if t then counted (get_or bs 1 0) + 4 otherwise 0) → Whole n ≡ (if t then Whole (counted (get_or bs 1 0) + 4) otherwise Held)
    go true q = ap Whole q
    go false q = absurd (z q)

-- By what the phase hears, where anything lies ahead.
pub front-none : (f : Hearing) (bs : List ℕ) → length bs ≡ 0 → Held ≡ front_of f bs
unfolding front_of
front-none f [] e = refl
front-none f (b ∷ bs) e = absurd (omega arith)

pub front-mode : (f : Hearing) (bs : List ℕ) → f ≡ HearsNothing → (length bs ≡ 0 → ⊥) → Mode ≡ front_of f bs
unfolding front_of
front-mode f [] e z = absurd (z refl)
front-mode f (b ∷ bs) e z = rw e

pub front-command : (f : Hearing) (bs : List ℕ) → f ≡ HearsCommands → (length bs ≡ 0 → ⊥) → front_for Command bs ≡ front_of f bs
unfolding front_of
front-command f [] e z = absurd (z refl)
front-command f (b ∷ bs) e z = rw e

pub front-data : (f : Hearing) (w : Awaited) (bs : List ℕ) → f ≡ HearsData w → (length bs ≡ 0 → ⊥) → front_for Data bs ≡ front_of f bs
unfolding front_of
front-data f w [] e z = absurd (z refl)
front-data f w (b ∷ bs) e z = rw e
