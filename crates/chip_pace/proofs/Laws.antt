-- How far a loop over bytes, each a step of its own, has come.
-- Assumes nothing.
use mathlib.Core.List.{List, map}
use mathlib.Core.Path.{◌≡◌, refl, ◌∙◌, sym}
use Prim.Native.Nat.{◌+◌, ◌<◌, ◌≤◌, suc, ℕ}
use native.Mathlib.Numerals.{add-one}
use lib.ListN.{drop, drop_of_length-le, get_or, length}
use lib.Seq.{drop-cons}
use Rattle.chip.proofs.Runs.{run_more, run_none}
use Rattle.chip.specs.Run.{run}
use Rattle.chip.specs.Step.{Outcome, step_of}
use Rattle.chip.specs.declared.Event.TheVariants.{Byte}
use Rattle.part.specs.declared.Part.{Part}

-- What the bytes still to come make of o is t.
pub record Stepped (p : Part) (bs : List ℕ) (i : ℕ) (o t : Outcome) : Type 0 where
  pub rest : run p (map Byte (drop i bs)) o ≡ t

pub stepped_start : (p : Part) (bs : List ℕ) (o : Outcome) → Stepped p bs 0 o (run p (map Byte bs) o)
stepped_start p bs o = record { rest = refl }

pub stepped-turn : {p : Part} {bs : List ℕ} {i : ℕ} {o x t : Outcome} → Stepped p bs i o t → x ≡ step_of p o.chip (Byte (get_or bs i 0)) o.memory o.room → i < length bs
    → Stepped p bs (i + 1) x t
stepped-turn {p} {bs} {i} {o} {x} {t} f e h =
    record { rest = rw (e, add-one) (sym (run_more p (Byte (get_or bs i 0)) (map Byte (drop (suc i) bs)) o) ∙ (rw (drop-cons bs i 0 h) at f.rest)) }

pub stepped-end : {p : Part} {bs : List ℕ} {i : ℕ} {o t : Outcome} → Stepped p bs i o t → length bs ≤ i → o ≡ t
stepped-end {p} {bs} {i} {o} {t} f h = sym (run_none p o) ∙ (rw (drop_of_length-le bs h) at f.rest)
