-- Laws of the commands' work.
-- Assumes nothing.
use mathlib.Core.Bool.{Bool, false, true}
use mathlib.Core.List.{List}
use mathlib.Core.Path.{◌∙◌, ◌≡◌, ap, sym}
use Prim.Native.Nat.{◌%◌, ℕ}
use lib.Dec.{eqb}
use borrow.Author.Tests.{eq-eqb}
use Rattle.chip_sums.specs.Sums.{resummed}
use Rattle.chip_work.specs.Work.{block_erase, erased_in, forbidden, is_boot}
use Rattle.chip_core.specs.Effect.{Memory, acknowledge, effect, flash, memory, says}
use Rattle.chip_core.specs.declared.Core.{Core}
use Rattle.chip_options.specs.Options.{boot_allowed, erase_allowed}
use Rattle.chip_sums.proofs.Laws.{resummed-after}
use Rattle.part.specs.Part.{block_size, place_of, place_at}
use Rattle.part.specs.declared.Area.{Area}
use Rattle.part.specs.declared.Part.{Part}
use Rattle.part.specs.declared.Place.{Place}
use Rattle.std.specs.Prelude.{Option, Some}
use Rattle.words.specs.Words.{if◌then◌otherwise◌}

-- A block that may be erased: what is left where flash is erased there and the block's sum worked out after it.
pub block-erased : {c d t : List ℕ} {n : ℕ} {at : Option Place} {e i b f : Bool} (p : Part) (k : Core) (start : ℕ) (a : Area) (offset block page : ℕ) (m : Memory)
    → at ≡ place_of p start → at ≡ Some (place_at a offset block page) → n ≡ block_size p a → offset % n ≡ 0
    → e ≡ erase_allowed p k.options.flags → i ≡ is_boot a block → b ≡ boot_allowed p k.options.flags → f ≡ forbidden e i b → f ≡ false
    → flash c d ≡ erased_in a offset n m.flash → t ≡ (resummed p (Some (place_at a offset block page)) (memory c d m.sums)).sums
    → effect (says acknowledge k) (memory c d t) ≡ block_erase p k (place_of p start) m
unfolding block_erase if◌then◌otherwise◌
block-erased p k start a offset block page m at is n z e i b f u g h =
    let x : eqb (offset % block_size p a) 0 ≡ true = eq-eqb _ _ (rw n at z) in
    let y : forbidden (erase_allowed p k.options.flags) (is_boot a block) (boot_allowed p k.options.flags) ≡ false = rw (← e, ← i, ← b) (sym f ∙ u) in
    rw (← at, is, x, y) (ap (λ (q : Memory). effect (says acknowledge k) q) (resummed-after p (Some (place_at a offset block page)) m.sums (rw n at g) h))
