-- A fresh chip stands: the premise of the claims about standing chips is met, for every described part and any flash of its lengths.
-- Assumes nothing.
use mathlib.Core.Bool.{true}
use mathlib.Core.List.{List}
use mathlib.Core.Path.{◌≡◌, refl}
use Prim.Native.Nat.{◌≤◌, suc, zero, ℕ}
use native.Mathlib.Omega.{arith}
use lib.ListN.{length, length-replicate, replicate}
use Rattle.chip.specs.Run.{before}
use Rattle.chip.specs.Step.{fresh_chip}
use Rattle.chip_state.specs.Refusals.{good_phase, good_state}
use Rattle.claims_good.proofs.Core.{GoodCore, is-core}
use Rattle.chip_state.proofs.Laws.{accepted, none-good}
use Rattle.part.specs.Part.{Arrays, block_size, described, size}
use Rattle.claims_good.specs.Good.{Stands}
use Rattle.claims_stars.specs.Table.{fresh_memory, the_part}
use Rattle.chip_core.specs.Effect.{Memory}
use Rattle.chip_core.specs.Hearing.{hearing}
use Rattle.chip_core.specs.declared.Core.{Core}
use Rattle.frame.proofs.Laws.Sum.{Below, more, none}
use Rattle.frame.specs.Collector.{fresh}
use Rattle.chip_options.proofs.Laws.{fresh-good}
use Rattle.part.specs.declared.Area.TheVariants.{CodeFlash, DataFlash}
use Rattle.part.specs.declared.Part.{Part}
use Rattle.words.proofs.Laws.{and_both}
use Rattle.words.specs.Words.{◌and◌, ◌from◌to◌}

below-zeros : (n : ℕ) → Below 256 (replicate n 0)
below-zeros zero = none
below-zeros (suc n) = more {b = 0} (omega arith) (below-zeros n)

-- Nothing collected, and a good record.
pub new-stands : (p : Part) (k : Core) (m : Memory) (room : List ℕ) → described p ≡ true → Arrays p → GoodCore p k → length m.flash.code_flash ≡ size p CodeFlash
    → length m.flash.data_flash ≡ size p DataFlash → 32 ≤ length room → Stands p (before (record { core = k; collector = fresh }) m room)
unfolding fresh good_state
new-stands p k m room d n g c e r =
    record {
      accepted =
          accepted (record {
            part = d;
            code_long = c;
            data_long = e;
            state = and_both (none-good (hearing k.phase) _ _) (is-core g);
            roomy = r;
          });
      places = length-replicate {A = ℕ} 260 0;
      bytes = below-zeros 260;
      arrays = n;
    }

pub fresh-stands : (p : Part) (m : Memory) (room : List ℕ) → described p ≡ true → Arrays p → length m.flash.code_flash ≡ size p CodeFlash
    → length m.flash.data_flash ≡ size p DataFlash → 32 ≤ length room → Stands p (before (fresh_chip p) m room)
unfolding fresh_chip good_phase
fresh-stands p m room d n c e r = new-stands p _ m room d n (record { rate = omega arith; options = fresh-good p d; phase = refl }) c e r

-- The part of the examples.
pub the-part-is : described the_part ≡ true
unfolding described ◌from◌to◌ ◌and◌
the-part-is = refl

pub the-part-stands : Stands the_part (before (fresh_chip the_part) fresh_memory (replicate 32 0x00))
unfolding block_size
the-part-stands =
    fresh-stands the_part fresh_memory (replicate 32 0x00) the-part-is (record { device_long = refl; name_long = refl; version_long = refl }) (length-replicate {A = ℕ} 16384 0xFF)
    (length-replicate {A = ℕ} 4096 0xFF) (omega (arith, length-replicate {A = ℕ} 32 0x00))
