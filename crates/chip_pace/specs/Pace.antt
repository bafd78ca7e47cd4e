-- What a fresh chip has come to after so many bytes, each a step of its own: how many bytes it has collected, and what it has done to flash, sums and room.
use Rattle.std.specs.Prelude.{List, map, ℕ}
use Rattle.chip.specs.Run.{before, run}
use Rattle.chip.specs.Step.{fresh_of}
use Rattle.chip.specs.declared.Event.TheVariants.{Byte}
use Rattle.chip_core.specs.Effect.{Memory}
use Rattle.part.specs.declared.Part.{Part}

pub record Paced : Type 0 where
  pub count : ℕ
  pub memory : Memory
  pub room : List ℕ

abbrev pub paced : ℕ → Memory → List ℕ → Paced
paced n m room = record { count = n; memory = m; room = room }

unfoldable pub paced_of : Part → List ℕ → Memory → List ℕ → Paced
paced_of p bs m room =
    let o = run p (map Byte bs) (before (fresh_of p).chip m room) in
    paced o.chip.collector.len o.memory o.room
