-- The collector with one byte stored at its count, as the code does it.
use Rattle.std.specs.Prelude.{ℕ, ◌+◌, slice_set}
use Rattle.frame.specs.declared.collector.Collector.{Collector}

unfoldable pub stored : Collector → ℕ → Collector
stored c b = record { bytes = slice_set c.bytes c.len b; len = c.len + 1 }
