-- A chip as the language can hold one: each number within its type, and 260 places in the collector's array.
use Rattle.std.specs.Prelude.{◌≡◌, ◌<◌, ◌^◌, length}
use Rattle.chip_state.specs.declared.Chip.{Chip}
use Rattle.chip_layout.specs.Layout.{awaited_of}

pub record Held (c : Chip) : Type 0 where
  pub start : c.core.options.start < 256 ^ 2
  pub end : c.core.options.end < 256 ^ 2
  pub next : (awaited_of c.core.phase).next < 256 ^ 8
  pub last : (awaited_of c.core.phase).last < 256 ^ 8
  pub count : c.collector.len < 256 ^ 8
  pub places : length c.collector.bytes ≡ 260
