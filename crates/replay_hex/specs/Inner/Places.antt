-- What stands after the byte at a place, by its place and the number of bytes, as the loop decides it.
use Rattle.std.specs.Prelude.{◌+◌, ℕ, ltb}
use Rattle.words.specs.Words.{if◌then◌otherwise◌}

unfoldable pub separator_at : ℕ → ℕ → ℕ
separator_at i len = if ltb (i + 1) len then 0x20 otherwise 0x0A
