-- What a turn of the loop over a stretch takes at once: how many of the bytes to come are only added to those collected.
use Rattle.std.specs.Prelude.{ℕ, eqb}
use Rattle.frame.specs.Frame.{lacking_of}
use Rattle.words.specs.Words.{if◌then◌otherwise◌}

unfoldable pub added_next : ℕ → ℕ → ℕ → ℕ
added_next count len rest = if eqb count 1 then 1 otherwise lacking_of count len rest
