-- What is written where a state lies, when an event only drops what is collected or only adds a byte to it: document 01, "Frames", "Collecting". Every other byte
-- stays.
use Rattle.std.specs.Prelude.{Bool, List, ◌++◌, ◌+◌, ℕ, ltb, drop, get_or, set, take}
use Rattle.frame.specs.Frame.{lacking_of, longest}
use Rattle.numbers.specs.Numbers.{low_first, number_at}
use Rattle.words.specs.Words.{if◌then◌otherwise◌}

-- Another count of what is collected.
unfoldable pub count_laid : ℕ → List ℕ → List ℕ
count_laid n bs = take 25 bs ++ low_first 8 n ++ drop 33 bs

-- Past header and LEN, and not the last of its frame: the next byte is only added.
unfoldable pub is_added : List ℕ → Bool
is_added bs = ltb 0 (lacking_of (number_at 8 25 bs) (get_or bs 34 0) 1)

-- One byte more, at its place, and its count; where it has no place, nothing.
unfoldable pub byte_laid : ℕ → List ℕ → List ℕ
byte_laid b bs =
    let n = number_at 8 25 bs in
    if ltb n longest then set (count_laid (n + 1) bs) (33 + n) b otherwise bs
