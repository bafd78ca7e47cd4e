-- A line of hex: document 01, "Replay" ("Each reply frame is one line of hex"). Upper-case digits, single spaces, a newline at the end.
use Rattle.std.specs.Prelude.{List, [], ◌∷◌, ◌%◌, ◌+◌, ◌/◌, ℕ, ltb}
use Rattle.words.specs.Words.{if◌then◌otherwise◌}

-- '0' is 30h, 'A' is 41h.
unfoldable pub digit_of : ℕ → ℕ
digit_of n = if ltb n 10 then 0x30 + n otherwise 0x37 + n

-- Between two bytes a space, after the last a newline.
unfoldable pub separator : List ℕ → ℕ
separator [] = 0x0A
separator (b ∷ bs) = 0x20

unfoldable pub line_of : List ℕ → List ℕ
line_of [] = []
line_of (b ∷ bs) = digit_of (b / 16) ∷ digit_of (b % 16) ∷ separator bs ∷ line_of bs
