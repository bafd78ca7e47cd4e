-- SUM: document 01, "Frames" ("SUM starts at 00h; LEN and each byte after it are subtracted, borrow dropped"), and 000, table 2-1.
-- Stated over the modulus m: 256 for a frame's SUM, 65536 for the sum of command B0h.
use Rattle.std.specs.Prelude.{ℕ, ◌+◌, ◌-◌, List, [], ◌∷◌, nat_le}
use Rattle.words.specs.Words.{if◌then◌otherwise◌}

-- a less b, the borrow dropped.
unfoldable pub less : ℕ → ℕ → ℕ → ℕ
less m a b = if nat_le b a then a - b otherwise a + m - b

-- s less each byte in turn.
unfoldable pub less_all : ℕ → ℕ → List ℕ → ℕ
less_all m s [] = s
less_all m s (b ∷ bs) = less_all m (less m s b) bs

-- The SUM of a frame, over its LEN and each byte after it.
unfoldable pub sum_of : List ℕ → ℕ
sum_of bs = less_all 256 0x00 bs
