-- Numbers as bytes, low byte first, as the documents' numbers travel: written, and read.
use Rattle.std.specs.Prelude.{Bool, false, true, List, [], ◌∷◌, ◌%◌, ◌*◌, ◌+◌, ◌/◌, suc, zero, ℕ, get_or}

-- A number in k bytes, and the number that k bytes from a place on are; bytes that are not there count as 0.
unfoldable pub low_first : ℕ → ℕ → List ℕ
low_first zero n = []
low_first (suc k) n = n % 256 ∷ low_first k (n / 256)

unfoldable pub number_at : ℕ → ℕ → List ℕ → ℕ
number_at zero at bs = 0
number_at (suc k) at bs = get_or bs at 0 + 256 * number_at k (at + 1) bs

-- These k bytes.
unfoldable pub bytes_at : ℕ → ℕ → List ℕ → List ℕ
bytes_at zero at bs = []
bytes_at (suc k) at bs = get_or bs at 0 ∷ bytes_at k (at + 1) bs

-- Yes or no as one byte.
abbrev pub bit : Bool → ℕ
bit true = 1
bit false = 0
