-- Work on lent flash bytes, as definitions on lists: document 01, "The part" ("Erased means FFh.") and the work of 22h, 32h, 13h and B0h; document 02, §6, that of 40h.
use Rattle.std.specs.Prelude.{Bool, List, [], ◌∷◌, ℕ, drop, replicate, take}
use Rattle.std.specs.Int.Bits.{bit_and}
use Rattle.frame.specs.Sum.{less_all}
use Rattle.lent.specs.Lent.{Left, all_are, put_of, same}

abbrev pub erased : ℕ
erased = 0xFF

-- These bytes are all FFh.
unfoldable pub blank : List ℕ → Bool
blank bs = all_are erased bs

-- n bytes from the place at on set to FFh; every other byte stays. Short where they do not all lie in the flash, and then nothing changes.
unfoldable pub erase_of : List ℕ → ℕ → ℕ → Left
erase_of l at n = put_of l at (replicate n erased)

-- 40h (document 02, §6): "programming only clears bits, so each byte becomes old AND new." Old bytes past the new ones stay.
unfoldable pub programmed : List ℕ → List ℕ → List ℕ
programmed [] new = []
programmed (b ∷ bs) [] = b ∷ bs
programmed (b ∷ bs) (c ∷ cs) = bit_and b c ∷ programmed bs cs

-- "every byte then equals what was sent"
unfoldable pub lands : List ℕ → List ℕ → Bool
lands old new = same (programmed old new) new

-- The n bytes from the place at on, as many of them as there are, programmed; every other byte stays.
unfoldable pub program_of : List ℕ → ℕ → ℕ → List ℕ → List ℕ
program_of l at n new = (put_of l at (programmed (take n (drop at l)) new)).bytes

-- B0h: "0000h less each byte, 16 bits".
unfoldable pub sum_of_bytes : List ℕ → ℕ
sum_of_bytes bs = less_all 65536 0x0000 bs
