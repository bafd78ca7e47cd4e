-- What 9Ah accepts and answers: document 01, "Commands", 9Ah.
use Rattle.std.specs.Prelude.{Bool, ℕ, leb}
use Rattle.part.specs.declared.Part.{Part}
use Rattle.words.specs.Words.{◌and◌, ◌from◌to◌, if◌then◌otherwise◌}

-- "rate 00h to 03h (115,200, 250,000, 500,000, 1,000,000); supply 18 to 55 in 100 m_v"
unfoldable pub accepts_rate : Part → ℕ → ℕ → Bool
accepts_rate p rate supply = leb rate 0x03 and supply from 18 to 55

-- "mode 00h from 27 up, else 01h"
unfoldable pub mode_of : Part → ℕ → ℕ
mode_of p supply = if leb 27 supply then 0x00 otherwise 0x01
