-- What C0h answers of a part: document 01, "Commands", C0h. The chip says it, and the dock holds the reply to it.
-- "last data address (000000h if none)"
use Rattle.std.specs.Prelude.{List, [], ◌++◌, ◌∷◌, ℕ, None, Option, Some}
use Rattle.numbers.specs.Numbers.{low_first}
use Rattle.part.specs.Part.{last_of}
use Rattle.part.specs.declared.Area.TheVariants.{CodeFlash, DataFlash}
use Rattle.part.specs.declared.Part.{Part}

-- "Addresses travel low, middle, high."
abbrev pub last_bytes : Option ℕ → List ℕ
last_bytes (Some n) = low_first 3 n
last_bytes None = 0x00 ∷ 0x00 ∷ 0x00 ∷ []

-- C0h: "22 bytes: device code, name, last code address, last data address (000000h if none), version"
unfoldable pub signature : Part → List ℕ
signature p = p.device ++ p.name ++ last_bytes (last_of p CodeFlash) ++ last_bytes (last_of p DataFlash) ++ p.version
