-- The lasting options: document 01, "The part", second paragraph; its flags and the rule of A0h's data, "Commands".
use Rattle.std.specs.Prelude.{Bool, not, List, [], ◌++◌, ◌∷◌, ◌%◌, ◌-◌, ◌/◌, ℕ, eqb, leb, ltb, get_or}
use Rattle.chip_options.specs.declared.Options.{Options}
use Rattle.numbers.specs.Numbers.{low_first, number_at}
use Rattle.part.specs.Part.{blocks}
use Rattle.part.specs.declared.Area.TheVariants.{CodeFlash}
use Rattle.part.specs.declared.Part.{Part}
use Rattle.words.specs.Words.{◌and◌, ◌or◌}

-- The last code block.
unfoldable pub last_block : Part → ℕ
last_block p = blocks p CodeFlash - 1

-- "flag byte (fresh FFh), last boot block (03h), window start block (fresh 0) and end block (fresh: last code block)"
unfoldable pub fresh_options : Part → Options
fresh_options p = record { flags = 0xFF; boot = 0x03; start = 0; end = last_block p }

-- "Flags (003): bit 1 boot rewriting allowed, bit 2 block erase allowed, bit 4 writing allowed; 0 forbids.", of every part
abbrev pub bit0 : ℕ → Bool
bit0 flags = eqb (flags % 2) 1

abbrev pub boot_allowed : Part → ℕ → Bool
boot_allowed p flags = eqb (flags / 2 % 2) 1

abbrev pub erase_allowed : Part → ℕ → Bool
erase_allowed p flags = eqb (flags / 4 % 2) 1

abbrev pub write_allowed : Part → ℕ → Bool
write_allowed p flags = eqb (flags / 16 % 2) 1

-- "bits 0, 3, 5, 6, 7 .. all 1", of every part
unfoldable pub fixed_bits : Part → ℕ → Bool
fixed_bits p flags = bit0 flags and eqb (flags / 8 % 2) 1 and eqb (flags / 32 % 2) 1 and eqb (flags / 64 % 2) 1 and eqb (flags / 128 % 2) 1

-- Options that A0h's 05h rule does not bar: "05h if bits 0, 3, 5, 6, 7 are not all 1, the last boot block is not 03h, ..
-- or the window is reversed or past the code blocks"
unfoldable pub good_options : Part → Options → Bool
good_options p o = fixed_bits p o.flags and eqb o.boot 0x03 and leb o.start o.end and ltb o.end (blocks p CodeFlash)

-- 32h with D01 01h asks: "flags and window are fresh".
unfoldable pub is_fresh : Part → Options → Bool
is_fresh p o = eqb o.flags 0xFF and eqb o.start 0 and eqb o.end (last_block p)

-- "10h if a 0 flag would become 1": only bits 1, 2 and 4 can be 0.
unfoldable pub rises : Bool → Bool → Bool
rises old new = not old and new

unfoldable pub raises : Part → ℕ → ℕ → Bool
raises p old new =
    rises (boot_allowed p old) (boot_allowed p new) or rises (erase_allowed p old) (erase_allowed p new) or rises (write_allowed p old) (write_allowed p new)

-- A2h: "fresh flags and window"; the last boot block stays.
unfoldable pub released : Part → Options → Options
released p o = record { flags = 0xFF; boot = o.boot; start = 0; end = last_block p }

-- The options as bytes: "flags, last boot block, window start and end (two bytes each, low first)"; and the options that bytes hold, from the first on.
unfoldable pub option_bytes : Options → List ℕ
option_bytes o = o.flags ∷ o.boot ∷ low_first 2 o.start ++ low_first 2 o.end

unfoldable pub options_in : List ℕ → Options
options_in bs = record { flags = get_or bs 0 0; boot = get_or bs 1 0; start = number_at 2 2 bs; end = number_at 2 4 bs }

-- A1h: "8 bytes: flags, last boot block, window start and end (two bytes each, low first), FFh FFh"
unfoldable pub security : Options → List ℕ
security o = option_bytes o ++ 0xFF ∷ 0xFF ∷ []
