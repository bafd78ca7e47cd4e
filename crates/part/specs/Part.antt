-- Document 01, "The part": the description, the two areas of flash, their blocks and pages; and from "Commands" what a good range is.
use Rattle.std.specs.Prelude.{ℕ, ◌+◌, ◌-◌, ◌*◌, ◌/◌, ◌%◌, Bool, ◌≡◌, leb, ltb, eqb, length, replicate, None, Option, Some}
use Rattle.words.specs.Words.{◌and◌, ◌from◌to◌, if◌then◌otherwise◌}
use Rattle.part.specs.declared.Part.{Part}
use Rattle.part.specs.declared.Area.{Area}
use Rattle.part.specs.declared.Area.TheVariants.{CodeFlash, DataFlash}
use Rattle.part.specs.declared.Range.{Range}
use Rattle.part.specs.declared.Place.{Place}

-- "Code flash: 8 to 64 blocks .. Data flash: 0 to 8 blocks .. Clock 1 to 32." Device code, name and firmware version are any bytes.
unfoldable pub described : Part → Bool
described p = p.code_blocks from 8 to 64 and p.data_blocks from 0 to 8 and p.clock from 1 to 32

-- "The description also holds device code (3 bytes), name (10), firmware version (3)." The types of the code's arrays give these lengths.
pub record Arrays (p : Part) : Type 0 where
  pub device_long : length p.device ≡ 3
  pub name_long : length p.name ≡ 10
  pub version_long : length p.version ≡ 3

-- A part without its names. (A word of the code's, and none of the document's: what judges a call reads the numbers alone.)
unfoldable pub bare : Part → Part
bare p =
    record {
      code_blocks = p.code_blocks;
      data_blocks = p.data_blocks;
      clock = p.clock;
      device = replicate 3 0x00;
      name = replicate 10 0x00;
      version = replicate 3 0x00;
    }

abbrev pub blocks : Part → Area → ℕ
blocks p CodeFlash = p.code_blocks
blocks p DataFlash = p.data_blocks

-- "Code flash: .. from 00000h. Data flash: .. from F1000h."
abbrev pub first : Area → ℕ
first CodeFlash = 0x00000
first DataFlash = 0xF1000

-- "A block is 1,024 bytes, a page 256."
unfoldable pub block_size : Part → Area → ℕ
block_size p a = 1024

abbrev pub page_size : ℕ
page_size = 256

-- How many pages a block has.
abbrev pub pages : Part → Area → ℕ
pages p a = block_size p a / page_size

-- The bytes of an area.
abbrev pub size : Part → Area → ℕ
size p a = blocks p a * block_size p a

-- The last address of an area; none where it has no blocks.
unfoldable pub last_of : Part → Area → Option ℕ
last_of p a = if eqb (size p a) 0 then None otherwise Some (first a + size p a - 1)

-- An address lies in an area from its first address to its last.
unfoldable pub lies_in : Part → Area → ℕ → Bool
lies_in p a at = leb (first a) at and ltb at (first a + size p a)

-- Counted from an area's first address: the offset, the block, and the page in the block.
unfoldable pub block_of : Part → Area → ℕ → ℕ
block_of p a at = (at - first a) / block_size p a

unfoldable pub page_of : Part → Area → ℕ → ℕ
page_of p a at = (at - first a) % block_size p a / page_size

abbrev pub place_at : Area → ℕ → ℕ → ℕ → Place
place_at a offset block page = record { area = a; offset = offset; block = block; page = page }

unfoldable pub place_in : Part → Area → ℕ → Option Place
place_in p a at = Some (place_at a (at - first a) (block_of p a at) (page_of p a at))

unfoldable pub place_of : Part → ℕ → Option Place
place_of p at =
    if lies_in p CodeFlash at then place_in p CodeFlash at
    otherwise if lies_in p DataFlash at then place_in p DataFlash at
    otherwise None

-- The first address of a block, and the last.
unfoldable pub starts_block : Part → Area → ℕ → Bool
starts_block p a at = eqb ((at - first a) % block_size p a) 0

unfoldable pub ends_block : Part → Area → ℕ → Bool
ends_block p a at = eqb ((at + 1 - first a) % block_size p a) 0

-- Both ends lie in the area, and from the one to the other are whole blocks.
unfoldable pub whole_blocks : Part → Area → ℕ → ℕ → Bool
whole_blocks p a start end = lies_in p a start and lies_in p a end and starts_block p a start and ends_block p a end

abbrev pub range_at : Area → ℕ → ℕ → Range
range_at a block count = record { area = a; block = block; count = count }

unfoldable pub stretch : Part → Area → ℕ → ℕ → Option Range
stretch p a start end = Some (range_at a (block_of p a start) (block_of p a end + 1 - block_of p a start))

-- "A range is bad (05h) if start exceeds end, either end is outside flash, it crosses from code to data, or it is not whole blocks."
unfoldable pub range_of : Part → ℕ → ℕ → Option Range
range_of p start end =
    if ltb end start then None
    otherwise if whole_blocks p CodeFlash start end then stretch p CodeFlash start end
    otherwise if whole_blocks p DataFlash start end then stretch p DataFlash start end
    otherwise None
