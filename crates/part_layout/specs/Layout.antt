-- How a part crosses the door: one layout of 19 bytes. Document 01, "The part".
use Rattle.std.specs.Prelude.{List, ℕ, get_or}
use Rattle.numbers.specs.Numbers.{bytes_at}
use Rattle.part.specs.declared.Part.{Part}

abbrev pub part_size : ℕ
part_size = 19

-- Code blocks, data blocks, clock, a byte each: what a byte can hold beyond the document's numbers is outside them. "The description also holds device code
-- (3 bytes), name (10), firmware version (3)."
unfoldable pub part_in : List ℕ → Part
part_in bs =
    record {
      code_blocks = get_or bs 0 0;
      data_blocks = get_or bs 1 0;
      clock = get_or bs 2 0;
      device = bytes_at 3 3 bs;
      name = bytes_at 10 6 bs;
      version = bytes_at 3 16 bs;
    }
