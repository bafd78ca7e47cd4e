-- Laws about the layout of a part: the record that the code makes is the part, and how long a part's arrays are.
-- Assumes nothing.
use mathlib.Core.List.{List}
use mathlib.Core.Path.{◌≡◌}
use Prim.Native.Nat.{ℕ}
use lib.ListN.{get_or, replicate}
use Rattle.numbers.proofs.Laws.{bytes-long}
use Rattle.numbers.specs.Numbers.{bytes_at}
use Rattle.part.proofs.Laws.{bare-is}
use Rattle.part.specs.Part.{Arrays, bare}
use Rattle.part.specs.declared.Part.{Part}
use Rattle.part_layout.specs.Layout.{part_in}

pub part-is : {code extra clock : ℕ} {device name version : List ℕ} (bs : List ℕ) → code ≡ get_or bs 0 0 → extra ≡ get_or bs 1 0 → clock ≡ get_or bs 2 0
    → device ≡ bytes_at 3 3 bs → name ≡ bytes_at 10 6 bs → version ≡ bytes_at 3 16 bs
    → record { code_blocks = code; data_blocks = extra; clock = clock; device = device; name = name; version = version } ≡ part_in bs
unfolding part_in
part-is bs e f g h i k = rw (e, f, g, h, i, k)

-- The same without names.
abbrev nameless : ℕ → ℕ → ℕ → Part
nameless code extra clock =
    record { code_blocks = code; data_blocks = extra; clock = clock; device = replicate 3 0; name = replicate 10 0; version = replicate 3 0 }

pub bare-part-is : {code extra clock : ℕ} (bs : List ℕ) → code ≡ get_or bs 0 0 → extra ≡ get_or bs 1 0 → clock ≡ get_or bs 2 0 → nameless code extra clock ≡ bare (part_in bs)
unfolding part_in
bare-part-is bs e f g = rw (bare-is (part_in bs), e, f, g)

pub part-long : (bs : List ℕ) → Arrays (part_in bs)
unfolding part_in
part-long bs = record { device_long = bytes-long 3 3 bs; name_long = bytes-long 10 6 bs; version_long = bytes-long 3 16 bs }
