-- Each block's sum, kept beside the chip's lasting record: document 02, §1. Where it is kept, what it is, when it is right, and all of them worked out at once.
use Rattle.std.specs.Prelude.{not, List, [], ◌∷◌, ◌≡◌, ◌*◌, ◌+◌, ◌<◌, suc, zero, ℕ, eqb, ltb, drop, get_or, length, set, take, Err, None, Ok, Option, Result, Some}
use Rattle.chip_core.specs.Effect.{Flash, Memory, bytes_in}
use Rattle.chip_flash.specs.Flash.{sum_of_bytes}
use Rattle.part.specs.Part.{block_size, blocks, described, size}
use Rattle.part.specs.Refusal.{◌when◌, first_of}
use Rattle.part.specs.declared.Area.{Area}
use Rattle.part.specs.declared.Area.TheVariants.{CodeFlash, DataFlash}
use Rattle.part.specs.declared.Part.{Part}
use Rattle.part.specs.declared.refusal.Refusal.{Refusal}
use Rattle.part.specs.declared.Place.{Place}
use Rattle.part.specs.declared.refusal.Refusal.TheVariants.{BadPart, CodeLength, DataLength}
use Rattle.words.specs.Words.{if◌then◌otherwise◌}

-- A slot for each block that a part can have: "Code flash: 8 to 64 blocks .. Data flash: 0 to 8 blocks".
abbrev pub slots : ℕ
slots = 72

unfoldable pub slot : Area → ℕ → ℕ
slot CodeFlash block = block
slot DataFlash block = 64 + block

-- The sum that is kept for a block.
unfoldable pub kept : List ℕ → Area → ℕ → ℕ
kept s a block = get_or s (slot a block) 0

-- The bytes of so many blocks.
unfoldable pub range_bytes : Part → Area → ℕ → ℕ → Flash → List ℕ
range_bytes p a block count m = take (count * block_size p a) (drop (block * block_size p a) (bytes_in a m))

-- "each block's 16-bit sum as command B0h would give it": worked out from its bytes.
unfoldable pub block_sum : Part → Area → ℕ → Flash → ℕ
block_sum p a block m = sum_of_bytes (range_bytes p a block 1 m)

-- "If they were right": each block of the part has its own sum.
pub record Right (p : Part) (m : Memory) : Type 0 where
  pub long : length m.sums ≡ slots
  pub each : (a : Area) (block : ℕ) → block < blocks p a → kept m.sums a block ≡ block_sum p a block m.flash

-- A sum put into a block's slot; every other slot stays.
abbrev pub put_sum : Part → Area → ℕ → Flash → List ℕ → List ℕ
put_sum p a block m s = set s (slot a block) (block_sum p a block m)

-- The sum of the block at a place worked out afresh. (No block of the part, nothing to work out.)
unfoldable pub resummed : Part → Option Place → Memory → Memory
resummed p None m = m
resummed p (Some place) m =
    if ltb place.block (blocks p place.area) then record { flash = m.flash; sums = put_sum p place.area place.block m.flash m.sums }
    otherwise m

-- "One call works all sums out": those of the first n blocks of an area, and of both areas. The slots of blocks that the part has not stay.
unfoldable pub summed_to : ℕ → Part → Area → Flash → List ℕ → List ℕ
summed_to zero p a m s = s
summed_to (suc n) p a m s = put_sum p a n m (summed_to n p a m s)

unfoldable pub all_summed : Part → Flash → List ℕ → List ℕ
all_summed p m s = summed_to (blocks p DataFlash) p DataFlash m (summed_to (blocks p CodeFlash) p CodeFlash m s)

-- What bars the call: the chip's refusals, as far as they concern what is lent to it, in their order.
unfoldable pub flash_verdict : Part → ℕ → ℕ → Result Unit Refusal
flash_verdict p code «data» =
    first_of
    (BadPart when not (described p)
    ∷ CodeLength when not (eqb code (size p CodeFlash))
    ∷ DataLength when not (eqb «data» (size p DataFlash))
    ∷ [])

-- What the call leaves: its verdict, and all of the lent sums. Refused, it changes nothing.
pub record Summing : Type 0 where
  pub verdict : Result Unit Refusal
  pub sums : List ℕ

abbrev pub summing : Result Unit Refusal → List ℕ → Summing
summing v s = record { verdict = v; sums = s }

unfoldable pub summed_by : Result Unit Refusal → Part → Flash → List ℕ → Summing
summed_by (Err r) p m s = summing (Err r) s
summed_by (Ok _) p m s = summing (Ok tt) (all_summed p m s)

unfoldable pub worked_out : Part → Flash → List ℕ → Summing
worked_out p m s = summed_by (flash_verdict p (length m.code_flash) (length m.data_flash)) p m s
