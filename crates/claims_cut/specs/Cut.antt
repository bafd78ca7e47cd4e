-- What a single event can do to flash: which bytes are in doubt when the cable is cut in the middle of an update.
use Rattle.std.specs.Prelude.{List, ◌≡◌, ◌%◌, ◌+◌, ◌<◌, ◌≤◌, ℕ, drop, get_or, length, replicate, take}
use Rattle.chip.specs.Run.{onward}
use Rattle.chip.specs.Step.{Outcome, powered_on}
use Rattle.chip.specs.declared.Event.{Event}
use Rattle.chip.specs.declared.Event.TheVariants.{PowerOn}
use Rattle.claims_good.specs.Good.{Proper, Stands}
use Rattle.chip_core.specs.Effect.{Flash, Memory, bytes_in}
use Rattle.chip_flash.specs.Flash.{erased, programmed}
use Rattle.part.specs.Part.{block_size, page_size}
use Rattle.part.specs.declared.Area.{Area}
use Rattle.part.specs.declared.Area.TheVariants.{CodeFlash, DataFlash}
use Rattle.part.specs.declared.Part.{Part}

abbrev pub other_area : Area → Area
other_area CodeFlash = DataFlash
other_area DataFlash = CodeFlash

-- From the flash m to the flash n, n's bytes from `at` on, so many of them, are ds; every other byte of the area and all of the other area are as they were.
pub record Becomes (a : Area) (at : ℕ) (ds : List ℕ) (m n : Flash) : Type 0 where
  pub inside : at + length ds ≤ length (bytes_in a m)
  pub now : take (length ds) (drop at (bytes_in a n)) ≡ ds
  pub under : (i : ℕ) → i < at → get_or (bytes_in a n) i 0 ≡ get_or (bytes_in a m) i 0
  pub past : (i : ℕ) → at + length ds ≤ i → get_or (bytes_in a n) i 0 ≡ get_or (bytes_in a m) i 0
  pub other : bytes_in (other_area a) n ≡ bytes_in (other_area a) m

-- Nothing, of the kept sums neither; or one whole block, from its first byte, is FFh now; or one whole page, from its first byte, is what programming some
-- 256 bytes makes of it, each byte old AND new (document 02, §6).
pub data Change (p : Part) (m n : Memory) : Type 0 where
  nothing : n ≡ m → Change p m n
  one_block : (a : Area) (at : ℕ) → at % block_size p a ≡ 0 → Becomes a at (replicate (block_size p a) erased) m.flash n.flash → Change p m n
  one_page : (a : Area) (at : ℕ) (ds : List ℕ) → at % page_size ≡ 0 → length ds ≡ page_size
      → Becomes a at (programmed (take page_size (drop at (bytes_in a m.flash))) ds) m.flash n.flash → Change p m n

-- No event does more.
abbrev pub OneEvent : Type 0
OneEvent = (p : Part) (o : Outcome) (v : Event) → Stands p o → Proper v → Change p o.memory (onward p o v).memory

-- "Power-on .. keeps flash and options, and returns to the first phase." The kept sums stay, and the rate is 00h then.
pub record Kept (o u : Outcome) : Type 0 where
  pub memory : u.memory ≡ o.memory
  pub core : u.chip.core ≡ powered_on o.chip.core
  pub count : u.chip.collector.len ≡ 0

abbrev pub PowerOnKeeps : Type 0
PowerOnKeeps = (p : Part) (o : Outcome) → Stands p o → Kept o (onward p o PowerOn)
