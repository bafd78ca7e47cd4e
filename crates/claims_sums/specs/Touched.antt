-- Which sums an event changes: document 02, §1, "If they were right before an event, each equals the sum worked out afresh after it, and only the sums of
-- blocks that the event touched may change." It is said over what happened to flash (claims_cut/specs/Cut), and of any sums, right or wrong.
use Rattle.std.specs.Prelude.{List, ◌≢◌, ◌≡◌, ◌*◌, ◌+◌, ◌<◌, ◌≤◌, ℕ, get_or, length}
use Rattle.chip.specs.Run.{before, onward, run}
use Rattle.chip.specs.Step.{Outcome}
use Rattle.chip.specs.declared.Event.{Event}
use Rattle.chip_core.specs.Effect.{Memory}
use Rattle.chip_sums.specs.Sums.{Right, block_sum, kept, slot, slots, worked_out}
use Rattle.claims_cut.specs.Cut.{Change, nothing, one_block, one_page}
use Rattle.claims_good.specs.Good.{AllProper, Proper, Stands}
use Rattle.claims_sums.specs.Worked.{NoBlocks}
use Rattle.part.specs.Part.{block_size, blocks}
use Rattle.part.specs.declared.Area.{Area}
use Rattle.part.specs.declared.Part.{Part}

-- So many bytes from `at` on lie in one block, from its first byte to its last.
pub record InOneBlock (p : Part) (a : Area) (block at count : ℕ) : Type 0 where
  pub from_first : block * block_size p a ≤ at
  pub to_last : at + count ≤ (block + 1) * block_size p a

-- What happened to flash happened in this block.
unfoldable pub HappenedIn : Area → ℕ → {p : Part} {m n : Memory} → Change p m n → Type 0
HappenedIn a block (nothing same) = ⊥
HappenedIn a block {p} (one_block c at starts becomes) = (c ≡ a) × InOneBlock p a block at (block_size p a)
HappenedIn a block {p} (one_page c at ds starts long becomes) = (c ≡ a) × InOneBlock p a block at (length ds)

-- A block of the part was erased, or one of its pages programmed. Its sum is worked out afresh; every other slot is as it was.
pub record Touched (p : Part) (m n : Memory) : Type 0 where
  pub area : Area
  pub block : ℕ
  pub has : block < blocks p area
  pub change : Change p m n
  pub there : HappenedIn area block change
  pub renewed : kept n.sums area block ≡ block_sum p area block n.flash
  pub others : (i : ℕ) → i ≢ slot area block → get_or n.sums i 0 ≡ get_or m.sums i 0
  pub long : length n.sums ≡ length m.sums

pub data AtMostOne (p : Part) (m n : Memory) : Type 0 where
  untouched : n ≡ m → AtMostOne p m n
  touched : Touched p m n → AtMostOne p m n

abbrev pub OnlyTouched : Type 0
OnlyTouched =
    (p : Part) (o : Outcome) (v : Event) → Stands p o → Proper v → length o.memory.sums ≡ slots → AtMostOne p o.memory (onward p o v).memory

-- "If they were right before an event, each equals the sum worked out afresh after it"; and so after any run.
abbrev pub StaysRight : Type 0
StaysRight = (p : Part) (o : Outcome) (v : Event) → Stands p o → Proper v → Right p o.memory → Right p (onward p o v).memory

abbrev pub RunRight : Type 0
RunRight = (p : Part) (vs : List Event) (o : Outcome) → Stands p o → AllProper vs → Right p o.memory → Right p (run p vs o).memory

-- So a chip whose sums were worked out when it was taken up has right ones after any run, whatever was lent for them.
abbrev pub summed_afresh : Part → Outcome → Outcome
summed_afresh p o = before o.chip (record { flash = o.memory.flash; sums = (worked_out p o.memory.flash o.memory.sums).sums }) o.room

abbrev pub TakenUpRight : Type 0
TakenUpRight =
    (p : Part) (vs : List Event) (o : Outcome) → Stands p o → AllProper vs → length o.memory.sums ≡ slots → Right p (run p vs (summed_afresh p o)).memory

-- The slots of blocks that the part has not are as they were, after any run.
abbrev pub OthersStay : Type 0
OthersStay =
    (p : Part) (vs : List Event) (o : Outcome) → Stands p o → AllProper vs → length o.memory.sums ≡ slots
    → (i : ℕ) → NoBlocks p i → get_or (run p vs o).memory.sums i 0 ≡ get_or o.memory.sums i 0
