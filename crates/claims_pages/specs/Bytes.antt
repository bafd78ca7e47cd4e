-- What programming makes of bytes, and when it is answered 06h: document 02, §6, "programming only clears bits, so each byte becomes old AND new. The second
-- status is 06h if every byte then equals what was sent, so resending the same page succeeds; else 1Ch". Bit by bit, and of the pages that a desk asks about.
use Rattle.std.specs.Prelude.{false, true, List, ◌≢◌, ◌≡◌, ◌%◌, ◌/◌, ◌<◌, ◌^◌, ℕ, get_or, length, replicate}
use Rattle.chip_flash.specs.Flash.{blank, programmed}
use Rattle.chip_pages.specs.Pages.{page_status}
use Rattle.frame.proofs.Laws.Sum.{Below}

-- Bit k of a number, 0 the lowest.
abbrev pub bit_of : ℕ → ℕ → ℕ
bit_of k n = n / 2 ^ k % 2

-- A bit is 1 afterwards exactly where it was 1 and was sent as 1.
pub record BitAfter (old new after : ℕ) : Type 0 where
  pub stays : old ≡ 1 → new ≡ 1 → after ≡ 1
  pub was : after ≡ 1 → old ≡ 1
  pub sent : after ≡ 1 → new ≡ 1

abbrev pub EachBit : Type 0
EachBit =
    (old new : List ℕ) (i k : ℕ) → i < length old → i < length new
    → BitAfter (bit_of k (get_or old i 0)) (bit_of k (get_or new i 0)) (bit_of k (get_or (programmed old new) i 0))

-- As many bytes as before.
abbrev pub AsMany : Type 0
AsMany = (old new : List ℕ) → length (programmed old new) ≡ length old

-- One bit that was sent as 1 and is 0 in flash, of a byte that is there.
pub record Lost (old new : List ℕ) : Type 0 where
  pub place : ℕ
  pub bit : ℕ
  pub inside : place < length new
  pub sent : bit_of bit (get_or new place 0) ≡ 1
  pub was : bit_of bit (get_or old place 0) ≡ 0

-- 06h or 1Ch, and 1Ch exactly where there is such a bit.
pub record StatusSo (old new : List ℕ) : Type 0 where
  pub lost : Lost old new → page_status old new ≡ 0x1C
  pub kept : (Lost old new → ⊥) → page_status old new ≡ 0x06

abbrev pub StatusByBits : Type 0
StatusByBits = (old new : List ℕ) → length old ≡ length new → StatusSo old new

-- "06h if every byte then equals what was sent".
pub record StatusTells (old new : List ℕ) : Type 0 where
  pub landed : programmed old new ≡ new → page_status old new ≡ 0x06
  pub lands : page_status old new ≡ 0x06 → programmed old new ≡ new
  pub mixed : programmed old new ≢ new → page_status old new ≡ 0x1C

abbrev pub StatusIsTold : Type 0
StatusIsTold = (old new : List ℕ) → StatusTells old new

-- The page after, and its status.
pub record WrittenAs (old new after : List ℕ) (status : ℕ) : Type 0 where
  pub page : programmed old new ≡ after
  pub says : page_status old new ≡ status

-- Over a blank page, "as document 01 has it": the page is stored.
abbrev pub OverBlank : Type 0
OverBlank = (old new : List ℕ) → length old ≡ length new → blank old ≡ true → Below 256 new → WrittenAs old new new 0x06

-- "so resending the same page succeeds".
abbrev pub Resent : Type 0
Resent = (bs : List ℕ) → WrittenAs bs bs bs 0x06

-- A page with more 0 bits than the old one: it is the old one AND something.
abbrev pub MoreZeros : Type 0
MoreZeros = (old other : List ℕ) → length old ≡ length other → WrittenAs old (programmed old other) (programmed old other) 0x06

-- FFh over bytes that are not all FFh: 1Ch, and they stay.
abbrev pub NothingCleared : Type 0
NothingCleared = (old : List ℕ) → Below 256 old → blank old ≡ false → WrittenAs old (replicate (length old) 0xFF) old 0x1C

-- After 1Ch the same page is answered 1Ch again, and changes nothing more.
abbrev pub AgainMixed : Type 0
AgainMixed = (old new : List ℕ) → page_status old new ≡ 0x1C → WrittenAs (programmed old new) new (programmed old new) 0x1C
