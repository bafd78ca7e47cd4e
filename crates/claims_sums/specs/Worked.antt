-- Where the sums are kept, and what the call leaves that works them out: document 02, §1, "One call works all sums out when a chip is taken up."
use Rattle.std.specs.Prelude.{true, List, ◌≢◌, ◌≡◌, ◌<◌, ℕ, get_or, length, Err, Ok}
use Rattle.chip_core.specs.Effect.{Flash, bytes_in}
use Rattle.chip_sums.specs.Sums.{Right, slot, slots, worked_out}
use Rattle.part.specs.Part.{blocks, described, size}
use Rattle.part.specs.declared.Area.{Area}
use Rattle.part.specs.declared.Part.{Part}
use Rattle.part.specs.declared.refusal.Refusal.{Refusal}

-- Each block of a part has a slot of its own.
abbrev pub SlotsApart : Type 0
SlotsApart =
    (p : Part) (a c : Area) (b d : ℕ) → described p ≡ true → b < blocks p a → d < blocks p c → slot a b ≡ slot c d → (a ≡ c) × (b ≡ d)

abbrev pub SlotsEnough : Type 0
SlotsEnough = (p : Part) (a : Area) (b : ℕ) → described p ≡ true → b < blocks p a → slot a b < slots

-- A slot that is no block's of the part.
abbrev pub NoBlocks : Part → ℕ → Type 0
NoBlocks p i = (a : Area) (block : ℕ) → block < blocks p a → i ≢ slot a block

-- What bars the call is that the part is not described, or a flash has not its length.
pub record Fits (p : Part) (f : Flash) : Type 0 where
  pub part : described p ≡ true
  pub long : (a : Area) → length (bytes_in a f) ≡ size p a

-- Accepted: every sum is right, whatever was kept before, and the other slots are as they were.
pub record AllRight (p : Part) (f : Flash) (s t : List ℕ) : Type 0 where
  pub fits : Fits p f
  pub right : Right p (record { flash = f; sums = t })
  pub others : (i : ℕ) → NoBlocks p i → get_or t i 0 ≡ get_or s i 0

abbrev pub WorkedOutRight : Type 0
WorkedOutRight =
    (p : Part) (f : Flash) (s : List ℕ) → length s ≡ slots → (worked_out p f s).verdict ≡ Ok tt → AllRight p f s (worked_out p f s).sums

abbrev pub FitAccepted : Type 0
FitAccepted = (p : Part) (f : Flash) (s : List ℕ) → Fits p f → (worked_out p f s).verdict ≡ Ok tt

-- Refused: all sums are as they were.
abbrev pub RefusedLeaves : Type 0
RefusedLeaves = (p : Part) (f : Flash) (s : List ℕ) (r : Refusal) → (worked_out p f s).verdict ≡ Err r → (worked_out p f s).sums ≡ s
