-- The eleven commands and their bytes: document 01, "Commands", the table in its order; 000, chapter 3. The dock writes a command by it, and the chip reads it.
use Rattle.std.specs.Prelude.{List, [], ◌++◌, ◌∷◌, ℕ, eqb, get_or, length, Err, Ok, Result}
use Rattle.commands.specs.declared.Command.{Command}
use Rattle.commands.specs.declared.Command.TheVariants.{BlankCheck, BlockErase, Checksum, Programming, RateSet, Reset, Verify}
use Rattle.commands.specs.declared.Command.TheVariants.{SecurityGet, SecurityRelease, SecuritySet, SignatureGet}
use Rattle.commands.specs.declared.Misread.TheVariants.{UnfitLen, Unknown}
use Rattle.commands.specs.declared.Misread.{Misread}
use Rattle.numbers.specs.Numbers.{low_first, number_at}
use Rattle.words.specs.Words.{if◌then◌otherwise◌}

-- Column "COM".
unfoldable pub com_of : Command → ℕ
com_of (RateSet rate supply) = 0x9A
com_of Reset = 0x00
com_of (BlockErase start) = 0x22
com_of (BlankCheck start end d01) = 0x32
com_of (Programming start end) = 0x40
com_of (Verify start end) = 0x13
com_of (Checksum start end) = 0xB0
com_of SignatureGet = 0xC0
com_of SecurityGet = 0xA1
com_of SecuritySet = 0xA0
com_of SecurityRelease = 0xA2

-- The information after COM. "Addresses travel low, middle, high."
unfoldable pub information_of : Command → List ℕ
information_of (RateSet rate supply) = rate ∷ supply ∷ []
information_of Reset = []
information_of (BlockErase start) = low_first 3 start
information_of (BlankCheck start end d01) = low_first 3 start ++ low_first 3 end ++ d01 ∷ []
information_of (Programming start end) = low_first 3 start ++ low_first 3 end
information_of (Verify start end) = low_first 3 start ++ low_first 3 end
information_of (Checksum start end) = low_first 3 start ++ low_first 3 end
information_of SignatureGet = []
information_of SecurityGet = []
information_of SecuritySet = []
information_of SecurityRelease = []

-- "LEN counts COM plus information": they are a command frame's payload.
unfoldable pub payload_of : Command → List ℕ
payload_of c = com_of c ∷ information_of c

-- A command's addresses; 0 where it has none.
abbrev pub start_of : Command → ℕ
start_of (RateSet rate supply) = 0
start_of Reset = 0
start_of (BlockErase start) = start
start_of (BlankCheck start end d01) = start
start_of (Programming start end) = start
start_of (Verify start end) = start
start_of (Checksum start end) = start
start_of SignatureGet = 0
start_of SecurityGet = 0
start_of SecuritySet = 0
start_of SecurityRelease = 0

abbrev pub end_of : Command → ℕ
end_of (RateSet rate supply) = 0
end_of Reset = 0
end_of (BlockErase start) = 0
end_of (BlankCheck start end d01) = end
end_of (Programming start end) = end
end_of (Verify start end) = end
end_of (Checksum start end) = end
end_of SignatureGet = 0
end_of SecurityGet = 0
end_of SecuritySet = 0
end_of SecurityRelease = 0

-- A row of the table: COM, LEN, and the command with its fields as they stand in the payload.
pub record Row : Type 0 where
  pub cmd : ℕ
  pub len : ℕ
  pub means : List ℕ → Command

abbrev pub row : ℕ → ℕ → (List ℕ → Command) → Row
row c n f = record { cmd = c; len = n; means = f }

unfoldable pub command_table : List Row
command_table =
    row 0x9A 3 (λ f. RateSet (get_or f 1 0) (get_or f 2 0))
    ∷ row 0x00 1 (λ f. Reset)
    ∷ row 0x22 4 (λ f. BlockErase (number_at 3 1 f))
    ∷ row 0x32 8 (λ f. BlankCheck (number_at 3 1 f) (number_at 3 4 f) (get_or f 7 0))
    ∷ row 0x40 7 (λ f. Programming (number_at 3 1 f) (number_at 3 4 f))
    ∷ row 0x13 7 (λ f. Verify (number_at 3 1 f) (number_at 3 4 f))
    ∷ row 0xB0 7 (λ f. Checksum (number_at 3 1 f) (number_at 3 4 f))
    ∷ row 0xC0 1 (λ f. SignatureGet)
    ∷ row 0xA1 1 (λ f. SecurityGet)
    ∷ row 0xA0 1 (λ f. SecuritySet)
    ∷ row 0xA2 1 (λ f. SecurityRelease)
    ∷ []

-- Which command a payload is: unknown where no row has its COM, and its LEN unfit where the row has another.
unfoldable pub fitted : ℕ → ℕ → Command → Result Command Misread
fitted n len c = if eqb n len then Ok c otherwise Err UnfitLen

unfoldable pub read_in : List Row → List ℕ → Result Command Misread
read_in [] f = Err Unknown
read_in (x ∷ xs) f = if eqb (get_or f 0 0) x.cmd then fitted (length f) x.len (x.means f) otherwise read_in xs f

unfoldable pub read_command : List ℕ → Result Command Misread
read_command f = read_in command_table f
