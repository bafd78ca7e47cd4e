-- How a chip's state crosses the door as bytes: one layout of 294 bytes. Numbers cross as the crate `numbers` says, a part as `part` says.
use Rattle.std.specs.Prelude.{Bool, false, List, [], ◌++◌, ◌∷◌, ℕ, eqb, leb, drop, get_or, take}
use Rattle.chip_state.specs.declared.Chip.{Chip}
use Rattle.chip_core.specs.declared.Awaited.{Awaited}
use Rattle.chip_core.specs.declared.Core.{Core}
use Rattle.chip_core.specs.declared.Phase.{Phase}
use Rattle.chip_core.specs.declared.Phase.TheVariants.{Awaiting, ModeByte, Ready, Setup}
use Rattle.frame.specs.declared.collector.Collector.{Collector}
use Rattle.numbers.specs.Numbers.{bit, low_first, number_at}
use Rattle.lent.specs.Lent.{all_are}
use Rattle.chip_options.specs.Options.{option_bytes, options_in}
use Rattle.chip_options.specs.declared.Options.{Options}
use Rattle.words.specs.Words.{◌and◌, ◌from◌to◌, ◌or◌, if◌then◌otherwise◌}

-- The phases by the document's numbers, 1 to 4.
abbrev pub phase_number : Phase → ℕ
phase_number ModeByte = 1
phase_number Setup = 2
phase_number Ready = 3
phase_number (Awaiting w) = 4

-- Only phase 4 awaits: in the others command, next and last address are 0, and no page has differed.
abbrev pub nothing_awaited : Awaited
nothing_awaited = record { command = 0x00; next = 0; last = 0; differed = false }

abbrev pub awaited_of : Phase → Awaited
awaited_of ModeByte = nothing_awaited
awaited_of Setup = nothing_awaited
awaited_of Ready = nothing_awaited
awaited_of (Awaiting w) = w

-- Bytes 0 to 8: the options' six, as A1h gives them; rate, phase, and the command that awaits data.
unfoldable pub head_of : Options → ℕ → ℕ → ℕ → List ℕ
head_of o rate phase cmd = option_bytes o ++ rate ∷ phase ∷ cmd ∷ []

-- Then next address, last address and the count of what is collected, eight bytes each (from 9, 17 and 25 on), from 33 on the collector's 260 bytes, and in byte 293
-- whether a page of 13h has differed (document 02, §2).
unfoldable pub chip_bytes : Chip → List ℕ
chip_bytes c =
    let w = awaited_of c.core.phase in
    head_of c.core.options c.core.rate (phase_number c.core.phase) w.command
    ++ low_first 8 w.next ++ low_first 8 w.last ++ low_first 8 c.collector.len ++ c.collector.bytes ++ bit w.differed ∷ []

abbrev pub state_size : ℕ
state_size = 294

-- 294 bytes are a state with a phase from 1 to 4, a last byte of 0 or 1, and nothing awaited but in phase 4: one state has one layout. Whether the state is one that
-- the chip accepts, the chip says.
unfoldable pub is_state : List ℕ → Bool
is_state bs =
    get_or bs 7 0 from 1 to 4
    and leb (get_or bs 293 0) 1
    and (eqb (get_or bs 7 0) 4 or all_are 0x00 (take 17 (drop 8 bs)) and eqb (get_or bs 293 0) 0)

unfoldable pub phase_in : ℕ → Awaited → Phase
phase_in n w = if eqb n 1 then ModeByte otherwise if eqb n 2 then Setup otherwise if eqb n 3 then Ready otherwise Awaiting w

unfoldable pub awaited_held : List ℕ → Awaited
awaited_held bs = record { command = get_or bs 8 0; next = number_at 8 9 bs; last = number_at 8 17 bs; differed = eqb (get_or bs 293 0) 1 }

unfoldable pub collector_in : List ℕ → Collector
collector_in bs = record { bytes = take 260 (drop 33 bs); len = number_at 8 25 bs }

abbrev pub core_in : List ℕ → Core
core_in bs = record { options = options_in bs; rate = get_or bs 6 0; phase = phase_in (get_or bs 7 0) (awaited_held bs) }

unfoldable pub chip_in : List ℕ → Chip
chip_in bs = record { core = core_in bs; collector = collector_in bs }
