-- What a phase hears: document 01, "Phases", and "Frames", "while a command is awaited, .. while a data frame is awaited". Nothing else goes by all phases to tell.
use Rattle.chip_core.specs.declared.Hearing.{Hearing}
use Rattle.chip_core.specs.declared.Hearing.TheVariants.{HearsCommands, HearsData, HearsNothing}
use Rattle.chip_core.specs.declared.Phase.{Phase}
use Rattle.chip_core.specs.declared.Phase.TheVariants.{Awaiting, ModeByte, Ready, Setup}

-- "1. Mode byte": no frame. "2. Only 9Ah. 3. Ready": a command. "4. Data awaited": a data frame, with "the command, next address and last address".
unfoldable pub hearing : Phase → Hearing
hearing ModeByte = HearsNothing
hearing Setup = HearsCommands
hearing Ready = HearsCommands
hearing (Awaiting w) = HearsData w
