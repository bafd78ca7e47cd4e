-- What the chip does with a mode byte and with a complete frame, by its phase: document 01, "Phases". Whoever splits bytes into frames, one by one or a stretch at
-- once, stands on it.
use Rattle.std.specs.Prelude.{List, ℕ, eqb}
use Rattle.chip_commands.specs.Commands.{command_does}
use Rattle.chip_core.specs.Effect.{Effect, Memory, effect, entered, told}
use Rattle.chip_core.specs.declared.Core.{Core}
use Rattle.chip_core.specs.declared.Hearing.{Hearing}
use Rattle.chip_core.specs.declared.Hearing.TheVariants.{HearsCommands, HearsData, HearsNothing}
use Rattle.chip_core.specs.declared.Phase.TheVariants.{Setup}
use Rattle.chip_pages.specs.Pages.{data_does}
use Rattle.chip_reply.specs.declared.Reply.TheVariants.{Silence}
use Rattle.part.specs.declared.Part.{Part}
use Rattle.words.specs.Words.{◌or◌, if◌then◌otherwise◌}

abbrev pub silent : Core → Memory → Effect
silent k m = effect (told Silence k) m

-- "1. Mode byte: 3Ah (one wire) or 00h (two wires); others skipped without reply."
unfoldable pub mode_byte : Core → ℕ → Core
mode_byte k b = if eqb b 0x3A or eqb b 0x00 then entered k Setup otherwise k

-- A complete frame does its work by what was awaited. (Where no frame is awaited, none comes.)
unfoldable pub frame_does : Hearing → Part → Core → List ℕ → Memory → Effect
frame_does HearsNothing p k f m = silent k m
frame_does HearsCommands p k f m = command_does p k f m
frame_does (HearsData w) p k f m = data_does p k w f m
