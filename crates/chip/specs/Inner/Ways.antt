-- The ways of a byte, by the count and the LEN byte of what is collected, as the code decides them.
use Rattle.std.specs.Prelude.{Bool, ◌+◌, ℕ, leb}
use Rattle.chip.specs.Step.{replied}
use Rattle.chip.specs.declared.Step.{Step}
use Rattle.chip.specs.declared.events.ByteDone.{ByteDone}
use Rattle.chip.specs.declared.events.Way.{Way}
use Rattle.chip.specs.declared.events.Way.TheVariants.{Completes, Hears, Mode}
use Rattle.chip_core.specs.declared.Hearing.{Hearing}
use Rattle.chip_core.specs.declared.Hearing.TheVariants.{HearsCommands, HearsData, HearsNothing}
use Rattle.frame.specs.Frame.{before_last, counted}
use Rattle.frame.specs.declared.Header.{Header}
use Rattle.frame.specs.declared.Header.TheVariants.{Command, Data}
use Rattle.words.specs.Words.{◌and◌, if◌then◌otherwise◌}

-- The byte after these is the last of its frame.
unfoldable pub completes_at : ℕ → ℕ → Bool
completes_at count len = leb 2 count and leb (counted len + before_last) count

unfoldable pub way_on : Header → ℕ → ℕ → Way
way_on h count len = if completes_at count len then Completes h otherwise Hears h

unfoldable pub way_of : Hearing → ℕ → ℕ → Way
way_of HearsNothing count len = Mode
way_of HearsCommands count len = way_on Command count len
way_of (HearsData w) count len = way_on Data count len

-- What a byte came to, as a step.
abbrev pub answered : ByteDone → Step
answered s = record { answer = replied s.sent; fault = s.fault; chip = s.chip }
