-- `chip_commands::reading_does` meets its contract: each reading's arm is the definition's.
-- Assumes nothing.
use mathlib.Core.Path.{◌≡◌}
use Rattle.chip_commands.specs.Commands.{reading_does}
use Rattle.commands.specs.declared.Misread.TheVariants.{UnfitLen, Unknown}
use Rattle.chip_commands.proofs.reading_does.Goals as goal

pub returns-in-Err-Unknown : goal.returns-in-Err-Unknown
unfolding reading_does
returns-in-Err-Unknown c =
    let e : c.in-Err-Unknown.field-0 ≡ Unknown = rw c.in-Err-Unknown.is at c.in-Err-Unknown.field-0-is in
    rw (c.in-Err-Unknown.is, e, c.says.ensures)

pub returns-in-Err-UnfitLen : goal.returns-in-Err-UnfitLen
unfolding reading_does
returns-in-Err-UnfitLen c =
    let e : c.in-Err-UnfitLen.field-0 ≡ UnfitLen = rw c.in-Err-UnfitLen.is at c.in-Err-UnfitLen.field-0-is in
    rw (c.in-Err-UnfitLen.is, e)

pub returns-in-Ok : goal.returns-in-Ok
unfolding reading_does
returns-in-Ok c = simp (c.in-Ok.is, ← c.work.ensures)
