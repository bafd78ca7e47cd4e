-- `engine_door::zc_engine` meets its contract.
-- Assumes nothing.
use mathlib.Core.Path.{◌∙◌, ◌≡◌, ap}
use Rattle.std.specs.Prelude.{Err}
use Rattle.engine.specs.declared.EngineRefusal.TheVariants as EngineRefusal
use Rattle.engine.specs.declared.EngineRefusal.TheVariants.{NoRoom}
use Rattle.engine_door.proofs.Laws.{engine-refused, engine-replied, engine-short}
use Rattle.engine_door.specs.Calls.{engine_admitted, engine_through}
use Rattle.engine_door.proofs.zc_engine.Goals as goal

pub returns-in-Err : goal.returns-in-Err
unfolding engine_through engine_admitted
returns-in-Err c = simp (← c.part_in-p.ensures, ← c.chip_admission-v.ensures, c.in-Err.is, ← c.number.ensures)

pub returns-in-Err-Refused : goal.returns-in-Err-Refused
returns-in-Err-Refused c =
    let e : c.in-Err-Refused.field-0 ≡ EngineRefusal.Refused c.in-Err-Refused.refusal = rw c.in-Err-Refused.is at c.in-Err-Refused.field-0-is in
    engine-refused _ _ _ _ _ _ _ c.part_in-p.ensures c.chip_admission-v.ensures c.in-Ok.is c.chip_in-chip.ensures c.play-played.ensures
    (c.in-Err-Refused.is ∙ ap Err e) c.number-in-Err-Refused.ensures

pub returns-in-Err-NoRoom : goal.returns-in-Err-NoRoom
returns-in-Err-NoRoom c =
    let e : c.in-Err-NoRoom.field-0 ≡ NoRoom = rw c.in-Err-NoRoom.is at c.in-Err-NoRoom.field-0-is in
    engine-short _ _ _ _ _ _ _ c.part_in-p.ensures c.chip_admission-v.ensures c.in-Ok.is c.chip_in-chip.ensures c.play-played.ensures
    (c.in-Err-NoRoom.is ∙ ap Err e)

pub returns-in-Ok-answer : goal.returns-in-Ok-answer
returns-in-Ok-answer c =
    engine-replied _ _ _ _ _ _ _ c.part_in-p.ensures c.chip_admission-v.ensures c.in-Ok.is c.chip_in-chip.ensures c.play-played.ensures
    c.in-Ok-answer.is c.fault-fault.ensures c.lay_chip.ensures
