-- What a complete frame does: its reply, the chip's record after it, flash and the kept sums. No room, collector or array is in it.
use Rattle.std.specs.Prelude.{false, List, ℕ}
use Rattle.chip_core.specs.declared.Core.{Core}
use Rattle.chip_core.specs.declared.Done.{Done}
use Rattle.chip_core.specs.declared.Phase.{Phase}
use Rattle.chip_core.specs.declared.Phase.TheVariants.{Awaiting}
use Rattle.part.specs.declared.Area.{Area}
use Rattle.part.specs.declared.Area.TheVariants.{CodeFlash, DataFlash}
use Rattle.chip_reply.specs.declared.Reply.{Reply}
use Rattle.chip_reply.specs.declared.Reply.TheVariants.{Status}

-- "Code flash .. Data flash ..", as the two slices that are lent.
pub record Flash : Type 0 where
  pub code_flash : List ℕ
  pub data_flash : List ℕ

abbrev pub flash : List ℕ → List ℕ → Flash
flash c d = record { code_flash = c; data_flash = d }

abbrev pub bytes_in : Area → Flash → List ℕ
bytes_in CodeFlash m = m.code_flash
bytes_in DataFlash m = m.data_flash

abbrev pub with_bytes : Area → Flash → List ℕ → Flash
with_bytes CodeFlash m l = flash l m.data_flash
with_bytes DataFlash m l = flash m.code_flash l

-- What is lent to every event beside the room: flash, and the sums that are kept beside the chip's lasting record (document 02, §1).
pub record Memory : Type 0 where
  pub flash : Flash
  pub sums : List ℕ

abbrev pub memory : List ℕ → List ℕ → List ℕ → Memory
memory c d s = record { flash = flash c d; sums = s }

abbrev pub with_flash : Memory → Flash → Memory
with_flash m f = record { flash = f; sums = m.sums }

-- What a complete frame did beside what is lent: the reply, whose bytes `payloads` gives, and the record after it.
abbrev pub told : Reply → Core → Done
told r k = record { reply = r; core = k }

-- All that it did.
pub record Effect : Type 0 where
  pub reply : Reply
  pub core : Core
  pub memory : Memory

abbrev pub effect : Done → Memory → Effect
effect d m = record { reply = d.reply; core = d.core; memory = m }

-- The record with another phase.
abbrev pub entered : Core → Phase → Core
entered k f = record { options = k.options; rate = k.rate; phase = f }

-- A command that awaits data begins without a difference.
abbrev pub awaiting : ℕ → ℕ → ℕ → Core → Core
awaiting cmd next last k = entered k (Awaiting (record { command = cmd; next = next; last = last; differed = false }))

abbrev pub acknowledge : ℕ
acknowledge = 0x06

abbrev pub command_error : ℕ
command_error = 0x04

abbrev pub parameter_error : ℕ
parameter_error = 0x05

abbrev pub verify_error : ℕ
verify_error = 0x0F

abbrev pub protect_error : ℕ
protect_error = 0x10

abbrev pub not_blank : ℕ
not_blank = 0x1B

abbrev pub write_error : ℕ
write_error = 0x1C

-- "A status reply is a data frame with one byte."
abbrev pub says : ℕ → Core → Done
says s k = told (Status s) k
