-- A chip's state as it lies in its 294 bytes, place by place, as include/door.h has it: reading and writing back hold for any order of the fields, and this is the order.
-- And which bytes are no state by the last one (document 02, §2). A dock's in its 26 bytes, and which are no state by their last three (document 02, §4).
use Rattle.std.specs.Prelude.{false, true, List, [], ◌++◌, ◌∷◌, ◌≡◌, ℕ, get_or, replicate, set, Err, Some}
use Rattle.chip_core.specs.declared.Phase.{Phase}
use Rattle.chip_core.specs.declared.Phase.TheVariants.{Awaiting, ModeByte, Ready, Setup}
use Rattle.chip_layout.specs.Layout.{chip_bytes, is_state}
use Rattle.chip_state.specs.declared.Chip.{Chip}
use Rattle.dock_job.specs.declared.Cause.TheVariants.{Unreadable}
use Rattle.dock_job.specs.declared.Dock.{Dock}
use Rattle.dock_job.specs.declared.Setup.TheVariants.{BaudRate}
use Rattle.dock_job.specs.declared.Stage.TheVariants.{Over, SetUp}
use Rattle.dock_layout.specs.Layout.{dock_bytes, is_dock}
use Rattle.frame.specs.declared.judgement.Judgement.TheVariants.{WrongFooter}

abbrev pub standing_in : Phase → Chip
standing_in f =
    record {
      core = record { options = record { flags = 0xEF; boot = 0x03; start = 0x0102; end = 0x030F }; rate = 0x02; phase = f };
      collector = record { bytes = 0x02 ∷ 0x00 ∷ 0xAA ∷ replicate 257 0x55; len = 3 };
    }

-- 13h over a block of data flash, at its second page, the first one other than flash.
abbrev pub verifying_bytes : List ℕ
verifying_bytes = chip_bytes (standing_in (Awaiting (record { command = 0x13; next = 0x0F1500; last = 0x0F17FF; differed = true })))

abbrev pub ready_bytes : List ℕ
ready_bytes = chip_bytes (standing_in Ready)

pub record LaidOut : Type 0 where
  pub verifying :
      verifying_bytes
      ≡ (0xEF ∷ 0x03 ∷ 0x02 ∷ 0x01 ∷ 0x0F ∷ 0x03 ∷ 0x02 ∷ 0x04 ∷ 0x13 ∷ [])
      ++ (0x00 ∷ 0x15 ∷ 0x0F ∷ 0x00 ∷ 0x00 ∷ 0x00 ∷ 0x00 ∷ 0x00 ∷ [])
      ++ (0xFF ∷ 0x17 ∷ 0x0F ∷ 0x00 ∷ 0x00 ∷ 0x00 ∷ 0x00 ∷ 0x00 ∷ [])
      ++ (0x03 ∷ 0x00 ∷ 0x00 ∷ 0x00 ∷ 0x00 ∷ 0x00 ∷ 0x00 ∷ 0x00 ∷ [])
      ++ (0x02 ∷ 0x00 ∷ 0xAA ∷ replicate 257 0x55)
      ++ 0x01 ∷ []
  pub phase1 : get_or (chip_bytes (standing_in ModeByte)) 7 0 ≡ 1
  pub phase2 : get_or (chip_bytes (standing_in Setup)) 7 0 ≡ 2
  pub phase3 : get_or ready_bytes 7 0 ≡ 3

-- Byte 293: 0 and 1 with each command of phase 4, nothing but 0 in another phase.
pub record LastByte : Type 0 where
  pub with13h : is_state verifying_bytes ≡ true
  pub with40h : is_state (set verifying_bytes 8 0x40) ≡ true
  pub with_a0h : is_state (set verifying_bytes 8 0xA0) ≡ true
  pub none : is_state (set verifying_bytes 293 0) ≡ true
  pub over1 : is_state (set verifying_bytes 293 2) ≡ false
  pub over1so : is_state (set verifying_bytes 293 0xFF) ≡ false
  pub ready : is_state ready_bytes ≡ true
  pub ready_with1 : is_state (set ready_bytes 293 1) ≡ false

-- A dock whose job failed by the unreadable answer to a page of 40h: its footer was wrong, at byte 259.
abbrev pub failed_dock : Dock
failed_dock =
    record {
      stage = Over (Err (record { cause = Unreadable; command = 0x40; page = Some 3; status = 0x00; block = Some 0x0102; fault = WrongFooter 259 }));
      awaited = false;
      retries = 5;
      frames = 0x0A0B;
    }

abbrev pub failed_bytes : List ℕ
failed_bytes = dock_bytes failed_dock

-- Another one, whose first answer is awaited.
abbrev pub awaiting_bytes : List ℕ
awaiting_bytes = dock_bytes (record { stage = SetUp BaudRate; awaited = true; retries = 0; frames = 1 })

pub record DockLaidOut : Type 0 where
  pub failed_lies :
      failed_bytes
      ≡ (0x0B ∷ 0x00 ∷ 0x05 ∷ 0x00 ∷ 0x00 ∷ 0x00 ∷ 0x0B ∷ 0x0A ∷ 0x00 ∷ 0x00 ∷ [])
      ++ (0x01 ∷ 0x02 ∷ 0x01 ∷ 0x00 ∷ 0x00 ∷ 0x01 ∷ 0x03 ∷ 0x00 ∷ 0x00 ∷ 0x00 ∷ [])
      ++ (0x03 ∷ 0x40 ∷ 0x00 ∷ 0x01 ∷ 0x03 ∷ 0x01 ∷ [])
  pub awaiting_lies : awaiting_bytes ≡ 0x01 ∷ 0x01 ∷ replicate 4 0x00 ++ 0x01 ∷ replicate 19 0x00

-- A fault's number is at most 4, unfit LEN has place 1, a wrong first byte and no fault place 0; another stage than a failure names none.
pub record FaultBytes : Type 0 where
  pub footer : is_dock failed_bytes ≡ true
  pub sum : is_dock (set failed_bytes 23 2) ≡ true
  pub len_elsewhere : is_dock (set failed_bytes 23 3) ≡ false
  pub len : is_dock (set (set (set failed_bytes 23 3) 24 1) 25 0) ≡ true
  pub first_elsewhere : is_dock (set (set failed_bytes 23 4) 25 0) ≡ false
  pub first : is_dock (set (set (set failed_bytes 23 4) 24 0) 25 0) ≡ true
  pub none : is_dock (set (set (set failed_bytes 23 0) 24 0) 25 0) ≡ true
  pub none_elsewhere : is_dock (set failed_bytes 23 0) ≡ false
  pub over4 : is_dock (set failed_bytes 23 5) ≡ false
  pub no_failure : is_dock (set (set awaiting_bytes 23 3) 24 1) ≡ false
