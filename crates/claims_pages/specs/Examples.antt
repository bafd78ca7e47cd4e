-- Worked pages of 40h, on the part of document 01's examples: document 02, §6, over code block 1, 0400h to 07FFh, where a page holds 55h and all else is FFh.
use Rattle.std.specs.Prelude.{false, List, [], ◌++◌, ◌∷◌, map, ◌≡◌, ℕ, get_or, replicate, take}
use Rattle.chip.specs.Run.{before, onward, run}
use Rattle.chip.specs.Step.{Outcome, step_of}
use Rattle.chip.specs.declared.Event.TheVariants.{Byte}
use Rattle.chip_core.specs.Effect.{Effect, Memory, memory}
use Rattle.chip_core.specs.declared.Awaited.{Awaited}
use Rattle.chip_core.specs.declared.Core.{Core}
use Rattle.chip_core.specs.declared.Phase.{Phase}
use Rattle.chip_core.specs.declared.Phase.TheVariants.{Awaiting, Ready}
use Rattle.chip_flash.specs.Flash.{programmed}
use Rattle.chip_options.specs.Options.{fresh_options}
use Rattle.chip_pages.specs.Pages.{data_does, page_status}
use Rattle.chip_reply.specs.Reply.{frames_of, payloads}
use Rattle.claims_noise.specs.Claims.{Noise, run_by}
use Rattle.claims_noise.specs.Examples.{long_noise}
use Rattle.claims_noise.specs.Noise.{no_frame, then_gap, then_power_on}
use Rattle.claims_pages.specs.Sent.{old_page}
use Rattle.claims_stars.specs.Table.{acknowledged, fresh_memory, fresh_sums, the_part}
use Rattle.claims_verify.specs.Examples.{acknowledged_twice}
use Rattle.frame.specs.Collector.{fresh}
use Rattle.frame.specs.Frame.{data_frame}
use Rattle.frame.specs.declared.Footer.{Footer}
use Rattle.frame.specs.declared.Footer.TheVariants.{Last, More}
use Rattle.lent.specs.Lent.{put_at}

-- One byte, what is sent over it: what is left, and the second status.
abbrev pub over : ℕ → ℕ → List ℕ
over old new = programmed (old ∷ []) (new ∷ []) ++ page_status (old ∷ []) (new ∷ []) ∷ []

pub record BytesOver : Type 0 where
  pub blank : over 0xFF 0x5A ≡ 0x5A ∷ 0x06 ∷ []
  pub again : over 0x5A 0x5A ≡ 0x5A ∷ 0x06 ∷ []
  pub more_zeros : over 0x5A 0x18 ≡ 0x18 ∷ 0x06 ∷ []
  pub all_zeros : over 0x5A 0x00 ≡ 0x00 ∷ 0x06 ∷ []
  pub crossed : over 0x5A 0xA5 ≡ 0x00 ∷ 0x1C ∷ []
  pub shared : over 0x5A 0x3C ≡ 0x18 ∷ 0x1C ∷ []
  pub nothing : over 0x5A 0xFF ≡ 0x5A ∷ 0x1C ∷ []
  pub lowest_bit : over 0xFE 0x01 ≡ 0x00 ∷ 0x1C ∷ []
  pub highest_bit : over 0x7F 0x80 ≡ 0x00 ∷ 0x1C ∷ []

-- 40h over the block, at its first page and at its last.
abbrev pub first_awaited : Awaited
first_awaited = record { command = 0x40; next = 0x0400; last = 0x07FF; differed = false }

abbrev pub last_awaited : Awaited
last_awaited = record { command = 0x40; next = 0x0700; last = 0x07FF; differed = false }

abbrev pub awaiting_core : Awaited → Core
awaiting_core w = record { options = fresh_options the_part; rate = 0x00; phase = Awaiting w }

-- Flash that holds 55h where that page goes. (The sums are those of fresh flash: the block's is wrong, and is put right.)
abbrev pub holding55h : Awaited → Memory
holding55h w = memory (put_at fresh_memory.flash.code_flash w.next (replicate 256 0x55)) fresh_memory.flash.data_flash fresh_sums

-- What a page of one byte, 256 times, does there.
abbrev pub sent_over : Awaited → ℕ → Footer → Effect
sent_over w b f = data_does the_part (awaiting_core w) w (data_frame (replicate 256 b) f) (holding55h w)

abbrev pub said_to : Effect → List ℕ
said_to x = frames_of (payloads the_part x.core.options x.reply)

-- 06h 1Ch.
abbrev pub write_failed : List ℕ
write_failed = 0x02 ∷ 0x02 ∷ 0x06 ∷ 0x1C ∷ 0xDC ∷ 0x03 ∷ []

-- What is said, a byte of the page, the sum of the block, the phase.
pub record LeavesThere (x : Effect) (at : ℕ) (says : List ℕ) (byte sum : ℕ) (phase : Phase) : Type 0 where
  pub said : said_to x ≡ says
  pub holds : get_or x.memory.flash.code_flash at 0 ≡ byte
  pub summed : get_or x.memory.sums 1 0 ≡ sum
  pub phase-is : x.core.phase ≡ phase

abbrev pub next_awaited : Phase
next_awaited = Awaiting (record { command = 0x40; next = 0x0500; last = 0x07FF; differed = false })

-- The sums are 0000h less 768 times FFh and 256 times the byte left.
pub record PagesOver : Type 0 where
  pub again : LeavesThere (sent_over first_awaited 0x55 More) 0x0400 acknowledged_twice 0x55 0xAE00 next_awaited
  pub more_zeros : LeavesThere (sent_over first_awaited 0x11 More) 0x0400 acknowledged_twice 0x11 0xF200 next_awaited
  pub crossed : LeavesThere (sent_over first_awaited 0xAA More) 0x0400 write_failed 0x00 0x0300 Ready
  pub nothing : LeavesThere (sent_over first_awaited 0xFF More) 0x0400 write_failed 0x55 0xAE00 Ready
  pub last_again : LeavesThere (sent_over last_awaited 0x55 Last) 0x0700 (acknowledged_twice ++ acknowledged) 0x55 0xAE00 Ready
  pub last_crossed : LeavesThere (sent_over last_awaited 0xAA Last) 0x0700 write_failed 0x00 0x0300 Ready

-- "Pages answered 1Ch also stand in demand 3": the chip after the crossed page, fed byte by byte, and long noise after it.
abbrev pub over_chip : Outcome
over_chip = before (record { core = awaiting_core first_awaited; collector = fresh }) (holding55h first_awaited) (replicate 32 0x00)

unfoldable pub crossed_frame : List ℕ
crossed_frame = data_frame (replicate 256 0xAA) More

-- But for its footer, and with it.
abbrev pub at_last_byte : Outcome
at_last_byte = run the_part (map Byte (take 259 crossed_frame)) over_chip

abbrev pub mixed_chip : Outcome
mixed_chip = onward the_part at_last_byte (Byte 0x17)

abbrev pub NoiseMet : Type 0
NoiseMet = Noise no_frame the_part mixed_chip long_noise

pub record NoiseLeaves : Type 0 where
  pub gap : old_page the_part first_awaited (run_by step_of the_part (then_gap long_noise) mixed_chip) ≡ replicate 256 0x00
  pub power_on : old_page the_part first_awaited (run_by step_of the_part (then_power_on long_noise) mixed_chip) ≡ replicate 256 0x00
