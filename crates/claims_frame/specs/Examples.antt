-- The worked examples of 000, chapter 2, and of document 01 that speak of frames alone, as a table: what a definition gives, and what the document prints. And
-- a table of the faults of document 02, §4, each with its place.
use Rattle.std.specs.Prelude.{Bool, false, true, List, [], ◌++◌, ◌∷◌, ℕ, replicate}
use Rattle.frame.specs.Judgement.{fault, fitting, judge_of, status_of}
use Rattle.frame.specs.Sum.{sum_of}
use Rattle.frame.specs.Wire.{judge_reply}
use Rattle.frame.specs.declared.Footer.TheVariants.{Last, More}
use Rattle.frame.specs.declared.judgement.Fault.{Fault}
use Rattle.frame.specs.declared.judgement.Judgement.{Judgement}

pub record FrameExample : Type 0 where
  pub gives : ℕ
  pub printed : ℕ

abbrev pub frame_example : ℕ → ℕ → FrameExample
frame_example g p = record { gives = g; printed = p }

-- 000: the data frame with SUM 1Ah where 1Bh is right; and with 1Bh.
abbrev pub damaged : List ℕ
damaged = 0x02 ∷ 0x04 ∷ 0xFF ∷ 0x80 ∷ 0x40 ∷ 0x22 ∷ 0x1A ∷ 0x03 ∷ []

abbrev pub whole : List ℕ
whole = 0x02 ∷ 0x04 ∷ 0xFF ∷ 0x80 ∷ 0x40 ∷ 0x22 ∷ 0x1B ∷ 0x03 ∷ []

unfoldable pub frame_table : List FrameExample
frame_table =
    frame_example (sum_of (0x01 ∷ 0xA1 ∷ [])) 0x5E
    ∷ frame_example (sum_of (0x04 ∷ 0xFF ∷ 0x80 ∷ 0x40 ∷ 0x22 ∷ [])) 0x1B
    ∷ frame_example (status_of (judge_of Last damaged)) 0x07
    ∷ frame_example (status_of (judge_of Last whole)) 0x06
    ∷ frame_example (status_of (judge_of More whole)) 0x15
    ∷ frame_example (status_of (judge_of More damaged)) 0x15
    ∷ frame_example (status_of (fitting 8 whole (judge_of Last whole))) 0x15
    ∷ []

-- A judgement, and the fault that it must be, with its place.
pub record FaultExample : Type 0 where
  pub judged : Judgement
  pub told : Fault

abbrev pub fault_example : Judgement → ℕ → ℕ → FaultExample
fault_example j n at = record { judged = j; told = fault n at }

-- A page of 256 bytes of FFh, which add up to nothing, with this SUM and this footer: LEN is 00h.
abbrev pub page_with : ℕ → ℕ → List ℕ
page_with sum footer = 0x02 ∷ 0x00 ∷ replicate 256 0xFF ++ sum ∷ footer ∷ []

-- The reply 06h of one byte, as 01 prints it, and a reply of which one byte is expected, the last of its answer or not.
abbrev pub reply : List ℕ
reply = 0x02 ∷ 0x01 ∷ 0x06 ∷ 0xF9 ∷ 0x03 ∷ []

abbrev pub of_one : Bool → List ℕ → Judgement
of_one last bs = judge_reply 1 last bs

-- Wrong footer 1, at its place; wrong SUM 2, at its place; unfit LEN 3, at 1; of a reply, first byte 4, at 0. Nothing wrong: 0, 0.
unfoldable pub fault_table : List FaultExample
fault_table =
    fault_example (judge_of Last whole) 0 0
    ∷ fault_example (judge_of Last damaged) 2 6
    ∷ fault_example (judge_of More whole) 1 7
    ∷ fault_example (judge_of More damaged) 1 7
    ∷ fault_example (fitting 8 whole (judge_of Last whole)) 3 1
    ∷ fault_example (fitting 8 damaged (judge_of Last damaged)) 2 6
    ∷ fault_example (fitting 256 (page_with 0x00 0x17) (judge_of More (page_with 0x00 0x17))) 0 0
    ∷ fault_example (judge_of Last (page_with 0x00 0x17)) 1 259
    ∷ fault_example (judge_of More (page_with 0x01 0x17)) 2 258
    ∷ fault_example (judge_of Last (0x02 ∷ 0x01 ∷ 0x06 ∷ [])) 3 1
    ∷ fault_example (of_one true reply) 0 0
    ∷ fault_example (of_one true []) 4 0
    ∷ fault_example (of_one true (0x01 ∷ 0x01 ∷ 0x06 ∷ 0xF9 ∷ 0x03 ∷ [])) 4 0
    ∷ fault_example (of_one true (0x02 ∷ [])) 3 1
    ∷ fault_example (of_one true (0x02 ∷ 0x01 ∷ 0x06 ∷ 0xF9 ∷ [])) 3 1
    ∷ fault_example (of_one true (0x02 ∷ 0x02 ∷ 0x06 ∷ 0xF9 ∷ 0x03 ∷ [])) 3 1
    ∷ fault_example (of_one true (0x02 ∷ 0x01 ∷ 0x06 ∷ 0xF8 ∷ 0x03 ∷ 0x00 ∷ [])) 3 1
    ∷ fault_example (of_one false (0x02 ∷ 0x01 ∷ 0x06 ∷ 0xF8 ∷ 0x03 ∷ 0x00 ∷ [])) 2 3
    ∷ fault_example (of_one false (reply ++ reply)) 0 0
    ∷ fault_example (of_one true (0x02 ∷ 0x01 ∷ 0x06 ∷ 0xF9 ∷ 0x17 ∷ [])) 1 4
    ∷ fault_example (of_one true (0x02 ∷ 0x01 ∷ 0x06 ∷ 0xF8 ∷ 0x17 ∷ [])) 1 4
    ∷ []
