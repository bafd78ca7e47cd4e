-- What the replay of a capture, of either form, prints: document 01, "Replay", and 02, section 5, from the capture's bytes to the characters on standard output.
use Rattle.std.specs.Prelude.{List, [], ◌++◌, ◌∷◌, ◌%◌, ◌*◌, ◌+◌, ◌/◌, suc, zero, ℕ, ltb, drop, get_or, length, replicate, take, Err, Ok, Result}
use Rattle.chip.specs.Step.{fresh_chip}
use Rattle.chip_state.specs.declared.Chip.{Chip}
use Rattle.chip_core.specs.Effect.{Memory}
use Rattle.claims_stars.specs.Table.{fresh_memory}
use Rattle.frame.specs.Frame.{counted}
use Rattle.replay_capture.specs.declared.Form.{Form}
use Rattle.replay_hex.specs.Hex.{line_of}
use Rattle.replay_records.specs.Records.{Replaying, replay_of, replay_part}
use Rattle.replay_play.specs.Play.{output_least}
use Rattle.replay_records.specs.declared.Halt.TheVariants as Halt
use Rattle.replay_records.specs.declared.Halt.TheVariants.{AtBadRecord, OutputFull}
use Rattle.replay_records.specs.declared.Halt.{Halt}
use Rattle.words.specs.Words.{if◌then◌otherwise◌}

-- "Each reply frame is one line of hex": frames end to end, cut by their LEN bytes. (No frames are more than their bytes.)
unfoldable pub lines_in : ℕ → List ℕ → List ℕ
lines_in zero bs = []
lines_in (suc most) [] = []
lines_in (suc most) (b ∷ bs) =
    let n = counted (get_or (b ∷ bs) 1 0) + 4 in
    line_of (take n (b ∷ bs)) ++ lines_in most (drop n (b ∷ bs))

abbrev pub lines : List ℕ → List ℕ
lines bs = lines_in (length bs) bs

-- A number in decimal digits, the last written first.
unfoldable pub digits_in : ℕ → ℕ → List ℕ
digits_in zero n = []
digits_in (suc most) n = if ltb n 10 then (0x30 + n) ∷ [] otherwise digits_in most (n / 10) ++ (0x30 + n % 10) ∷ []

abbrev pub decimal : ℕ → List ℕ
decimal n = digits_in (suc n) n

-- The upshot of a replay: how it ended, how many records were played, the reply frames end to end and their number, and what it leaves.
pub record Upshot : Type 0 where
  pub ended : Result Unit Halt
  pub records : ℕ
  pub frames : ℕ
  pub said : List ℕ
  pub chip : Chip
  pub memory : Memory
  pub room : List ℕ

abbrev pub upshot_of : Replaying → Upshot
upshot_of x =
    record {
      ended = x.ended;
      records = x.records;
      frames = x.frames;
      said = take x.bytes x.output;
      chip = x.chip;
      memory = x.memory;
      room = x.room;
    }

-- "a bad or short record prints `BAD`, a space and its number from 0, and stops there; else the last line is `END` and the count of reply frames"
unfoldable pub last_line : Upshot → Result Unit Halt → List ℕ
last_line x (Ok _) = 0x45 ∷ 0x4E ∷ 0x44 ∷ 0x20 ∷ decimal x.frames ++ 0x0A ∷ []
last_line x (Err AtBadRecord) = 0x42 ∷ 0x41 ∷ 0x44 ∷ 0x20 ∷ decimal x.records ++ 0x0A ∷ []
last_line x (Err OutputFull) = []
last_line x (Err (Halt.Refused r)) = []

-- "The chip has 16 code and 4 data blocks, clock 32, all fresh." Its sums are worked out once, before the first record (`FreshSums`, claims_stars). The output has
-- room for every record's replies.
abbrev pub fresh_replay : Form → List ℕ → Replaying
fresh_replay form capture =
    replay_of form replay_part capture (fresh_chip replay_part) fresh_memory (replicate 32 0x00) (replicate (output_least form * length capture) 0x00)

unfoldable pub printed : Form → List ℕ → List ℕ
printed form capture = let g = upshot_of (fresh_replay form capture) in lines g.said ++ last_line g g.ended
