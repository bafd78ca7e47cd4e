-- A capture, of either form, replayed in pieces, as the program reads it: document 01, "Replay", and 02, section 5. Every piece but the last is whole
-- records; each has output of its own, with whatever bytes in it, and goes to the chip that the pieces before it left. Nothing of the program's own is in it, only
-- what `replay_records::replay` does.
use Rattle.std.specs.Prelude.{List, [], ◌++◌, ◌∷◌, ◌≡◌, ◌%◌, ◌*◌, ◌+◌, ◌≤◌, ℕ, length, replicate, Err, Ok, Result}
use Rattle.replay_capture.specs.Capture.{record_size, records_of}
use Rattle.replay_capture.specs.declared.Form.{Form}
use Rattle.chip.specs.Run.{before}
use Rattle.chip.specs.Step.{fresh_chip}
use Rattle.chip_state.specs.declared.Chip.{Chip}
use Rattle.claims_good.specs.Good.{Stands}
use Rattle.chip_core.specs.Effect.{Memory}
use Rattle.claims_stars.specs.Table.{fresh_memory}
use Rattle.claims_replay.specs.Printed.{Upshot, last_line, lines, printed, upshot_of}
use Rattle.frame.proofs.Laws.Sum.{Below}
use Rattle.part.specs.Part.{Arrays}
use Rattle.part.specs.declared.Part.{Part}
use Rattle.part.specs.declared.refusal.Refusal.{Refusal}
use Rattle.replay_records.specs.Records.{replay_of, replay_part}
use Rattle.replay_play.specs.Play.{output_least}
use Rattle.replay_records.specs.declared.Halt.TheVariants as Halt
use Rattle.replay_records.specs.declared.Halt.TheVariants.{AtBadRecord, OutputFull}
use Rattle.replay_records.specs.declared.Halt.{Halt}

abbrev pub beginning : Chip → Memory → List ℕ → Upshot
beginning c m room = record { ended = Ok tt; records = 0; frames = 0; said = []; chip = c; memory = m; room = room }

-- One upshot after another: the numbers add up, the frames follow each other, and the last one says how it ended and what is left.
abbrev pub and_then : Upshot → Upshot → Upshot
and_then g h =
    record {
      ended = h.ended;
      records = g.records + h.records;
      frames = g.frames + h.frames;
      said = g.said ++ h.said;
      chip = h.chip;
      memory = h.memory;
      room = h.room;
    }

pub record Piece : Type 0 where
  pub capture : List ℕ
  pub output : List ℕ

-- One more piece, to the chip that was left.
abbrev pub of_piece : Form → Part → Upshot → Piece → Upshot
of_piece form p g q = upshot_of (replay_of form p q.capture g.chip g.memory g.room q.output)

abbrev pub with_piece : Form → Part → Upshot → Piece → Upshot
with_piece form p g q = and_then g (of_piece form p g q)

-- Only a piece that was replayed whole is followed by the next.
unfoldable pub while_on : Result Unit Halt → Upshot → Upshot → Upshot
while_on (Ok _) rest g = rest
while_on (Err AtBadRecord) rest g = g
while_on (Err OutputFull) rest g = g
while_on (Err (Halt.Refused r)) rest g = g

unfoldable pub in_pieces : Form → Part → List Piece → Upshot → Upshot
in_pieces form p [] g = g
in_pieces form p (q ∷ qs) g = while_on (with_piece form p g q).ended (in_pieces form p qs (with_piece form p g q)) (with_piece form p g q)

unfoldable pub joined : List Piece → List ℕ
joined [] = []
joined (q ∷ qs) = q.capture ++ joined qs

-- Output with room for the replies of every record.
abbrev pub Suffices : Form → List ℕ → List ℕ → Type 0
Suffices form capture output = output_least form * length (records_of (record_size form) capture) ≤ length output

-- Cut between records, with enough output for each piece.
pub data Pieces (form : Form) : List Piece → Type 0 where
  no_piece : Pieces form []
  last_piece : (q : Piece) → Suffices form q.capture q.output → Pieces form (q ∷ [])
  and_piece : (q : Piece) (qs : List Piece) → length q.capture % record_size form ≡ 0 → Suffices form q.capture q.output → Pieces form qs → Pieces form (q ∷ qs)

-- The pieces together have the upshot of the whole, its record numbers included: a bad record's number is that in the whole capture.
abbrev pub InPieces : Type 0
InPieces =
    (form : Form) (p : Part) (qs : List Piece) (c : Chip) (m : Memory) (room output : List ℕ) → Arrays p → Pieces form qs → Suffices form (joined qs) output
    → in_pieces form p qs (beginning c m room) ≡ upshot_of (replay_of form p (joined qs) c m room output)

-- From a chip that stands, no piece is refused, and the chip stands after each.
pub record Standing (p : Part) (g : Upshot) : Type 0 where
  pub stands : Stands p (before g.chip g.memory g.room)
  pub unrefused : (r : Refusal) → g.ended ≡ Err (Halt.Refused r) → ⊥

abbrev pub PiecesStand : Type 0
PiecesStand =
    (form : Form) (p : Part) (qs : List Piece) (c : Chip) (m : Memory) (room : List ℕ) → Stands p (before c m room) → Below 256 (joined qs) → Pieces form qs
    → Standing p (in_pieces form p qs (beginning c m room))

-- What is printed of the pieces: the lines of each one's reply frames as it is replayed, and the last line, of the numbers added up.
unfoldable pub only_on : Result Unit Halt → List ℕ → List ℕ
only_on (Ok _) text = text
only_on (Err AtBadRecord) text = []
only_on (Err OutputFull) text = []
only_on (Err (Halt.Refused r)) text = []

unfoldable pub lines_in_pieces : Form → Part → List Piece → Upshot → List ℕ
lines_in_pieces form p [] g = []
lines_in_pieces form p (q ∷ qs) g = lines (of_piece form p g q).said ++ only_on (with_piece form p g q).ended (lines_in_pieces form p qs (with_piece form p g q))

abbrev pub fresh_start : Upshot
fresh_start = beginning (fresh_chip replay_part) fresh_memory (replicate 32 0x00)

unfoldable pub printed_in_pieces : Form → List Piece → List ℕ
printed_in_pieces form qs = let g = in_pieces form replay_part qs fresh_start in lines_in_pieces form replay_part qs fresh_start ++ last_line g g.ended

-- It is what the whole prints.
abbrev pub PrintedInPieces : Type 0
PrintedInPieces = (form : Form) (qs : List Piece) → Below 256 (joined qs) → Pieces form qs → printed_in_pieces form qs ≡ printed form (joined qs)
