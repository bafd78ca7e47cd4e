-- The replies: document 01, "Commands" and the paragraphs on pages. A reply is a value; what it says on the wire is a list of data frames' payloads.
use Rattle.std.specs.Prelude.{not, List, [], ◌++◌, ◌∷◌, ℕ, ltb, drop, length}
use Rattle.frame.specs.Frame.{data_frame}
use Rattle.frame.specs.Framing.{frames}
use Rattle.frame.specs.Judgement.{status_of}
use Rattle.frame.specs.declared.Footer.TheVariants.{Last}
use Rattle.frame.specs.declared.judgement.Judgement.{Judgement}
use Rattle.frame.specs.declared.judgement.Judgement.TheVariants.{Good}
use Rattle.chip_options.specs.Options.{security}
use Rattle.chip_options.specs.declared.Options.{Options}
use Rattle.numbers.specs.Numbers.{low_first}
use Rattle.part.specs.Part.{described}
use Rattle.part.specs.Signature.{signature}
use Rattle.part.specs.declared.Part.{Part}
use Rattle.chip_reply.specs.declared.Reply.{Reply}
use Rattle.chip_reply.specs.declared.Reply.TheVariants.{BadFrame, BadPage, LastStored, Pair, Rate, Security, Signature, Silence, Status, Sum}
use Rattle.chip_reply.specs.declared.Sent.{Sent}
use Rattle.words.specs.Words.{◌or◌, if◌then◌otherwise◌}

-- The payload of each reply frame, in order.
unfoldable pub payloads : Part → Options → Reply → List (List ℕ)
payloads p o Silence = []
payloads p o (Status s) = (s ∷ []) ∷ []
payloads p o (BadFrame j) = (status_of j ∷ []) ∷ []
payloads p o (Rate mode) = (0x06 ∷ p.clock ∷ mode ∷ []) ∷ []
payloads p o (Pair s t) = (s ∷ t ∷ []) ∷ []
payloads p o (BadPage j) = (status_of j ∷ status_of j ∷ []) ∷ []
payloads p o LastStored = (0x06 ∷ 0x06 ∷ []) ∷ (0x06 ∷ []) ∷ []
payloads p o (Sum n) = (0x06 ∷ []) ∷ low_first 2 n ∷ []
payloads p o Signature = (0x06 ∷ []) ∷ signature p ∷ []
payloads p o Security = (0x06 ∷ []) ∷ security o ∷ []

-- The judgement of the frame that a reply answers, where that was judged bad: what its status hides on the wire (document 02, §4). Good for any other reply.
unfoldable pub fault_in : Reply → Judgement
fault_in Silence = Good
fault_in (Status s) = Good
fault_in (BadFrame j) = j
fault_in (Rate mode) = Good
fault_in (Pair s t) = Good
fault_in (BadPage j) = j
fault_in LastStored = Good
fault_in (Sum n) = Good
fault_in Signature = Good
fault_in Security = Good

-- Reply frames lie end to end, each a last frame.
unfoldable pub frames_of : List (List ℕ) → List ℕ
frames_of [] = []
frames_of (ds ∷ rs) = data_frame ds Last ++ frames_of rs

-- What sending leaves: bytes and frames written, and the whole room.
pub record Said : Type 0 where
  pub sent : Sent
  pub room : List ℕ

abbrev pub sent_as : ℕ → ℕ → Sent
sent_as bytes frames = record { bytes = bytes; frames = frames }

abbrev pub said : Sent → List ℕ → Said
said s r = record { sent = s; room = r }

abbrev pub nothing_said : List ℕ → Said
nothing_said room = said (record { bytes = 0; frames = 0 }) room

-- The replies at the room's start: "Reply room past the reply stays too."
unfoldable pub said_of : List (List ℕ) → List ℕ → Said
said_of rs room = said (record { bytes = length (frames_of rs); frames = length rs }) (frames_of rs ++ drop (length (frames_of rs)) room)

-- What sending leaves, whatever it is called with: nothing is sent for a part that is not described, or into room under 32 bytes (the longest reply has 31).
unfoldable pub send_of : Part → Options → Reply → List ℕ → Said
send_of p o r room =
    if ltb (length room) 32 or not (described p) then nothing_said room
    otherwise said_of (payloads p o r) room
