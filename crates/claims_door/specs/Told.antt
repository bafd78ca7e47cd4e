-- In which order the numbers of an event and of a stretch are told, as include/door.h has it: the reply's bytes and frames, and the fault of the frame that was
-- completed with its place (document 02, §4); of a stretch how many bytes were taken before them.
use Rattle.std.specs.Prelude.{List, [], ◌∷◌, ◌≡◌, ℕ, Ok}
use Rattle.chip.specs.Run.{before}
use Rattle.chip.specs.Step.{Outcome}
use Rattle.chip_reply.specs.Reply.{sent_as}
use Rattle.chip_core.specs.Effect.{Memory}
use Rattle.chip_door.specs.Calls.{answered_by, bytes_told, fed_by, frames_told}
use Rattle.chip_feed.specs.Feed.{Feeding, feed_of}
use Rattle.chip_layout.specs.Layout.{chip_in}
use Rattle.frame.specs.Judgement.{fault_of}
use Rattle.part.specs.declared.Part.{Part}

abbrev pub EventTold : Type 0
EventTold =
    (o : Outcome) (bytes frames : ℕ) (told state : List ℕ)
    → (answered_by (Ok (sent_as bytes frames)) o told state).told ≡ bytes ∷ frames ∷ (fault_of o.fault).number ∷ (fault_of o.fault).place ∷ []

abbrev pub numbers_of : Feeding → List ℕ
numbers_of f =
    f.taken
    ∷ bytes_told f.left.answer
    ∷ frames_told f.left.answer
    ∷ (fault_of f.left.fault).number
    ∷ (fault_of f.left.fault).place
    ∷ []

abbrev pub StretchTold : Type 0
StretchTold =
    (p : Part) (bs told state : List ℕ) (m : Memory) (room : List ℕ)
    → (fed_by (Ok tt) p bs told state m room).told ≡ numbers_of (feed_of p bs (before (chip_in state) m room))
