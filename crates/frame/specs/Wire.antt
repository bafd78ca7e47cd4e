-- Frames written into lent room: document 01, "Frames"; and reply frames judged: "The dock's flow" (what makes a reply frame readable) and document 02, §4.
use Rattle.std.specs.Prelude.{ℕ, ◌+◌, Bool, not, ltb, List, ◌++◌, length, take, drop, ◌==◌, nat_lt, slice_index, Err, Ok, Result}
use Rattle.frame.specs.Frame.{counted, framed, header_byte, overhead}
use Rattle.frame.specs.Judgement.{judge_of}
use Rattle.frame.specs.declared.Footer.{Footer}
use Rattle.frame.specs.declared.Footer.TheVariants.{Last}
use Rattle.frame.specs.declared.Header.{Header}
use Rattle.frame.specs.declared.Header.TheVariants.{Data}
use Rattle.frame.specs.declared.judgement.Judgement.{Judgement}
use Rattle.frame.specs.declared.judgement.Judgement.TheVariants.{UnfitLength, WrongFirst}
use Rattle.frame.specs.declared.wire.WriteError.TheVariants.{NoRoom, UnfitPayload}
use Rattle.frame.specs.declared.wire.WriteError.{WriteError}
use Rattle.words.specs.Words.{◌and◌, ◌from◌to◌, ◌or◌, if◌then◌otherwise◌}

-- What writing leaves: its answer, and the whole room.
pub record Writing : Type 0 where
  pub answer : Result ℕ WriteError
  pub room : List ℕ

abbrev pub wrote : Result ℕ WriteError → List ℕ → Writing
wrote a r = record { answer = a; room = r }

-- The frame lies at the start of the room, and the room past it stays.
unfoldable pub laid : List ℕ → Header → List ℕ → Footer → List ℕ
laid room h ds f = framed h ds f ++ drop (length ds + overhead) room

-- A payload is 1 to 256 bytes.
unfoldable pub write_of : List ℕ → Header → List ℕ → Footer → Writing
write_of room h ds f =
    if not (length ds from 1 to 256) then wrote (Err UnfitPayload) room
    otherwise if nat_lt (length room) (length ds + overhead) then wrote (Err NoRoom) room
    otherwise wrote (Ok (length ds + overhead)) (laid room h ds f)

-- "a frame cut short, overlong or without LEN is an unfit LEN" (document 02, §4), at the front of these bytes: its LEN is not that of the n bytes that are
-- expected of it, or it has not come whole, or, of the last frame of an answer, something follows. Where LEN has not come the frame is not whole.
unfoldable pub unfit_reply : ℕ → Bool → List ℕ → Bool
unfit_reply n last bs = not (counted (slice_index bs 1) == n) or ltb (length bs) (n + overhead) or last and ltb (n + overhead) (length bs)

-- A reply frame, judged: "a missing or wrong first byte is a fourth fault at place 0, judged first; .. an unfit LEN, judged second"; then as any frame, whose
-- footer is 03h.
unfoldable pub judge_reply : ℕ → Bool → List ℕ → Judgement
judge_reply n last bs =
    if not (slice_index bs 0 == header_byte Data) then WrongFirst
    otherwise if unfit_reply n last bs then UnfitLength
    otherwise judge_of Last (take (n + overhead) bs)
