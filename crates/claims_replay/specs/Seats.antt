-- "Replay [..] skips seat 1": document 02, section 5. A capture of good records prints what its records of seat 0 alone would print; and a record of seat 1 leaves all
-- as it was.
use Rattle.std.specs.Prelude.{List, [], ◌++◌, ◌∷◌, ◌≡◌, ◌≤◌, ℕ, eqb, length, Ok}
use Rattle.chip_core.specs.Effect.{Memory}
use Rattle.chip_state.specs.declared.Chip.{Chip}
use Rattle.claims_capture.specs.Answers.{AllPass, records_from}
use Rattle.claims_replay.specs.Printed.{printed}
use Rattle.part.specs.declared.Part.{Part}
use Rattle.replay_capture.specs.Capture.{good_record, record_of, seat_of}
use Rattle.replay_capture.specs.declared.Form.{Form}
use Rattle.replay_capture.specs.declared.Form.TheVariants.{New, Old}
use Rattle.chip_reply.specs.Reply.{sent_as}
use Rattle.replay_capture.specs.declared.Record.TheVariants.{OtherSeat}
use Rattle.replay_play.specs.Play.{output_least, play_of, unchanged}
use Rattle.words.specs.Words.{if◌then◌otherwise◌}

-- The records of seat 0, and their bytes end to end.
unfoldable pub seat_zero : Form → List (List ℕ) → List (List ℕ)
seat_zero form [] = []
seat_zero form (r ∷ rs) = if eqb (seat_of form r) 0 then r ∷ seat_zero form rs otherwise seat_zero form rs

unfoldable pub end_to_end : List (List ℕ) → List ℕ
end_to_end [] = []
end_to_end (r ∷ rs) = r ++ end_to_end rs

abbrev pub SkipsSeatOne : Type 0
SkipsSeatOne =
    (form : Form) (capture : List ℕ) → AllPass (good_record form) (records_from form capture)
    → printed form capture ≡ printed form (end_to_end (seat_zero form (records_from form capture)))

-- Whatever chip it comes to: nothing is said, and nothing changes.
abbrev pub OtherSeatStays : Type 0
OtherSeatStays =
    (form : Form) (p : Part) (r : List ℕ) (c : Chip) (m : Memory) (room output : List ℕ) → record_of form r ≡ Ok OtherSeat → output_least form ≤ length output
    → play_of form p r c m room output ≡ unchanged (Ok (sent_as 0 0)) c m room output

-- How much output a record asks for in each form.
abbrev pub LeastOutput : Type 0
LeastOutput = (output_least Old ≡ 192) × (output_least New ≡ 256)
