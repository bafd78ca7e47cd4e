-- A capture replayed in the other form: document 02, section 5. What was converted prints the same lines as what it was converted from, either way.
use Rattle.std.specs.Prelude.{List, ◌≡◌, ℕ, take, Ok}
use Rattle.claims_replay.specs.Printed.{printed}
use Rattle.conversion.specs.Conversion.{convert_of, other}
use Rattle.replay_capture.specs.declared.Form.{Form}

abbrev pub SameLines : Type 0
SameLines =
    (from : Form) (capture output : List ℕ) (n : ℕ) → (convert_of from capture output).converted ≡ Ok n
    → printed (other from) (take n (convert_of from capture output).output) ≡ printed from capture
