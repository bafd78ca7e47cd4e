-- "Either round trip gives the same bytes if no leg is refused": document 02, section 5. Over the form that it begins with.
use Rattle.std.specs.Prelude.{List, ◌++◌, ◌≡◌, ◌≤◌, ℕ, drop, length, take, Ok}
use Rattle.conversion.specs.Conversion.{Converting, convert_of, converting, other}
use Rattle.replay_capture.specs.declared.Form.{Form}

-- The way back, from what a conversion into an output wrote there.
abbrev pub back : Form → List ℕ → List ℕ → ℕ → List ℕ → Converting
back from capture output n output₂ = convert_of (other from) (take n (convert_of from capture output).output) output₂

abbrev pub RoundTrip : Type 0
RoundTrip =
    (from : Form) (capture output output₂ : List ℕ) (n m : ℕ) → (convert_of from capture output).converted ≡ Ok n
    → (back from capture output n output₂).converted ≡ Ok m → take m (back from capture output n output₂).output ≡ capture

-- And the way back is refused for want of room only.
abbrev pub BackWithRoom : Type 0
BackWithRoom =
    (from : Form) (capture output output₂ : List ℕ) (n : ℕ) → (convert_of from capture output).converted ≡ Ok n → length capture ≤ length output₂
    → back from capture output n output₂ ≡ converting (Ok (length capture)) (capture ++ drop (length capture) output₂)
