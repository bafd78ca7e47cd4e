-- What the calls that convert a capture do and tell: document 02, section 5.
use Rattle.std.specs.Prelude.{List, [], ◌∷◌, ℕ}
use Rattle.conversion.specs.Conversion.{bytes_written, convert_of, refusal_number, record_named}
use Rattle.replay_capture.specs.declared.Form.{Form}

-- The refusal's number; told are how many bytes were written, and the number of the record that a refusal names; and all of the output.
pub record ConvertTold : Type 0 where
  pub answer : ℕ
  pub told : List ℕ
  pub output : List ℕ

abbrev pub convert_told : ℕ → List ℕ → List ℕ → ConvertTold
convert_told n told output = record { answer = n; told = told; output = output }

unfoldable pub converted_through : Form → List ℕ → List ℕ → ConvertTold
converted_through from capture output =
    let x = convert_of from capture output in
    convert_told (refusal_number x.converted) (bytes_written x.converted ∷ record_named x.converted ∷ []) x.output
