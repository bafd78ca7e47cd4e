-- A capture converted in pieces, as the program reads it: document 02, section 5. Every piece but the last is whole records. What is found in the pieces is what is
-- found in the whole, with its number there, and what is written of them, one after the other, is what is written of the whole.
use Rattle.std.specs.Prelude.{List, ◌++◌, ◌≡◌, ◌%◌, ◌+◌, ℕ, length, None, Option, Some}
use Rattle.claims_capture.specs.Answers.{records_from}
use Rattle.conversion.specs.Conversion.{first_not, rewritten_all}
use Rattle.conversion.specs.declared.Asked.{Asked}
use Rattle.replay_capture.specs.Capture.{record_size}
use Rattle.replay_capture.specs.declared.Form.{Form}

-- What is found in one piece, else, by its number behind the records of that one, in the next.
unfoldable pub else_after : ℕ → Option ℕ → Option ℕ → Option ℕ
else_after n (Some k) f = Some k
else_after n None None = None
else_after n None (Some k) = Some (n + k)

abbrev pub JudgedInPieces : Type 0
JudgedInPieces =
    (from : Form) (asked : Asked) (a b : List ℕ) → length a % record_size from ≡ 0
    → first_not from asked (records_from from (a ++ b))
    ≡ else_after (length (records_from from a)) (first_not from asked (records_from from a)) (first_not from asked (records_from from b))

abbrev pub WrittenInPieces : Type 0
WrittenInPieces =
    (from : Form) (a b : List ℕ) → length a % record_size from ≡ 0
    → rewritten_all from (records_from from (a ++ b)) ≡ rewritten_all from (records_from from a) ++ rewritten_all from (records_from from b)
