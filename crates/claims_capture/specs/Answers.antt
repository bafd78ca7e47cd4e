-- What a conversion answers and leaves, exactly: document 02, section 5, "Refusals: 10 for a bad record and 11 for one that the old form can't hold, with its number, the
-- first such record in order, 10 before 11; a short tail is bad; then 12 if the output room is too small. The output stays untouched." Over the form.
use Rattle.std.specs.Prelude.{Bool, false, true, List, [], ◌++◌, ◌∷◌, map, ◌≢◌, ◌≡◌, ◌*◌, ◌<◌, ◌≤◌, ℕ, drop, get_or, length, take, Err, Ok}
use Rattle.conversion.specs.Conversion.{Converting, bytes_written, convert_of, converting, held_by_old, refusal_number, other, record_named, rewritten, rewritten_all}
use Rattle.conversion.specs.declared.ConvertError.TheVariants.{BadRecordAt, NoRoom, NotHeldAt}
use Rattle.conversion_door.specs.Calls.{convert_told, converted_through}
use Rattle.replay_capture.specs.Capture.{good_record, record_size, records_of}
use Rattle.replay_capture.specs.declared.Form.{Form}
use Rattle.replay_capture.specs.declared.Form.TheVariants.{Old}

-- Every record passes; record k is the first that does not.
abbrev pub AllPass : (List ℕ → Bool) → List (List ℕ) → Type 0
AllPass passes rs = (i : ℕ) → i < length rs → passes (get_or rs i []) ≡ true

pub record FirstNot (passes : List ℕ → Bool) (rs : List (List ℕ)) (k : ℕ) : Type 0 where
  pub there : k < length rs
  pub fails : passes (get_or rs k []) ≡ false
  pub before : (i : ℕ) → i < k → passes (get_or rs i []) ≡ true

abbrev pub records_from : Form → List ℕ → List (List ℕ)
records_from from capture = records_of (record_size from) capture

-- How many bytes the records of a capture take in the other form.
abbrev pub needed : Form → List ℕ → ℕ
needed from capture = record_size (other from) * length (records_from from capture)

-- The four answers, each with what must hold for it and with the output that it leaves.
pub data Answered (from : Form) (capture output : List ℕ) : Converting → Type 0 where
  bad : (k : ℕ) → FirstNot (good_record from) (records_from from capture) k → Answered from capture output (converting (Err (BadRecordAt k)) output)
  not_held : (k : ℕ) → AllPass (good_record from) (records_from from capture) → FirstNot (held_by_old from) (records_from from capture) k
      → Answered from capture output (converting (Err (NotHeldAt k)) output)
  no_room : AllPass (good_record from) (records_from from capture) → AllPass (held_by_old from) (records_from from capture) → length output < needed from capture
      → Answered from capture output (converting (Err NoRoom) output)
  wrote : AllPass (good_record from) (records_from from capture) → AllPass (held_by_old from) (records_from from capture) → needed from capture ≤ length output
      → Answered from capture output (converting (Ok (needed from capture)) (rewritten_all from (records_from from capture) ++ drop (needed from capture) output))

-- The answer is one of these, and whichever of them holds is the answer: it is decided by the capture and by how long the output is.
abbrev pub AnswerIs : Type 0
AnswerIs = (from : Form) (capture output : List ℕ) → Answered from capture output (convert_of from capture output)

abbrev pub AnswerOnly : Type 0
AnswerOnly = (from : Form) (capture output : List ℕ) (x : Converting) → Answered from capture output x → convert_of from capture output ≡ x

-- "The output stays untouched", whichever refusal it is.
abbrev pub RefusedUntouched : Type 0
RefusedUntouched =
    (from : Form) (capture output : List ℕ) → refusal_number (convert_of from capture output).converted ≢ 0
    → (convert_of from capture output).output ≡ output

-- From the old form 11 is never told.
abbrev pub OldNeverNotHeld : Type 0
OldNeverNotHeld = (capture output : List ℕ) (k : ℕ) → (convert_of Old capture output).converted ≢ (Err (NotHeldAt k))

-- No record, nothing written: in any output, and in none.
abbrev pub EmptyCapture : Type 0
EmptyCapture = (from : Form) (output : List ℕ) → convert_of from [] output ≡ converting (Ok 0) output

-- "a short tail is bad": behind good records, by the number of these.
abbrev pub ShortTail : Type 0
ShortTail =
    (from : Form) (capture tail output : List ℕ) → AllPass (good_record from) (records_from from capture) → 1 ≤ length tail → length tail < record_size from
    → convert_of from (capture ++ tail) output ≡ converting ((Err (BadRecordAt (length (records_from from capture))))) output

-- "one record for one", in order.
abbrev pub OneForOne : Type 0
OneForOne =
    (from : Form) (capture output : List ℕ) (n : ℕ) → (convert_of from capture output).converted ≡ Ok n
    → records_from (other from) (take n (convert_of from capture output).output) ≡ map (rewritten from) (records_from from capture)

-- 10, 11 and 12, and the number of the record that is named; 0 where there is none.
pub record Numbers (n : ℕ) : Type 0 where
  pub bad10 : refusal_number (Err (BadRecordAt n)) ≡ 10
  pub not_held11 : refusal_number (Err (NotHeldAt n)) ≡ 11
  pub no_room12 : refusal_number (Err NoRoom) ≡ 12
  pub wrote0 : refusal_number (Ok n) ≡ 0
  pub bad_named : record_named (Err (BadRecordAt n)) ≡ n
  pub not_held_named : record_named (Err (NotHeldAt n)) ≡ n
  pub none_named : record_named (Err NoRoom) ≡ 0
  pub wrote_named : record_named (Ok n) ≡ 0
  pub bad_bytes : bytes_written (Err (BadRecordAt n)) ≡ 0
  pub not_held_bytes : bytes_written (Err (NotHeldAt n)) ≡ 0
  pub no_room_bytes : bytes_written (Err NoRoom) ≡ 0
  pub wrote_bytes : bytes_written (Ok n) ≡ n

abbrev pub NumbersAre : Type 0
NumbersAre = (n : ℕ) → Numbers n

-- A call for C answers and tells these of the conversion, and leaves its output.
abbrev pub CallTells : Type 0
CallTells =
    (from : Form) (capture output : List ℕ) (x : Converting) → Answered from capture output x
    → converted_through from capture output ≡ convert_told (refusal_number x.converted) (bytes_written x.converted ∷ record_named x.converted ∷ []) x.output
