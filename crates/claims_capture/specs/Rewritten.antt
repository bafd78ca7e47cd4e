-- What a record is in the other form: document 02, section 5, "Convert old to new (seat 0, tick 0, one record for one), and new to old where the seat is 0, the tick 0
-- and the count at most 6". Over the form that it comes from.
use Rattle.std.specs.Prelude.{true, List, ◌≡◌, ℕ, length}
use Rattle.conversion.specs.Conversion.{held_by_old, other, rewritten}
use Rattle.replay_capture.specs.Capture.{carried_bytes, count, good_record, kind, record_of, record_size, seat_of, tick_of}
use Rattle.replay_capture.specs.declared.Form.{Form}
use Rattle.replay_capture.specs.declared.Form.TheVariants.{Old}

-- s is in the other form what r is in its own: a good record of that form, which the old form can hold, with the same kind, count and bytes, of seat 0 and tick 0; to
-- a replay it is the same; and rewritten back it is r.
pub record SameRecord (from : Form) (r s : List ℕ) : Type 0 where
  pub long : length s ≡ record_size (other from)
  pub good : good_record (other from) s ≡ true
  pub held : held_by_old (other from) s ≡ true
  pub same_kind : kind s ≡ kind r
  pub same_count : count s ≡ count r
  pub seat : seat_of (other from) s ≡ 0
  pub tick : tick_of (other from) s ≡ 0
  pub carried : carried_bytes (other from) (count s) s ≡ carried_bytes from (count r) r
  pub played : record_of (other from) s ≡ record_of from r
  pub back : rewritten (other from) s ≡ r

abbrev pub RewrittenIsSame : Type 0
RewrittenIsSame = (from : Form) (r : List ℕ) → good_record from r ≡ true → held_by_old from r ≡ true → SameRecord from r (rewritten from r)

-- Every good old record is one that the old form can hold.
abbrev pub OldIsHeld : Type 0
OldIsHeld = (r : List ℕ) → good_record Old r ≡ true → held_by_old Old r ≡ true
