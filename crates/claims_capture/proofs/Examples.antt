-- Every row of the two tables comes out as it stands there: by computation on the definitions.
-- Assumes nothing.
use mathlib.Core.List.{map}
use mathlib.Core.Path.{◌≡◌, refl}
use Rattle.claims_capture.specs.Examples.{ConvertExample, RecordExample, convert_table, record_table}
use Rattle.conversion.specs.Conversion.{bytes_written, convert_by, convert_of, first_not, held_by_old, refusal_number, one_later, passes, record_named, rewritten, rewritten_all, written_into}
use Rattle.conversion_door.specs.Calls.{converted_through}
use Rattle.lent.specs.Lent.{all_are}
use Rattle.numbers.specs.Numbers.{number_at}
use Rattle.replay_capture.specs.Capture.{good_count, good_record, record_of, records_in, records_of, seat_of, spare_of, tick_of, unused}
use Rattle.words.specs.Words.{◌and◌, ◌from◌to◌, if◌then◌otherwise◌}

pub records : map (λ (x : RecordExample). record_of x.form x.bytes) record_table ≡ map (λ (x : RecordExample). x.is) record_table
unfolding record_table record_of good_record good_count seat_of spare_of unused all_are ◌and◌ ◌from◌to◌ if◌then◌otherwise◌
records = refl

pub conversions : map (λ (x : ConvertExample). converted_through x.from x.capture x.output) convert_table ≡ map (λ (x : ConvertExample). x.through) convert_table
unfolding convert_table converted_through convert_of convert_by written_into first_not one_later passes held_by_old rewritten rewritten_all refusal_number record_named bytes_written
    records_of records_in good_record good_count seat_of spare_of tick_of unused all_are number_at ◌and◌ ◌from◌to◌ if◌then◌otherwise◌
conversions = refl
