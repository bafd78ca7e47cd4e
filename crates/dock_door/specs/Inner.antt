-- What stands for the number of a call's answer inside this crate.
use Rattle.std.specs.Prelude.{ℕ, Err, Ok, Result}
use Rattle.part.specs.Refusal.{number}
use Rattle.part.specs.declared.refusal.Refusal.{Refusal}

-- A refusal's number, 0 where there is none.
unfoldable pub call_number : Result Unit Refusal → ℕ
call_number (Err r) = number r
call_number (Ok _) = 0
