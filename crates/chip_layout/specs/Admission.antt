-- What bars a call on a state that crossed as bytes, before the chip is asked, and before the first of several events: document 01, "Refusal numbers".
use Rattle.std.specs.Prelude.{not, List, [], ◌∷◌, ℕ, eqb, Err, Ok, Result}
use Rattle.chip_state.specs.Refusals.{verdict_on}
use Rattle.chip_layout.specs.Layout.{chip_in, is_state}
use Rattle.part.specs.Part.{described, size}
use Rattle.part.specs.Refusal.{◌when◌, first_of, number}
use Rattle.part.specs.declared.Area.TheVariants.{CodeFlash, DataFlash}
use Rattle.part.specs.declared.Part.{Part}
use Rattle.part.specs.declared.refusal.Refusal.TheVariants.{BadPart, BadState, CodeLength, DataLength}
use Rattle.part.specs.declared.refusal.Refusal.{Refusal}

-- "Order for the chip: 1, 2, 3, 9, 4": what bars a call before the chip is asked. Bytes that are no state are 9.
unfoldable pub chip_admission : Part → List ℕ → ℕ → ℕ → Result Unit Refusal
chip_admission p state code «data» =
    first_of
    (BadPart when not (described p)
    ∷ CodeLength when not (eqb code (size p CodeFlash))
    ∷ DataLength when not (eqb «data» (size p DataFlash))
    ∷ BadState when not (is_state state)
    ∷ [])

-- Then the chip's own verdict, before the first event of a call, so that the order holds whatever follows, and for no event at all.
unfoldable pub chip_acceptance_by : Result Unit Refusal → Part → List ℕ → ℕ → ℕ → ℕ → Result Unit Refusal
chip_acceptance_by (Err r) p state code «data» room = Err r
chip_acceptance_by (Ok _) p state code «data» room = verdict_on p (chip_in state) code «data» room

unfoldable pub chip_acceptance : Part → List ℕ → ℕ → ℕ → ℕ → Result Unit Refusal
chip_acceptance p state code «data» room = chip_acceptance_by (chip_admission p state code «data») p state code «data» room

-- A verdict as the number that the call answers: 0 where it is not refused.
unfoldable pub acceptance_number : Result Unit Refusal → ℕ
acceptance_number (Err r) = number r
acceptance_number (Ok _) = 0
