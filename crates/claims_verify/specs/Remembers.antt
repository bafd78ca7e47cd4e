-- What is remembered of a difference, and who looks at it: document 02, §2, "The awaited-data record must remember whether a difference has occurred."
use Rattle.std.specs.Prelude.{Bool, false, true, List, ◌≢◌, ◌≡◌}
use Rattle.chip.specs.Run.{answers, onward, run}
use Rattle.chip.specs.Step.{Outcome}
use Rattle.chip.specs.declared.Event.{Event}
use Rattle.chip_core.specs.Effect.{entered}
use Rattle.chip_core.specs.declared.Awaited.{Awaited}
use Rattle.chip_core.specs.declared.Phase.{Phase}
use Rattle.chip_core.specs.declared.Phase.TheVariants.{Awaiting, ModeByte, Ready, Setup}
use Rattle.claims_good.specs.Good.{AllProper, Stands, verdict_in}
use Rattle.claims_verify.specs.Compared.{PageCompared}
use Rattle.part.specs.declared.Part.{Part}

-- After any event that leaves data awaited: a command begins without a difference; one that is remembered stays, whatever page, gap or noise comes within the
-- command; and one arises exactly where the event completes a good page of 13h that is not what flash holds there.
pub record Remembered (p : Part) (o : Outcome) (v : Event) (u : Awaited) : Type 0 where
  pub begins : ((w : Awaited) → o.chip.core.phase ≢ Awaiting w) → u.differed ≡ false
  pub stays : (w : Awaited) → o.chip.core.phase ≡ Awaiting w → w.differed ≡ true → u.differed ≡ true
  pub arises : (w : Awaited) → o.chip.core.phase ≡ Awaiting w → w.differed ≡ false → u.differed ≡ true → PageCompared p o v w false
  pub notes : (w : Awaited) → PageCompared p o v w false → u.differed ≡ true

abbrev pub Remembers : Type 0
Remembers = (p : Part) (o : Outcome) (v : Event) (u : Awaited) → Stands p o → (onward p o v).chip.core.phase ≡ Awaiting u → Remembered p o v u

-- A state with this remembered, where data is awaited; where none is, there is nothing to remember it.
unfoldable pub remembering : Bool → Phase → Phase
remembering d ModeByte = ModeByte
remembering d Setup = Setup
remembering d Ready = Ready
remembering d (Awaiting w) = Awaiting (record { command = w.command; next = w.next; last = w.last; differed = d })

unfoldable pub with_difference : Bool → Outcome → Outcome
with_difference d o =
    record {
      answer = o.answer;
      fault = o.fault;
      chip = record { core = entered o.chip.core (remembering d o.chip.core.phase); collector = o.chip.collector };
      memory = o.memory;
      room = o.room;
    }

-- It is no case of refusal 9, whatever command awaits its data.
abbrev pub NoNewRefusal : Type 0
NoNewRefusal = (p : Part) (d : Bool) (o : Outcome) → verdict_in p (with_difference d o) ≡ verdict_in p o

-- Where another command than 13h awaits its data, nobody looks at it: over any events the answers and the rooms are the same, byte for byte, and all that is left
-- differs at most in it again; and not even in it, where a 13h that came later awaits its pages.
pub record NotLookedAt (p : Part) (d : Bool) (o : Outcome) (vs : List Event) : Type 0 where
  pub says : answers p vs (with_difference d o) ≡ answers p vs o
  pub remembered : Bool
  pub leaves : run p vs (with_difference d o) ≡ with_difference remembered (run p vs o)
  pub later : (u : Awaited) → (run p vs o).chip.core.phase ≡ Awaiting u → u.command ≡ 0x13 → remembered ≡ u.differed

abbrev pub NeverLookedAt : Type 0
NeverLookedAt =
    (p : Part) (d : Bool) (o : Outcome) (w : Awaited) (vs : List Event) → Stands p o → AllProper vs → o.chip.core.phase ≡ Awaiting w → w.command ≢ 0x13
    → NotLookedAt p d o vs
