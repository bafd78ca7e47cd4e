-- Document 02, §6, "Writing over a page that isn't blank": 40h's rule before it, as it was; the inputs on which the two rules differ, with what is said and left there
-- under each; and that on all other inputs every byte is as under the rule before.
use Rattle.std.specs.Prelude.{false, not, true, List, [], ◌∷◌, ◌≢◌, ◌≡◌, ℕ, Option}
use Rattle.chip.specs.Run.{onward, spoken_in}
use Rattle.chip.specs.Step.{Outcome}
use Rattle.chip.specs.declared.Event.{Event}
use Rattle.chip_core.specs.Effect.{Effect, Memory, acknowledge, effect, entered, told, with_flash, write_error}
use Rattle.chip_core.specs.declared.Awaited.{Awaited}
use Rattle.chip_core.specs.declared.Core.{Core}
use Rattle.chip_core.specs.declared.Phase.TheVariants.{Ready}
use Rattle.chip_flash.specs.Flash.{blank, programmed}
use Rattle.chip_pages.specs.Pages.{next_page, page_in, page_stored, page_written, pair, ready, stored_reply}
use Rattle.chip_sums.specs.Sums.{resummed}
use Rattle.claims_before.specs.Rules.{Rules, onward_under, rules_now}
use Rattle.claims_before.specs.Verify.{RunsAsUnder}
use Rattle.claims_fed.specs.Fed.{says_frame}
use Rattle.claims_good.specs.Good.{AllProper, Proper, Stands, Utterance, uttered}
use Rattle.claims_pages.specs.Sent.{PageSent, old_page}
use Rattle.claims_pages.specs.Written.{says_stored}
use Rattle.claims_runs.specs.Options.{Never}
use Rattle.part.specs.Part.{place_of}
use Rattle.part.specs.declared.Part.{Part}
use Rattle.part.specs.declared.Place.{Place}
use Rattle.words.specs.Words.{if◌then◌otherwise◌}

-- Document 01: "For 40h the second is 06h and the page is stored if flash there was all FFh; else 1Ch, nothing stored, command over." A stored page's sum is §1's.
unfoldable pub program_page_blank : Part → Core → Awaited → Option Place → List ℕ → Memory → Effect
program_page_blank p k w at ds m =
    if not (blank (page_in at m.flash)) then effect (pair acknowledge write_error (ready k)) m
    otherwise effect (told (stored_reply w) (next_page w k)) (resummed p at (with_flash m (page_stored at ds m.flash)))

-- The rules of the chip before §6, which replaced 40h's alone.
abbrev pub rules_before_clearing : Rules
rules_before_clearing =
    record {
      erases = rules_now.erases;
      sums = rules_now.sums;
      stores = program_page_blank;
      compares = rules_now.compares;
      to_bad_frame = rules_now.to_bad_frame;
      to_bad_page = rules_now.to_bad_page;
    }

-- Where the two differ: a page over one that is not blank, which was answered 1Ch and is taken now ("resending the same page succeeds"); and one that is answered 1Ch
-- under both, where flash or the kept sum of its block is another now ("the mixed bytes stay").
pub data WritesOtherwise (p : Part) (o : Outcome) (v : Event) : Type 0 where
  taken : (w : Awaited) (ds : List ℕ) → PageSent o v w ds → blank (old_page p w o) ≡ false → programmed (old_page p w o) ds ≡ ds → WritesOtherwise p o v
  mixed : (w : Awaited) (ds : List ℕ) → PageSent o v w ds → blank (old_page p w o) ≡ false → programmed (old_page p w o) ds ≢ ds
      → page_written p (place_of p w.next) ds o.memory ≢ o.memory → WritesOtherwise p o v

-- One event: the whole outcome. What is collected, and the event, have to be bytes: over a blank page FFh AND what is sent is what is sent.
abbrev pub AsBeforeClearing : Type 0
AsBeforeClearing =
    (p : Part) (o : Outcome) (v : Event) → Stands p o → Proper v → (WritesOtherwise p o v → ⊥) → onward p o v ≡ onward_under rules_before_clearing p o v

-- Any list of events.
abbrev pub RunAsBeforeClearing : Type 0
RunAsBeforeClearing =
    (p : Part) (vs : List Event) (o : Outcome) → Stands p o → AllProper vs → Never (WritesOtherwise p) p o vs → RunsAsUnder rules_before_clearing p vs o

-- Over a blank page nothing is new.
abbrev pub BlankAsBefore : Type 0
BlankAsBefore =
    (p : Part) (o : Outcome) (v : Event) (w : Awaited) (ds : List ℕ) → Stands p o → Proper v → PageSent o v w ds → blank (old_page p w o) ≡ true
    → onward p o v ≡ onward_under rules_before_clearing p o v

-- Nor where a page is answered 1Ch that clears no bit, and the kept sum of its block was right: FFh over data.
abbrev pub UnchangedAsBefore : Type 0
UnchangedAsBefore =
    (p : Part) (o : Outcome) (v : Event) (w : Awaited) (ds : List ℕ) → Stands p o → Proper v → PageSent o v w ds → programmed (old_page p w o) ds ≢ ds
    → page_written p (place_of p w.next) ds o.memory ≡ o.memory → onward p o v ≡ onward_under rules_before_clearing p o v

-- What a page leaves: what was said, the record, and flash with the sums.
pub record PageDone (u : Outcome) (says : Utterance) (core : Core) (left : Memory) : Type 0 where
  pub said : uttered (spoken_in u) ≡ says
  pub record_is : u.chip.core ≡ core
  pub memory : u.memory ≡ left

-- The same page now and under the rule before: it was answered 1Ch, nothing was stored, and the command was over.
pub record DoneOtherwise (p : Part) (o : Outcome) (v : Event) (w : Awaited) (ds : List ℕ) (says : Utterance) (core : Core) : Type 0 where
  pub now : PageDone (onward p o v) says core (page_written p (place_of p w.next) ds o.memory)
  pub was : PageDone (onward_under rules_before_clearing p o v) (says_frame (0x06 ∷ 0x1C ∷ [])) (entered o.chip.core Ready) o.memory

-- "The second status is 06h if every byte then equals what was sent".
abbrev pub TakenNow : Type 0
TakenNow =
    (p : Part) (o : Outcome) (v : Event) (w : Awaited) (ds : List ℕ) → Stands p o → PageSent o v w ds → blank (old_page p w o) ≡ false
    → programmed (old_page p w o) ds ≡ ds → DoneOtherwise p o v w ds (says_stored w) (next_page w o.chip.core)

-- "else 1Ch, the mixed bytes stay, and the command ends": said and ended as before.
abbrev pub MixedNow : Type 0
MixedNow =
    (p : Part) (o : Outcome) (v : Event) (w : Awaited) (ds : List ℕ) → Stands p o → PageSent o v w ds → blank (old_page p w o) ≡ false
    → programmed (old_page p w o) ds ≢ ds → DoneOtherwise p o v w ds (says_frame (0x06 ∷ 0x1C ∷ [])) (entered o.chip.core Ready)

-- No input is excepted in vain.
abbrev pub DiffersIndeed : Type 0
DiffersIndeed = (p : Part) (o : Outcome) (v : Event) → Stands p o → WritesOtherwise p o v → onward p o v ≢ onward_under rules_before_clearing p o v
