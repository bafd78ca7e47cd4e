-- Document 02, §2, "Verify tells us too early": 13h's rule before it, as it was; the inputs on which the two rules differ, with what is said there under each;
-- and that on all other inputs every byte is as under the rule before.
use Rattle.std.specs.Prelude.{false, not, true, List, [], ◌∷◌, ◌≡◌, ◌+◌, ℕ, Option}
use Rattle.chip.specs.Run.{answers, onward, run, spoken_in}
use Rattle.chip.specs.Step.{Outcome}
use Rattle.chip.specs.declared.Event.{Event}
use Rattle.chip_core.specs.Effect.{Flash, acknowledge, entered, verify_error}
use Rattle.chip_core.specs.declared.Awaited.{Awaited}
use Rattle.chip_core.specs.declared.Core.{Core}
use Rattle.chip_core.specs.declared.Done.{Done}
use Rattle.chip_core.specs.declared.Phase.{Phase}
use Rattle.chip_core.specs.declared.Phase.TheVariants.{Awaiting, Ready}
use Rattle.chip_pages.specs.Pages.{is_last_page, next_page, page_in, pair, ready}
use Rattle.claims_before.specs.Rules.{Rules, answers_under, onward_under, rules_now, run_under}
use Rattle.claims_fed.specs.Fed.{says_frame}
use Rattle.claims_good.specs.Good.{Stands, uttered}
use Rattle.claims_runs.specs.Options.{Never}
use Rattle.claims_verify.specs.Compared.{PageCompared}
use Rattle.lent.specs.Lent.{same}
use Rattle.part.specs.Part.{page_size}
use Rattle.part.specs.declared.Part.{Part}
use Rattle.part.specs.declared.Place.{Place}
use Rattle.words.specs.Words.{if◌then◌otherwise◌}

-- Document 01: "For 13h the second is 06h if equal, else 0Fh and the command is over (ours)." Nothing is remembered here: what w remembers passes through.
unfoldable pub verify_page_before : Core → Awaited → Option Place → List ℕ → Flash → Done
verify_page_before k w at ds m =
    if not (same (page_in at m) ds) then pair acknowledge verify_error (ready k)
    otherwise pair acknowledge acknowledge (next_page w k)

-- The rules of the chip before §2, which replaced 13h's alone.
abbrev pub rules_before_verify : Rules
rules_before_verify =
    record {
      erases = rules_now.erases;
      sums = rules_now.sums;
      stores = rules_now.stores;
      compares = verify_page_before;
      to_bad_frame = rules_now.to_bad_frame;
      to_bad_page = rules_now.to_bad_page;
    }

-- Where the two differ: a page that differs and is not the last, whose difference was told too early; and a last page that is equal after one that was not, to which
-- the difference is told now.
pub data TellsOtherwise (p : Part) (o : Outcome) (v : Event) : Type 0 where
  early : (w : Awaited) → PageCompared p o v w false → is_last_page w ≡ false → TellsOtherwise p o v
  late : (w : Awaited) → PageCompared p o v w true → is_last_page w ≡ true → w.differed ≡ true → TellsOtherwise p o v

-- One event, whatever the part, the chip, what is lent and the event are, refused calls too: the whole outcome.
abbrev pub AsBeforeVerify : Type 0
AsBeforeVerify = (p : Part) (o : Outcome) (v : Event) → (TellsOtherwise p o v → ⊥) → onward p o v ≡ onward_under rules_before_verify p o v

-- Any list of events: the answer to each with the room after it, and what the last one leaves.
pub record RunsAsUnder (rules : Rules) (p : Part) (vs : List Event) (o : Outcome) : Type 0 where
  pub says : answers p vs o ≡ answers_under rules p vs o
  pub after : run p vs o ≡ run_under rules p vs o

abbrev pub RunAsBeforeVerify : Type 0
RunAsBeforeVerify = (p : Part) (vs : List Event) (o : Outcome) → Never (TellsOtherwise p) p o vs → RunsAsUnder rules_before_verify p vs o

-- From o to u the page was answered 06h and this second status, and the phase is this one; all else of the record stays, and all that is lent beside the room.
pub record SaysSecond (o u : Outcome) (second : ℕ) (next : Phase) : Type 0 where
  pub says : uttered (spoken_in u) ≡ says_frame (0x06 ∷ second ∷ [])
  pub core : u.chip.core ≡ entered o.chip.core next
  pub memory : u.memory ≡ o.memory

-- The same page now and under the rule before.
pub record SaysOtherwise (p : Part) (o : Outcome) (v : Event) (second : ℕ) (next : Phase) (second_before : ℕ) (next_before : Phase) : Type 0 where
  pub now : SaysSecond o (onward p o v) second next
  pub was : SaysSecond o (onward_under rules_before_verify p o v) second_before next_before

-- "every earlier good page gets 06h in its second status", and the record "must remember whether a difference has occurred". Before, 0Fh, and the command was over.
abbrev pub TellsEarly : Type 0
TellsEarly =
    (p : Part) (o : Outcome) (v : Event) (w : Awaited) → Stands p o → PageCompared p o v w false → is_last_page w ≡ false
    → SaysOtherwise p o v 0x06 (Awaiting (record { command = 0x13; next = w.next + page_size; last = w.last; differed = true })) 0x0F Ready

-- "the last one gets 0Fh if any page differed". Before, 06h: the page itself is equal.
abbrev pub TellsLate : Type 0
TellsLate =
    (p : Part) (o : Outcome) (v : Event) (w : Awaited) → Stands p o → PageCompared p o v w true → is_last_page w ≡ true → w.differed ≡ true
    → SaysOtherwise p o v 0x0F Ready 0x06 Ready
