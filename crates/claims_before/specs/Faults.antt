-- "Wire bytes and the order of judging stay the same." (document 02, §4): the chip beside the chip that told no fault, which answered a bad frame by its status and
-- nothing else.
use Rattle.std.specs.Prelude.{List, map, ◌≡◌}
use Rattle.chip.specs.Run.{Spoken, answers, onward, run}
use Rattle.chip.specs.Step.{Outcome}
use Rattle.chip.specs.declared.Event.{Event}
use Rattle.chip_reply.specs.declared.Reply.TheVariants.{Pair, Status}
use Rattle.claims_before.specs.Rules.{Rules, answers_under, onward_under, rules_now, run_under}
use Rattle.frame.specs.Judgement.{status_of}
use Rattle.frame.specs.declared.judgement.Judgement.TheVariants.{Good}
use Rattle.part.specs.declared.Part.{Part}

-- Document 01: "A status reply is a data frame with one byte."; "A bad page puts its status in both". The rules before §4, which replaced these two alone.
abbrev pub rules_before_faults : Rules
rules_before_faults =
    record {
      erases = rules_now.erases;
      sums = rules_now.sums;
      stores = rules_now.stores;
      compares = rules_now.compares;
      to_bad_frame = λ j. Status (status_of j);
      to_bad_page = λ j. Pair (status_of j) (status_of j);
    }

-- Two outcomes that differ at most in the fault told.
pub record SameButFault (o u : Outcome) : Type 0 where
  pub answer : o.answer ≡ u.answer
  pub chip : o.chip ≡ u.chip
  pub memory : o.memory ≡ u.memory
  pub room : o.room ≡ u.room

-- One event, whatever the part, the chip, what is lent and the event are, refused calls too.
abbrev pub WireAsBefore : Type 0
WireAsBefore = (p : Part) (o : Outcome) (v : Event) → SameButFault (onward p o v) (onward_under rules_before_faults p o v)

-- Under the rules before, none was ever told.
abbrev pub NoneToldBefore : Type 0
NoneToldBefore = (p : Part) (o : Outcome) (v : Event) → (onward_under rules_before_faults p o v).fault ≡ Good

-- Any list of events: the answer to each with the room after it, all but its fault, and what the last one leaves.
abbrev pub fault_less : Spoken → Spoken
fault_less s = record { answer = s.answer; fault = Good; room = s.room }

pub record RunsOnTheWire (p : Part) (vs : List Event) (o : Outcome) : Type 0 where
  pub says : map fault_less (answers p vs o) ≡ answers_under rules_before_faults p vs o
  pub after : SameButFault (run p vs o) (run_under rules_before_faults p vs o)

abbrev pub RunWireAsBefore : Type 0
RunWireAsBefore = (p : Part) (vs : List Event) (o : Outcome) → RunsOnTheWire p vs o
