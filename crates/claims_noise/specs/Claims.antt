-- The statements of demand 3, each proved in proofs/ under its own name. They speak of any chip M, that is, of what a chip does with an event; the one
-- that they are proved of is `step_of`, the definition of demand 2.
use Rattle.std.specs.Prelude.{false, true, List, [], ◌++◌, ◌∷◌, map, ◌≢◌, ◌≡◌, ◌-◌, ◌<◌, ◌≤◌, ℕ, get_or, length, replicate, set, Err}
use Rattle.claims_frame.specs.OneByte.{fault_changed}
use Rattle.claims_fed.specs.Fed.{blames, silence}
use Rattle.chip.specs.Run.{Spoken, spoken_in}
use Rattle.chip.specs.Step.{Outcome}
use Rattle.chip_state.specs.declared.Chip.{Chip}
use Rattle.chip.specs.declared.Event.{Event}
use Rattle.chip.specs.declared.Event.TheVariants.{Byte, Gap, PowerOn}
use Rattle.claims_good.specs.Good.{Alike, AllProper, Stands, Utterance, uttered}
use Rattle.claims_noise.specs.Noise.{Allowed, completes_only, data_completed, no_frame, only, then_awaits, then_gap, then_power_on}
use Rattle.claims_fed.specs.Awaits.{Awaits, AwaitsCommand, AwaitsFrame, awaits_in, event_of, good_for, header_of, judged_in}
use Rattle.chip_core.specs.Effect.{Memory, memory}
use Rattle.chip_pages.specs.Pages.{ready}
use Rattle.chip_core.specs.declared.Awaited.{Awaited}
use Rattle.chip_core.specs.declared.Phase.{Phase}
use Rattle.chip_core.specs.declared.Phase.TheVariants.{Awaiting, ModeByte, Ready, Setup}
use Rattle.frame.proofs.Laws.Sum.{Below}
use Rattle.frame.specs.Collector.{heard}
use Rattle.frame.specs.Frame.{header_byte}
use Rattle.frame.specs.Framing.{Framing, Sound, byte, frames, framing, idle}
use Rattle.frame.specs.declared.judgement.Judgement.{Judgement}
use Rattle.frame.specs.declared.judgement.Judgement.TheVariants.{Good}
use Rattle.part.specs.declared.Part.{Part}
use Rattle.part.specs.declared.refusal.Refusal.TheVariants.{ShortRoom}
use Rattle.words.specs.Words.{if◌then◌otherwise◌}

-- A chip, its runs, and what it says to each event.
abbrev pub Machine : Type 0
Machine = Part → Chip → Event → Memory → List ℕ → Outcome

abbrev pub onward_by : Machine → Part → Outcome → Event → Outcome
onward_by M p o v = M p o.chip v o.memory o.room

unfoldable pub run_by : Machine → Part → List Event → Outcome → Outcome
run_by M p [] o = o
run_by M p (v ∷ vs) o = run_by M p vs (onward_by M p o v)

unfoldable pub says_by : Machine → Part → List Event → Outcome → List Utterance
says_by M p [] o = []
says_by M p (v ∷ vs) o = uttered (spoken_in (onward_by M p o v)) ∷ says_by M p vs (onward_by M p o v)

-- A call: an event, and the room lent for it. A room is lent anew for every event, and it may be a short one.
pub record ChipCall : Type 0 where
  pub event : Event
  pub room : List ℕ

abbrev pub called_by : Machine → Part → Outcome → ChipCall → Outcome
called_by M p o c = M p o.chip c.event o.memory c.room

unfoldable pub calls_by : Machine → Part → List ChipCall → Outcome → Outcome
calls_by M p [] o = o
calls_by M p (c ∷ cs) o = calls_by M p cs (called_by M p o c)

-- The answer to each call, with its room afterwards.
unfoldable pub answers_by : Machine → Part → List ChipCall → Outcome → List Spoken
answers_by M p [] o = []
answers_by M p (c ∷ cs) o = spoken_in (called_by M p o c) ∷ answers_by M p cs (called_by M p o c)

abbrev pub events_in : List ChipCall → List Event
events_in cs = map (λ c. c.event) cs

-- u is as if it were o: flash, the kept sums (right or wrong), options, rate and phase are the same, and nothing more or else is collected; "every later event
-- gets the answer" that o would give, whatever room is lent for each, and every byte of each room is the same; after any later events flash, sums, options, rate
-- and phase are those of o.
pub record AsIf (M : Machine) (p : Part) (o u : Outcome) : Type 0 where
  pub now : Alike o u
  pub answers : (cs : List ChipCall) → AllProper (events_in cs) → answers_by M p cs o ≡ answers_by M p cs u
  pub later : (cs : List ChipCall) → AllProper (events_in cs) → Alike (calls_by M p cs o) (calls_by M p cs u)

-- A room under 32 bytes is refused (4), and changes nothing: such a call may stand anywhere among the later ones.
abbrev pub ShortRefused : Machine → Type 0
ShortRefused M =
    (p : Part) (o : Outcome) (v : Event) (room : List ℕ) → Stands p o → length room < 32
    → M p o.chip v o.memory room ≡ record { answer = Err ShortRoom; fault = Good; chip = o.chip; memory = o.memory; room = room }

-- The runs below go with one room. It has no part in them: any rooms that are accepted, one for each event, are as good as that one.
pub data Roomy : List ChipCall → Type 0 where
  no_call : Roomy []
  and_call : {c : ChipCall} {cs : List ChipCall} → 32 ≤ length c.room → Roomy cs → Roomy (c ∷ cs)

pub record SameRun (M : Machine) (p : Part) (o : Outcome) (cs : List ChipCall) : Type 0 where
  pub said : map (λ s. uttered s) (answers_by M p cs o) ≡ says_by M p (events_in cs) o
  pub left : AsIf M p (run_by M p (events_in cs) o) (calls_by M p cs o)

abbrev pub AnyRooms : Machine → Type 0
AnyRooms M = (p : Part) (o : Outcome) (cs : List ChipCall) → Stands p o → AllProper (events_in cs) → Roomy cs → SameRun M p o cs

-- "Take a chip that awaits a command (`AwaitsCommand`), with nothing collected. Let it hear any bytes and gaps in which the framing rule of demand 2 completes
-- no good frame": g is the one good frame allowed, or none.
pub record Noise (g : Allowed) (p : Part) (o : Outcome) (vs : List Sound) : Type 0 where
  pub stands : Stands p o
  pub nothing : o.chip.collector.len ≡ 0
  pub bytes : AllProper (map event_of vs)
  pub quiet : completes_only g (awaits_in o.chip.core.phase) idle vs ≡ true

-- ", then a gap. Flash, options, rate and phase are as before, and every later event gets the answer that a chip without the noise would give."
abbrev pub NoiseAtCommand : Machine → Type 0
NoiseAtCommand M =
    (p : Part) (o : Outcome) (vs : List Sound) → AwaitsCommand o.chip.core.phase → Noise no_frame p o vs → AsIf M p o (run_by M p (then_gap vs) o)

-- "the command is over, and the chip awaits a command": flash (pages stored earlier included), sums, options and rate are as before.
unfoldable pub command_over : Outcome → Outcome
command_over o =
    record {
      answer = o.answer;
      fault = o.fault;
      chip = record { core = ready o.chip.core; collector = o.chip.collector };
      memory = memory o.memory.flash.code_flash o.memory.flash.data_flash o.memory.sums;
      room = o.room;
    }

-- "If it awaited a data frame instead, either the same holds, or a bad frame was completed": the second exactly when a data frame was completed.
unfoldable pub left_by : List Sound → Outcome → Outcome
left_by vs o = if data_completed vs then command_over o otherwise o

abbrev pub NoiseAtData : Machine → Type 0
NoiseAtData M =
    (p : Part) (o : Outcome) (w : Awaited) (vs : List Sound) → o.chip.core.phase ≡ Awaiting w → Noise no_frame p o vs
    → AsIf M p (left_by vs o) (run_by M p (then_gap vs) o)

-- What noise leaves before a gap, but for what is collected: as before, or, where data was awaited and a data frame was completed, the command over.
abbrev pub left_at : Phase → List Sound → Outcome → Outcome
left_at ModeByte vs o = o
left_at Setup vs o = o
left_at Ready vs o = o
left_at (Awaiting w) vs o = left_by vs o

-- Demand 3 takes a chip with nothing collected. Where something is, the rule has heard that too: what is collected, and then the noise, complete no good frame.
abbrev pub with_collected : Outcome → List Sound → List Sound
with_collected o vs = map byte (heard o.chip.collector) ++ vs

pub record NoiseAfter (p : Part) (o : Outcome) (vs : List Sound) : Type 0 where
  pub stands : Stands p o
  pub bytes : AllProper (map event_of vs)
  pub quiet : completes_only no_frame (awaits_in o.chip.core.phase) idle (with_collected o vs) ≡ true

-- Then a gap leaves the chip as if it had heard only the gap; or, where it awaited a data frame and one was completed, the command is over.
abbrev pub GapEndsNoise : Machine → Type 0
GapEndsNoise M =
    (p : Part) (o : Outcome) (vs : List Sound) → AwaitsFrame o.chip.core.phase → NoiseAfter p o vs
    → AsIf M p (left_at o.chip.core.phase (with_collected o vs) (onward_by M p o Gap)) (run_by M p (then_gap vs) o)

-- And power-on leaves it as if it had heard only the power-on: "returns to the first phase", the command over or not.
abbrev pub PowerOnEndsNoise : Machine → Type 0
PowerOnEndsNoise M =
    (p : Part) (o : Outcome) (vs : List Sound) → AwaitsFrame o.chip.core.phase → NoiseAfter p o vs
    → AsIf M p (onward_by M p o PowerOn) (run_by M p (then_power_on vs) o)

-- The branch is an if-and-only-if, whether something was collected or not: the chip still awaits data exactly when no data frame was completed, else it is ready.
pub record Branch (M : Machine) (p : Part) (o : Outcome) (w : Awaited) (vs : List Sound) : Type 0 where
  pub stays : data_completed (with_collected o vs) ≡ false → (run_by M p (then_gap vs) o).chip.core.phase ≡ Awaiting w
  pub ends : data_completed (with_collected o vs) ≡ true → (run_by M p (then_gap vs) o).chip.core.phase ≡ Ready
  pub stayed : (run_by M p (then_gap vs) o).chip.core.phase ≡ Awaiting w → data_completed (with_collected o vs) ≡ false
  pub ended : (run_by M p (then_gap vs) o).chip.core.phase ≡ Ready → data_completed (with_collected o vs) ≡ true

abbrev pub NoiseBranches : Machine → Type 0
NoiseBranches M =
    (p : Part) (o : Outcome) (w : Awaited) (vs : List Sound) → o.chip.core.phase ≡ Awaiting w → NoiseAfter p o vs → Branch M p o w vs

-- "A good frame with exactly one byte after its length byte changed": f is good where it is awaited, and its byte i becomes v.
pub record OneByte (p : Part) (o : Outcome) (f : List ℕ) (i v : ℕ) : Type 0 where
  pub stands : Stands p o
  pub nothing : o.chip.collector.len ≡ 0
  pub header : get_or f 0 0 ≡ header_byte (header_of (awaits_in o.chip.core.phase))
  pub good : good_for (awaits_in o.chip.core.phase) f ≡ true
  pub bytes : Below 256 f
  pub after : 2 ≤ i
  pub inside : i < length f
  pub small : v < 256
  pub changed : get_or f i 0 ≢ v

-- What is awaited after it: a command.
abbrev pub after_bad : Phase → Outcome → Outcome
after_bad ModeByte o = o
after_bad Setup o = o
after_bad Ready o = o
after_bad (Awaiting w) o = command_over o

-- ".. is not good in the state that awaited it": it is one complete frame, it is judged so there and is not good, it is blamed for that, and nothing else happens
-- but that a command with data is over.
pub record IsBad (M : Machine) (p : Part) (o : Outcome) (f : List ℕ) (j : Judgement) : Type 0 where
  pub alone : frames (header_of (awaits_in o.chip.core.phase)) idle (map byte f) ≡ f ∷ []
  pub judged : judged_in (awaits_in o.chip.core.phase) f ≡ j
  pub bad : good_for (awaits_in o.chip.core.phase) f ≡ false
  pub answers : says_by M p (map Byte f) o ≡ replicate (length f - 1) silence ++ blames o.chip.core.phase j ∷ []
  pub leaves : AsIf M p (after_bad o.chip.core.phase o) (run_by M p (map Byte f) o)

-- Its fault is the footer's where that is the byte changed, else SUM's (`fault_changed`, claims_frame; document 02, §4).
abbrev pub OneByteChanged : Machine → Type 0
OneByteChanged M =
    (p : Part) (o : Outcome) (f : List ℕ) (i v : ℕ) → AwaitsFrame o.chip.core.phase → OneByte p o f i v → IsBad M p o (set f i v) (fault_changed f i)

-- With one frame allowed, for a claim about a whole cable: where the rule stands after some sounds, and what the premise then says.
pub record Line : Type 0 where
  pub awaits : Awaits
  pub stands : Framing

unfoldable pub line_after : Awaits → Framing → List Sound → Line
line_after a w [] = record { awaits = a; stands = w }
line_after a w (v ∷ vs) = line_after (then_awaits a (framing (header_of a) w v).done) (framing (header_of a) w v).stands vs

-- Either no good frame was completed, or the last sound completed the one allowed, good where it was awaited, and before it there was only noise.
pub data OnlyThis (f : List ℕ) (a : Awaits) (w : Framing) (vs : List Sound) : Type 0 where
  none_good : completes_only no_frame a w vs ≡ true → OnlyThis f a w vs
  last_good : (us : List Sound) (v : Sound) → vs ≡ us ++ v ∷ [] → completes_only no_frame a w us ≡ true
      → (framing (header_of (line_after a w us).awaits) (line_after a w us).stands v).done ≡ f ∷ [] → good_for (line_after a w us).awaits f ≡ true → OnlyThis f a w vs

abbrev pub AllowedOrNone : Type 0
AllowedOrNone = (f : List ℕ) (a : Awaits) (w : Framing) (vs : List Sound) → completes_only (only f) a w vs ≡ true → OnlyThis f a w vs

-- A line on which at most the frame f came: only noise came, or noise and then f. In the second case all is as if f had come alone, byte by byte, to the chip
-- that the noise before it leaves, and the same is said to its last byte.
pub data Carried (M : Machine) (p : Part) (o : Outcome) (f : List ℕ) (vs : List Sound) : Type 0 where
  noise_only : Noise no_frame p o vs → Carried M p o f vs
  frame_came : (us : List Sound) (v : Sound) → vs ≡ us ++ v ∷ [] → Noise no_frame p o us
      → AsIf M p (run_by M p (map Byte f) (left_at o.chip.core.phase us o)) (run_by M p (map event_of vs) o)
      → uttered (spoken_in (run_by M p (map Byte f) (left_at o.chip.core.phase us o))) ≡ uttered (spoken_in (run_by M p (map event_of vs) o))
      → Carried M p o f vs

abbrev pub OneFrameCarried : Machine → Type 0
OneFrameCarried M =
    (p : Part) (o : Outcome) (f : List ℕ) (vs : List Sound) → Below 256 f → AwaitsFrame o.chip.core.phase → Noise (only f) p o vs → Carried M p o f vs
