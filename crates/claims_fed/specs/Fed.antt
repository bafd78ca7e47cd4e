-- What a frame does that is fed to the chip byte by byte, and what one does that is not good: demand 2's judgement, as noise, recordings and a whole cable need it.
use Rattle.std.specs.Prelude.{List, [], ◌++◌, ◌∷◌, map, ◌≡◌, ◌-◌, ℕ, eqb, length, replicate, Ok}
use Rattle.chip.specs.Run.{run, spoken_in}
use Rattle.chip.specs.Step.{Outcome, reaction}
use Rattle.chip_frame.specs.Does.{frame_does}
use Rattle.chip_reply.specs.Reply.{sent_as}
use Rattle.chip.specs.declared.Event.TheVariants.{Byte}
use Rattle.chip_core.specs.Hearing.{hearing}
use Rattle.chip_core.specs.Effect.{Effect, Memory}
use Rattle.chip_core.specs.declared.Core.{Core}
use Rattle.chip_core.specs.declared.Phase.{Phase}
use Rattle.chip_core.specs.declared.Phase.TheVariants.{Awaiting, ModeByte, Ready, Setup}
use Rattle.chip_pages.specs.Pages.{ready}
use Rattle.claims_good.proofs.Rooms.{utterance_of}
use Rattle.claims_good.specs.Good.{Utterance, utterances, uttered}
use Rattle.frame.specs.Frame.{data_frame}
use Rattle.frame.specs.Judgement.{status_of}
use Rattle.frame.specs.declared.Footer.TheVariants.{Last}
use Rattle.frame.specs.declared.judgement.Judgement.{Judgement}
use Rattle.frame.specs.declared.judgement.Judgement.TheVariants.{Good}
use Rattle.part.specs.declared.Part.{Part}
use Rattle.words.specs.Words.{if◌then◌otherwise◌}

-- A frame does its work in its phase.
unfoldable pub does : Phase → Part → Core → Memory → List ℕ → Effect
does f p k m g = frame_does (hearing f) p k g m

-- What a frame does in a state.
unfoldable pub does_in : Part → List ℕ → Core → Memory → Effect
does_in p f k m = does k.phase p k m f

-- A byte that is only heard is answered by nothing.
abbrev pub silence : Utterance
silence = record { answer = Ok (sent_as 0 0); fault = Good; bytes = [] }

-- A frame fed is the frame done: nothing is said before its last byte, and to that what the frame's work says; that work is done, and nothing is collected.
pub record FedIsDone (p : Part) (u : Outcome) (bs f : List ℕ) : Type 0 where
  pub answers :
      utterances p (map Byte bs) u ≡ replicate (length bs - 1) silence ++ utterance_of p (reaction [] (does_in p f u.chip.core u.memory)) ∷ []
  pub last : uttered (spoken_in (run p (map Byte bs) u)) ≡ utterance_of p (reaction [] (does_in p f u.chip.core u.memory))
  pub core : (run p (map Byte bs) u).chip.core ≡ (does_in p f u.chip.core u.memory).core
  pub memory : (run p (map Byte bs) u).memory ≡ (does_in p f u.chip.core u.memory).memory
  pub count : (run p (map Byte bs) u).chip.collector.len ≡ 0

-- One reply frame is said to a frame of this judgement; and to one with no fault.
abbrev pub says_to : Judgement → List ℕ → Utterance
says_to j ds = record { answer = Ok (sent_as (length (data_frame ds Last)) 1); fault = j; bytes = data_frame ds Last }

abbrev pub says_frame : List ℕ → Utterance
says_frame ds = says_to Good ds

-- A bad command frame and A0h's bad data are answered by one status, a bad page by the status twice. The fault told is the frame's judgement (document 02, §4).
abbrev pub blames_once : Judgement → Utterance
blames_once j = says_to j (status_of j ∷ [])

abbrev pub blames_twice : Judgement → Utterance
blames_twice j = says_to j (status_of j ∷ status_of j ∷ [])

abbrev pub blames : Phase → Judgement → Utterance
blames ModeByte j = blames_once j
blames Setup j = blames_once j
blames Ready j = blames_once j
blames (Awaiting w) j = if eqb w.command 0xA0 then blames_once j otherwise blames_twice j

-- The record after it.
unfoldable pub bad_core : Phase → Core → Core
bad_core ModeByte k = k
bad_core Setup k = k
bad_core Ready k = k
bad_core (Awaiting w) k = ready k

-- What a frame does that is not good in its phase, but has this judgement: it is blamed for that, and nothing else happens but that a command with data is over.
pub record BadDoes (f : Phase) (p : Part) (k : Core) (m : Memory) (j : Judgement) (x : Effect) : Type 0 where
  pub core : x.core ≡ bad_core f k
  pub memory : x.memory ≡ m
  pub utters : utterance_of p (reaction [] x) ≡ blames f j
