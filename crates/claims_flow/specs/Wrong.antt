-- Wrong docks: document 01, "How tightly things are promised". "Demand 2 shuts out .. a dock that reports invented frame or retry counts." The statements speak of
-- any dock M, that is, of what one hands out and reports over a history.
use Rattle.std.specs.Prelude.{Bool, List, [], ◌++◌, ◌∷◌, map, ◌≢◌, ◌≡◌, ◌+◌, ◌<◌, ℕ, length, Err, None, Ok}
use Rattle.claims_dock.specs.Counted.{restarts_over}
use Rattle.claims_dock.specs.Examples.{say, two_block_image, two_block_job}
use Rattle.claims_dock.specs.Stepping.{most_frames, results_in, results_of, stepping}
use Rattle.claims_flow.specs.Undisturbed.{all_answers, block_count}
use Rattle.dock.specs.Calls.{begin_of}
use Rattle.dock.specs.declared.Account.{Account}
use Rattle.dock_flow.specs.Flow.{Heard, flow, silence}
use Rattle.dock_job.specs.Job.{blocks_of}
use Rattle.dock_job.specs.Refusals.{call_verdict}
use Rattle.dock_job.specs.declared.Cause.TheVariants.{TimedOut}
use Rattle.dock_job.specs.declared.Job.{Job}
use Rattle.dock_job.specs.declared.refusals.Call.TheVariants.{Begins}
use Rattle.frame.specs.declared.judgement.Judgement.TheVariants.{Good}
use Rattle.part.specs.Part.{Arrays}

-- The frames that a dock hands out, in order, and the results that it reports.
pub record Seen : Type 0 where
  pub sent : List (List ℕ)
  pub results : List Account

abbrev pub seen : List (List ℕ) → List Account → Seen
seen sent results = record { sent = sent; results = results }

-- Any dock: what is seen of it, from a job, its image and what it hears.
abbrev pub AnyDock : Type 0
AnyDock = Job → List ℕ → List Heard → Seen

-- The flow's definition, and the proved dock by its calls, in a room.
abbrev pub by_flow : AnyDock
by_flow j image hs = let f = flow j image hs in seen f.sent (results_of f)

abbrev pub by_calls : List ℕ → AnyDock
by_calls room j image hs = let c = stepping j image room (begin_of j image).dock hs in seen c.sent (results_in c.reports)

-- A dock meets demand 2 where it is the flow, for every job that may begin.
abbrev pub IsFlow : AnyDock → Type 0
IsFlow M = (j : Job) (image : List ℕ) (hs : List Heard) → call_verdict j (length image) Begins ≡ Ok tt → M j image hs ≡ by_flow j image hs

-- An input on which it differs from the flow.
pub record DiffersOn (M : AnyDock) (j : Job) (image : List ℕ) (hs : List Heard) : Type 0 where
  pub begins : call_verdict j (length image) Begins ≡ Ok tt
  pub apart : M j image hs ≢ by_flow j image hs

-- Invented counts: of any result that it reports, the frames are not as many as it handed out, or the retries not the restarts in what it heard.
pub data Invents (M : AnyDock) (j : Job) (image : List ℕ) (hs : List Heard) : Type 0 where
  wrong_frames : (before after : List Account) (a : Account) → (M j image hs).results ≡ before ++ a ∷ after → a.frames ≢ length (M j image hs).sent → Invents M j image hs
  wrong_retries : (before after : List Account) (a : Account) → (M j image hs).results ≡ before ++ a ∷ after → a.retries ≢ restarts_over j hs → Invents M j image hs

-- Any dock that invents counts differs from the flow where it does.
abbrev pub InventsDiffers : Type 0
InventsDiffers =
    (M : AnyDock) (j : Job) (image : List ℕ) (hs : List Heard) → call_verdict j (length image) Begins ≡ Ok tt → Invents M j image hs → DiffersOn M j image hs

-- Two histories with one ending, a timeout at 9Ah: at once, and after 9Ah was asked for again. The frames are 1 and 2, the retries 0 and 1.
abbrev pub at_once : List Heard
at_once = silence ∷ []

abbrev pub after_again : List Heard
after_again = say 0x15 ∷ silence ∷ []

abbrev pub timed_out : ℕ → ℕ → List Account
timed_out frames retries =
    record {
      ending = Err (record { cause = TimedOut; command = 0x9A; page = None; status = 0x00; block = None; fault = Good });
      frames = frames;
      retries = retries;
    }
    ∷ []

-- What the flow reports of both.
pub record OneEnding : Type 0 where
  pub first : results_of (flow two_block_job two_block_image at_once) ≡ timed_out 1 0
  pub second : results_of (flow two_block_job two_block_image after_again) ≡ timed_out 2 1

pub data OnOneOf (M : AnyDock) : Type 0 where
  here : DiffersOn M two_block_job two_block_image at_once → OnOneOf M
  there : DiffersOn M two_block_job two_block_image after_again → OnOneOf M

-- Any dock that reports the same for both, as one does whose counts are constants or come of the ending, differs from the flow on the one or on the other.
abbrev pub BlindDiffers : Type 0
BlindDiffers = (M : AnyDock) → (M two_block_job two_block_image at_once).results ≡ (M two_block_job two_block_image after_again).results → OnOneOf M

-- A frame too many: more frames than things that it heard, more than "3 + 12(B + R)", or over an undisturbed history more than the blocks take.
pub data SendsMore (M : AnyDock) (j : Job) (image : List ℕ) (hs : List Heard) : Type 0 where
  unanswered : length hs < length (M j image hs).sent → SendsMore M j image hs
  over_bound : most_frames j < length (M j image hs).sent → SendsMore M j image hs
  undisturbed : (blank : List Bool) → Arrays j.part → length blank ≡ blocks_of j → hs ≡ all_answers j blank
      → 3 + block_count blank < length (M j image hs).sent → SendsMore M j image hs

-- Any dock that sends a frame too many differs from the flow where it does.
abbrev pub MoreDiffers : Type 0
MoreDiffers =
    (M : AnyDock) (j : Job) (image : List ℕ) (hs : List Heard) → call_verdict j (length image) Begins ≡ Ok tt → SendsMore M j image hs → DiffersOn M j image hs

-- Docks of both kinds: the flow with its account changed, however that is done, and the flow with a frame more, whichever it is.
abbrev pub reporting : (Account → Account) → AnyDock
reporting change j image hs = seen (flow j image hs).sent (map change (results_of (flow j image hs)))

abbrev pub sending_more : List ℕ → AnyDock
sending_more f j image hs = seen ((flow j image hs).sent ++ f ∷ []) (results_of (flow j image hs))

-- Whatever is changed in an account that the flow reports, the dock differs there; and whichever frame is added, it sends a frame too many in every job.
abbrev pub ReportingDiffers : Type 0
ReportingDiffers =
    (change : Account → Account) (j : Job) (image : List ℕ) (hs : List Heard) (a : Account) → call_verdict j (length image) Begins ≡ Ok tt
    → results_of (flow j image hs) ≡ a ∷ [] → change a ≢ a → DiffersOn (reporting change) j image hs

abbrev pub AddingSendsMore : Type 0
AddingSendsMore =
    (f : List ℕ) (j : Job) (image : List ℕ) (blank : List Bool) → Arrays j.part → length blank ≡ blocks_of j → SendsMore (sending_more f) j image (all_answers j blank)

-- A dock that always reports that it sent nothing.
abbrev pub nothing_sent : Account → Account
nothing_sent a = record { ending = a.ending; frames = 0; retries = a.retries }
