-- A call on the dock that is refused changes nothing, the numbers told included: "State and lent bytes stay."
-- Assumes nothing.
use mathlib.Core.Bool.{Bool, false, true}
use mathlib.Core.List.{List}
use mathlib.Core.Path.{◌≡◌, refl}
use Prim.Native.Nat.{ℕ}
use lib.ListN.{length}
use Rattle.claims_door.specs.Docked.{AskKept, HearKept}
use Rattle.dock.specs.Calls.{ask_of, asked, begin_of, hear_of}
use Rattle.dock.specs.declared.Report.{Report}
use Rattle.dock_door.specs.Calls.{AskTold, HearTold, ask_through, asked_by, hear_through, start_through, told_asked, told_heard, told_started}
use Rattle.dock_layout.specs.Layout.{dock_in, is_dock}
use Rattle.dock_flow.specs.Flow.{Heard}
use Rattle.dock_flow.specs.Frames.{Placed, frame_at, hand_of, handed, placing}
use Rattle.dock_job.specs.Refusals.{call_verdict}
use Rattle.dock_job.specs.declared.Dock.{Dock}
use Rattle.dock_job.specs.declared.Job.{Job}
use Rattle.dock_job.specs.declared.refusals.Call.TheVariants.{Asks}
use Rattle.part.specs.declared.refusal.Refusal.{Refusal}
use Rattle.std.specs.Prelude.{Err, Ok, Result}
use Rattle.words.specs.Words.{if◌then◌otherwise◌}

-- One of two ways is gone; whichever it is, it keeps things where it is refused.
either : {A : Type 0} (refusal : A → ℕ) (P : A → Type 0) (t : Bool) {x y : A} → ((refusal x ≡ 0 → ⊥) → P x) → ((refusal y ≡ 0 → ⊥) → P y)
    → (refusal (if t then x otherwise y) ≡ 0 → ⊥) → P (if t then x otherwise y)
unfolding if◌then◌otherwise◌
either refusal P true f g h = f h
either refusal P false f g h = g h

asks-kept : (u : Result Unit Refusal) (f : Placed) (d : Dock) (told state room : List ℕ)
    → ((asked_by (asked (handed u f room) (handed u f room).answer d) told state).refusal ≡ 0 → ⊥)
    → AskKept (asked_by (asked (handed u f room) (handed u f room).answer d) told state) told state room
unfolding told_asked asked handed
asks-kept (Err r) f d told state room h = record { told_stays = refl; state_stays = refl; room_stays = refl }
asks-kept (Ok _) f d told state room h = absurd (h refl)

-- To ask, whatever bytes are handed in as the state.
pub refused-ask-keeps : (j : Job) (image told state room : List ℕ) → ((ask_through j image told state room).refusal ≡ 0 → ⊥)
    → AskKept (ask_through j image told state room) told state room
unfolding ask_through ask_of hand_of
refused-ask-keeps j image told state room h =
    let d = dock_in state in
    either (λ (a : AskTold). a.refusal) (λ (a : AskTold). AskKept a told state room) (is_dock state)
    (λ k. asks-kept (call_verdict j (length image) (Asks d (length room))) (placing (frame_at j image d.stage) room) d told state room k)
    (λ k. record { told_stays = refl; state_stays = refl; room_stays = refl }) h

heard-kept : (r : Result Report Refusal) (d : Dock) (told state : List ℕ) → ((told_heard r d told state).refusal ≡ 0 → ⊥)
    → HearKept (told_heard r d told state) told state
unfolding told_heard
heard-kept (Ok report) d told state h = absurd (h refl)
heard-kept (Err r) d told state h = record { told_stays = refl; state_stays = refl }

-- To hand in an answer or to report a timeout, whatever bytes are handed in as the state.
pub refused-hearing-keeps : (j : Job) (image told state : List ℕ) (x : Heard) → ((hear_through j image told state x).refusal ≡ 0 → ⊥)
    → HearKept (hear_through j image told state x) told state
unfolding hear_through
refused-hearing-keeps j image told state x h =
    either (λ (a : HearTold). a.refusal) (λ (a : HearTold). HearKept a told state) (is_dock state)
    (λ k. heard-kept (hear_of j image (dock_in state) x).report (hear_of j image (dock_in state) x).dock told state k) (λ k. record { told_stays = refl; state_stays = refl }) h

-- To start.
start-kept : (r : Result Report Refusal) (d : Dock) (state : List ℕ) → ((told_started r d state).refusal ≡ 0 → ⊥) → (told_started r d state).state ≡ state
unfolding told_started
start-kept (Ok report) d state h = absurd (h refl)
start-kept (Err r) d state h = refl

pub refused-start-keeps : (j : Job) (image state : List ℕ) → ((start_through j image state).refusal ≡ 0 → ⊥) → (start_through j image state).state ≡ state
refused-start-keeps j image state h = start-kept (begin_of j image).report (begin_of j image).dock state h
