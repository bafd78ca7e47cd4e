-- Over every history the retries stay within the allowance and the frames within 3 + 12(B + R); and for every state handed in, each accepted call leaves
-- a state that is accepted again, while a refused one leaves everything as it was.
-- Assumes nothing.
use mathlib.Core.Bool.{Bool, false, true}
use mathlib.Core.List.{List, [], ◌∷◌}
use mathlib.Core.Path.{◌≡◌, refl}
use Prim.Native.Nat.{◌*◌, ◌+◌, ◌-◌, ◌≤◌, ℕ}
use native.Mathlib.Omega.{arith}
use lib.ListN.{length}
use Rattle.claims_dock.proofs.Budget.{Kept, heard-kept, needs, start-good, start-needs}
use Rattle.claims_dock.specs.Stepping.{most_frames}
use Rattle.dock.specs.Calls.{ask_of, asked, asking, fresh_dock, hear_of, moved, sending, standing, begin_of, starting, stepped, turning}
use Rattle.std.specs.Prelude.{Err, Ok, Result}
use Rattle.dock_flow.proofs.Laws.{heard-within}
use Rattle.dock_flow.specs.Flow.{Heard, after_heard, exchanges, first_stage, flow, frames_in, spent_in}
use Rattle.dock_flow.specs.Frames.{handed, hand_of}
use Rattle.dock_flow.specs.Frames.{frame_at, handed, hand_of}
use Rattle.dock_job.proofs.Laws.{GoodDock, accepts, asked_is, dock-yes, told_is}
use Rattle.dock_job.specs.Job.{bound, is_over, per_block, setup}
use Rattle.dock_job.specs.Refusals.{call_verdict, good_dock, good_stage}
use Rattle.dock_job.specs.declared.Dock.{Dock}
use Rattle.dock_job.specs.declared.Job.{Job}
use Rattle.dock_job.specs.declared.Stage.{Stage}
use Rattle.dock_job.specs.declared.refusals.Call.TheVariants.{Asks, Begins, Tells}
use Rattle.part.specs.Part.{block_size}
use Rattle.part.specs.declared.refusal.Refusal.{Refusal}
use Rattle.words.specs.Words.{if◌then◌otherwise◌}

-- "at most 3 + 12(B + R) frames": the bound, with the setup's three commands and four pages to a block.
pub bound-12 : (j : Job) → bound j ≡ most_frames j
unfolding bound setup block_size
bound-12 j = refl

-- From any good stage of any job.
frames-paid : (j : Job) (image : List ℕ) (used : ℕ) (st : Stage) (hs : List Heard) → used ≤ j.retries → good_stage j st ≡ true
    → length (frames_in (exchanges j image used st hs)) ≤ needs j st + per_block j * (j.retries - used)
unfolding exchanges frames_in if◌then◌otherwise◌
frames-paid j image used st [] u g = omega arith
frames-paid j image used st (h ∷ hs) u g =
    go (is_over st) refl
    (λ (k : Kept j used st (after_heard j used st h)). frames-paid j image (used + (after_heard j used st h).spent) (after_heard j used st h).stage hs k.allowed k.good)
  where
    go : (o : Bool) → is_over st ≡ o
        → (Kept j used st (after_heard j used st h)
        → length (frames_in (exchanges j image (used + (after_heard j used st h).spent) (after_heard j used st h).stage hs))
        ≤ needs j (after_heard j used st h).stage + per_block j * (j.retries - (used + (after_heard j used st h).spent)))
        → length (frames_in (if o then [] otherwise record { frame = frame_at j image st; spends = (after_heard j used st h).spent } ∷ exchanges j image (used + (after_heard j used st h).spent) (after_heard j used st h).stage hs))
        ≤ needs j st + per_block j * (j.retries - used)
    go true e rest = omega arith
    go false e rest = let k = heard-kept j used st h u g e in omega (arith, k.paid, rest k)

pub frames-within : (j : Job) (image : List ℕ) (hs : List Heard) → length (flow j image hs).sent ≤ most_frames j
unfolding flow
frames-within j image hs =
    let p = frames-paid j image 0 (first_stage j) hs (omega arith) (start-good j) in
    let z : j.retries - 0 ≡ j.retries = omega arith in
    let q : length (frames_in (exchanges j image 0 (first_stage j) hs)) ≤ needs j (first_stage j) + per_block j * j.retries = rw z at p in
    rw (← bound-12 j, ← start-needs j) q

spent-allowed : (j : Job) (image : List ℕ) (used : ℕ) (st : Stage) (hs : List Heard) → used ≤ j.retries
    → used + spent_in (exchanges j image used st hs) ≤ j.retries
unfolding exchanges spent_in if◌then◌otherwise◌
spent-allowed j image used st [] u = omega arith
spent-allowed j image used st (h ∷ hs) u =
    go (is_over st)
    (spent-allowed j image (used + (after_heard j used st h).spent) (after_heard j used st h).stage hs (heard-within j used st h u).allowed)
  where
    go : (o : Bool)
        → used + (after_heard j used st h).spent + spent_in (exchanges j image (used + (after_heard j used st h).spent) (after_heard j used st h).stage hs) ≤ j.retries
        → used + spent_in (if o then [] otherwise record { frame = frame_at j image st; spends = (after_heard j used st h).spent } ∷ exchanges j image (used + (after_heard j used st h).spent) (after_heard j used st h).stage hs)
        ≤ j.retries
    go true rest = omega arith
    go false rest = omega arith

pub retries-within : (j : Job) (image : List ℕ) (hs : List Heard) → (flow j image hs).spent ≤ j.retries
unfolding flow
retries-within j image hs = omega (arith, spent-allowed j image 0 (first_stage j) hs (omega arith))

-- A state that is handed in and accepted is left accepted, by each call.
pub start-keeps : (j : Job) (image : List ℕ) → good_dock j (begin_of j image).dock ≡ true
unfolding begin_of starting fresh_dock
start-keeps j image = go (call_verdict j (length image) Begins)
  where
    go : (v : Result Unit Refusal) → good_dock j (starting v (fresh_dock j)).dock ≡ true
    go (Err r) = dock-yes (record { at_stage = start-good j; few-used = omega arith; few-sent = omega arith })
    go (Ok _) = dock-yes (record { at_stage = start-good j; few-used = omega arith; few-sent = omega arith })

pub ask-keeps : (j : Job) (image : List ℕ) (d : Dock) (room : List ℕ) → call_verdict j (length image) (Asks d (length room)) ≡ Ok tt
    → good_dock j (ask_of j image d room).dock ≡ true
unfolding ask_of asked hand_of handed
ask-keeps j image d room e =
    let a = asked_is j d (length image) (length room) (accepts j (length image) (Asks d (length room)) e) in
    let g : GoodDock j (sending d) = record { at_stage = a.good.at_stage; few-used = a.good.few-used; few-sent = omega (arith, a.below) } in
    rw e (dock-yes g)

pub hear-keeps : (j : Job) (image : List ℕ) (d : Dock) (h : Heard) → call_verdict j (length image) (Tells d) ≡ Ok tt
    → good_dock j (hear_of j image d h).dock ≡ true
unfolding hear_of turning
hear-keeps j image d h e =
    let w = told_is j d (length image) (accepts j (length image) (Tells d) e) in
    let k = heard-kept j d.retries d.stage h w.good.few-used w.good.at_stage w.going in
    let g : GoodDock j (moved d (after_heard j d.retries d.stage h)) = record { at_stage = k.good; few-used = k.allowed; few-sent = w.good.few-sent } in
    rw e (dock-yes g)

-- A refused call leaves the dock and the room as they were.
pub ask-denied : (j : Job) (image : List ℕ) (d : Dock) (room : List ℕ) (r : Refusal) → call_verdict j (length image) (Asks d (length room)) ≡ Err r
    → ask_of j image d room ≡ asking (stepped (Err r) d) room
unfolding ask_of asked hand_of handed
ask-denied j image d room r e = rw e

pub hear-denied : (j : Job) (image : List ℕ) (d : Dock) (h : Heard) (r : Refusal) → call_verdict j (length image) (Tells d) ≡ Err r
    → hear_of j image d h ≡ stepped (Err r) d
unfolding hear_of turning
hear-denied j image d h r e = rw e

-- What an accepted call tells is read off the dock that it leaves: how the job ended, with that dock's own counts, where it is over.
pub hear-reports : (j : Job) (image : List ℕ) (d : Dock) (h : Heard) → call_verdict j (length image) (Tells d) ≡ Ok tt
    → (hear_of j image d h).report ≡ standing (hear_of j image d h).dock.stage (hear_of j image d h).dock
unfolding hear_of turning
hear-reports j image d h e = rw e
