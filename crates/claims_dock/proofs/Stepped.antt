-- The stepped dock is the flow: for every accepted job, every history and every room of 260 bytes, the frames handed out are those of the flow, in
-- order, the dock stands at the flow's place, its two counts are the number of frames sent and of retries spent in the flow, and the one result that it
-- reports has that place's ending and those two counts.
-- Assumes nothing.
use mathlib.Core.Bool.{Bool, false, true, true≢false}
use mathlib.Core.List.{List, [], ◌++◌, ◌∷◌, append-nil}
use mathlib.Core.Path.{◌∙◌, ◌≡◌, ap, refl, sym}
use Prim.Native.Nat.{◌*◌, ◌+◌, ◌-◌, ◌≤◌, suc, ℕ}
use native.Mathlib.Omega.{arith}
use lib.ListN.{drop, length, length-append, length-drop}
use lib.Seq.{take-append_seam}
use Rattle.claims_dock.proofs.Bounds.{ask-denied, hear-denied}
use Rattle.claims_dock.proofs.Budget.{Kept, heard-kept, needs, needs-some, start-good, start-needs}
use Rattle.claims_dock.specs.Stepping.{Course, SameCourse, as_flow, handed_out, noted, result_at, result_of, stepping}
use Rattle.dock.specs.Calls.{Asking, ask_of, asked, asking, begin_of, fresh_dock, hear_of, sending, standing, starting, stepped, turning}
use Rattle.dock.specs.declared.Account.{Account}
use Rattle.dock.specs.declared.Report.TheVariants.{Due, Put}
use Rattle.dock.specs.declared.Report.{Report}
use Rattle.std.specs.Prelude.{Err, Ok, Result}
use Rattle.dock.specs.declared.Stepped.{Stepped}
use Rattle.dock_flow.specs.Flow.{Exchange, Heard, after_heard, exchanges, first_stage, flow, frames_in, place_after, setup_from, spent_in}
use Rattle.dock_flow.specs.Frames.{frame_at, handed, placing, hand_of}
use Rattle.dock_job.proofs.Laws.{Accepts, GoodDock, accepts, ask-accepted, asked_is, tell-accepted, told_is}
use Rattle.dock_job.specs.Job.{bound, is_over, per_block, setup}
use Rattle.dock_job.specs.Refusals.{call_verdict, good_stage}
use Rattle.dock_job.specs.declared.Dock.{Dock}
use Rattle.dock_job.specs.declared.Job.{Job}
use Rattle.dock_job.specs.declared.Stage.{Stage}
use Rattle.dock_job.specs.declared.Stage.TheVariants.{InBlock, Over, SetUp}
use Rattle.dock_job.specs.declared.refusals.Call.TheVariants.{Asks, Begins, Tells}
use Rattle.part.specs.declared.refusal.Refusal.{Refusal}
use Rattle.words.specs.Words.{if◌then◌otherwise◌}

-- What a call tells while nothing has ended, or where it is refused, is not noted.
pub record Quiet (A : Type 0) (note : Result Report Refusal → List A) : Type 0 where
  pub going : note (Ok Due) ≡ []
  pub refused : (r : Refusal) → note (Err r) ≡ []

-- A course with what is noted of its reports.
record View (A : Type 0) : Type 0 where
  sent : List (List ℕ)
  notes : List A
  dock : Dock

none_over : (j : Job) (image : List ℕ) (used : ℕ) (st : Stage) (hs : List Heard) → is_over st ≡ true → exchanges j image used st hs ≡ []
unfolding exchanges if◌then◌otherwise◌
none_over j image used st [] o = refl
none_over j image used st (h ∷ hs) o = rw o

stays-over : (j : Job) (used : ℕ) (st : Stage) (hs : List Heard) → is_over st ≡ true → place_after j used st hs ≡ st
unfolding place_after if◌then◌otherwise◌
stays-over j used st [] o = refl
stays-over j used st (h ∷ hs) o = rw o

-- A dock at a stage, with these counts; and where the exchanges from there on bring it.
abbrev at : Stage → ℕ → ℕ → Dock
at st used n = record { stage = st; awaited = false; retries = used; frames = n }

abbrev reached : Job → List ℕ → Stage → ℕ → ℕ → List Heard → Dock
reached j image st used n hs =
    at (place_after j used st hs) (used + spent_in (exchanges j image used st hs)) (n + length (frames_in (exchanges j image used st hs)))

counts : (st : Stage) (u v m n : ℕ) → u ≡ v → m ≡ n → at st u m ≡ at st v n
counts st u v m n e f = rw (e, f)

-- Nothing heard, or the job over: nothing moves.
stays : (j : Job) (image : List ℕ) (st : Stage) (used n : ℕ) (hs : List Heard) → exchanges j image used st hs ≡ [] → place_after j used st hs ≡ st
    → at st used n ≡ reached j image st used n hs
unfolding frames_in spent_in
stays j image st used n hs e f =
    counts st used (used + 0) n (n + 0) (omega arith) (omega arith)
    ∙ ap (λ (p : Stage). at p (used + 0) (n + 0)) (sym f)
    ∙ ap (λ (xs : List Exchange). at (place_after j used st hs) (used + spent_in xs) (n + length (frames_in xs))) (sym e)

-- One exchange and the rest.
moves-on : (j : Job) (image : List ℕ) (st : Stage) (used n : ℕ) (h : Heard) (hs : List Heard) → is_over st ≡ false
    → reached j image (after_heard j used st h).stage (used + (after_heard j used st h).spent) (n + 1) hs ≡ reached j image st used n (h ∷ hs)
unfolding exchanges place_after frames_in spent_in if◌then◌otherwise◌
moves-on j image st used n h hs o =
    let t = after_heard j used st h in
    let xs = exchanges j image (used + t.spent) t.stage hs in
    rw o
    (counts (place_after j (used + t.spent) t.stage hs) (used + t.spent + spent_in xs) (used + (t.spent + spent_in xs)) (n + 1 + length (frames_in xs)) (n + suc (length (frames_in xs)))
    (omega arith) (omega arith))

first-sent : (j : Job) (image : List ℕ) (st : Stage) (used : ℕ) (h : Heard) (hs : List Heard) → is_over st ≡ false
    → frame_at j image st ∷ frames_in (exchanges j image (used + (after_heard j used st h).spent) (after_heard j used st h).stage hs)
    ≡ frames_in (exchanges j image used st (h ∷ hs))
unfolding exchanges frames_in if◌then◌otherwise◌
first-sent j image st used h hs o = rw o

-- The frame that is due is handed out, and what is heard moves the dock on as the flow says.
sent-asked : (j : Job) (image room : List ℕ) (d : Dock) → call_verdict j (length image) (Asks d (length room)) ≡ Ok tt
    → ask_of j image d room ≡ asking (stepped ((Ok (Put (length (frame_at j image d.stage))))) (sending d)) (placing (frame_at j image d.stage) room).room
unfolding ask_of asked hand_of handed
sent-asked j image room d e = rw e

moved_told : (j : Job) (image : List ℕ) (d : Dock) (h : Heard) → call_verdict j (length image) (Tells d) ≡ Ok tt
    → hear_of j image d h ≡ turning (Ok tt) d (after_heard j d.retries d.stage h)
unfolding hear_of
moved_told j image d h e = rw e

hands_out : (f room : List ℕ) → handed_out (Ok (Put (length f))) (f ++ drop (length f) room) ≡ f ∷ []
unfolding handed_out
hands_out f room = rw (take-append_seam f (drop (length f) room))

still-going : (st : Stage) (d : Dock) → is_over st ≡ false → standing st d ≡ Ok Due
unfolding standing is_over
still-going (SetUp s) d o = refl
still-going (InBlock k w) d o = refl
still-going (Over e) d o = absurd (true≢false o)

module _ (A : Type 0) (note : Result Report Refusal → List A) (q : Quiet A note) where
  abbrev view : Course → View A
  view c = record { sent = c.sent; notes = noted note c.reports; dock = c.dock }

  -- A step of the course, through one equation for each of its two calls.
  step_by : (j : Job) (image room : List ℕ) (d : Dock) (h : Heard) (hs : List Heard) (a : Asking) (t : Stepped) → ask_of j image d room ≡ a
      → hear_of j image a.dock h ≡ t
      → view (stepping j image room d (h ∷ hs))
      ≡ record {
        sent = handed_out a.report a.room ++ (view (stepping j image a.room t.dock hs)).sent;
        notes = note t.report ++ (view (stepping j image a.room t.dock hs)).notes;
        dock = (view (stepping j image a.room t.dock hs)).dock;
      }
  unfolding stepping noted
  step_by j image room d h hs a t e f =
      ap
      (λ (x : Asking).
      let y = hear_of j image x.dock h in
      let c = view (stepping j image x.room y.dock hs) in
      record { sent = handed_out x.report x.room ++ c.sent; notes = note y.report ++ c.notes; dock = c.dock }) e
      ∙ ap
      (λ (y : Stepped).
      let c = view (stepping j image a.room y.dock hs) in
      record { sent = handed_out a.report a.room ++ c.sent; notes = note y.report ++ c.notes; dock = c.dock }) f

  -- A job that is over: every call is refused, and nothing moves.
  over-still : (j : Job) (image room : List ℕ) (d : Dock) (hs : List Heard) → is_over d.stage ≡ true
      → view (stepping j image room d hs) ≡ record { sent = []; notes = []; dock = d }
  unfolding stepping handed_out noted
  over-still j image room d [] o = refl
  over-still j image room d (h ∷ hs) o =
      go (call_verdict j (length image) (Asks d (length room))) refl (call_verdict j (length image) (Tells d)) refl (over-still j image room d hs o)
    where
      go : (v : Result Unit Refusal) → call_verdict j (length image) (Asks d (length room)) ≡ v → (w : Result Unit Refusal) → call_verdict j (length image) (Tells d) ≡ w
          → view (stepping j image room d hs) ≡ record { sent = []; notes = []; dock = d } → view (stepping j image room d (h ∷ hs)) ≡ record { sent = []; notes = []; dock = d }
      go (Ok _) e w f rest =
          absurd (true≢false (sym o ∙ (asked_is j d (length image) (length room) (accepts j (length image) (Asks d (length room)) e)).going))
      go (Err r) e (Ok _) f rest = absurd (true≢false (sym o ∙ (told_is j d (length image) (accepts j (length image) (Tells d) f)).going))
      go (Err r) e (Err s) f rest =
          step_by j image room d h hs (asking (stepped (Err r) d) room) (stepped (Err s) d) (ask-denied j image d room r e) (hear-denied j image d h s f)
          ∙ ap (λ (xs : List A). record { sent = (view (stepping j image room d hs)).sent; notes = xs ++ (view (stepping j image room d hs)).notes; dock = (view (stepping j image room d hs)).dock }) (q.refused s)
          ∙ rest

  -- What a dock tells where it stands; nothing more where its job was over before.
  unfoldable note_at : Bool → Dock → List A
  note_at true d = []
  note_at false d = note (standing d.stage d)

  abbrev ends : Job → List ℕ → Stage → ℕ → ℕ → List Heard → View A
  ends j image st used n hs =
      record {
        sent = frames_in (exchanges j image used st hs);
        notes = note_at (is_over st) (reached j image st used n hs);
        dock = reached j image st used n hs;
      }

  quiet_at : (o : Bool) (d : Dock) → is_over d.stage ≡ o → note_at o d ≡ []
  unfolding note_at
  quiet_at true d o = refl
  quiet_at false d o = ap note (still-going d.stage d o) ∙ q.going

  still : (j : Job) (image : List ℕ) (st : Stage) (used n : ℕ) (hs : List Heard) → exchanges j image used st hs ≡ [] → place_after j used st hs ≡ st
      → record { sent = []; notes = []; dock = at st used n } ≡ ends j image st used n hs
  unfolding frames_in
  still j image st used n hs e f =
      ap (λ (xs : List A). record { sent = []; notes = xs; dock = at st used n }) (sym (quiet_at (is_over st) (at st used n) refl))
      ∙ ap (λ (d : Dock). record { sent = []; notes = note_at (is_over st) d; dock = d }) (stays j image st used n hs e f)
      ∙ ap (λ (xs : List Exchange). record { sent = frames_in xs; notes = note_at (is_over st) (reached j image st used n hs); dock = reached j image st used n hs }) (sym e)

  -- What is told of an exchange, and what after it: only where the job goes on is there more to come.
  told-on : (j : Job) (image : List ℕ) (st : Stage) (used n : ℕ) (hs : List Heard)
      → note (standing st (at st used n)) ++ note_at (is_over st) (reached j image st used n hs) ≡ note_at false (reached j image st used n hs)
  unfolding note_at
  told-on j image st used n hs = go (is_over st) refl
    where
      go : (o : Bool) → is_over st ≡ o
          → note (standing st (at st used n)) ++ note_at o (reached j image st used n hs) ≡ note_at false (reached j image st used n hs)
      go true o =
          append-nil (note (standing st (at st used n)))
          ∙ ap (λ (d : Dock). note (standing d.stage d)) (stays j image st used n hs (none_over j image used st hs o) (stays-over j used st hs o))
      go false o =
          ap (λ (xs : List A). xs ++ note_at false (reached j image st used n hs)) (ap note (still-going st (at st used n) o) ∙ q.going)

  -- One exchange and the rest.
  onward : (j : Job) (image : List ℕ) (st : Stage) (used n : ℕ) (h : Heard) (hs : List Heard) → is_over st ≡ false → (later : View A)
      → later ≡ ends j image (after_heard j used st h).stage (used + (after_heard j used st h).spent) (n + 1) hs
      → record {
        sent = frame_at j image st ∷ later.sent;
        notes = note (standing (after_heard j used st h).stage (at (after_heard j used st h).stage (used + (after_heard j used st h).spent) (n + 1))) ++ later.notes;
        dock = later.dock;
      }
      ≡ ends j image st used n (h ∷ hs)
  onward j image st used n h hs o later e =
      let t = after_heard j used st h in
      let told = note (standing t.stage (at t.stage (used + t.spent) (n + 1))) in
      let last = reached j image st used n (h ∷ hs) in
      ap (λ (v : View A). record { sent = frame_at j image st ∷ v.sent; notes = told ++ v.notes; dock = v.dock }) e
      ∙ ap (λ (xs : List A). record { sent = frame_at j image st ∷ frames_in (exchanges j image (used + t.spent) t.stage hs); notes = xs; dock = reached j image t.stage (used + t.spent) (n + 1) hs })
      (told-on j image t.stage (used + t.spent) (n + 1) hs)
      ∙ ap (λ (d : Dock). record { sent = frame_at j image st ∷ frames_in (exchanges j image (used + t.spent) t.stage hs); notes = note_at false d; dock = d }) (moves-on j image st used n h hs o)
      ∙ ap (λ (x : List (List ℕ)). record { sent = x; notes = note_at false last; dock = last }) (first-sent j image st used h hs o)
      ∙ ap (λ (x : Bool). record { sent = frames_in (exchanges j image used st (h ∷ hs)); notes = note_at x last; dock = last }) (sym o)

  steps : (j : Job) (image : List ℕ) (hs : List Heard) (room : List ℕ) (st : Stage) (used n : ℕ) → Accepts j (length image) Begins → 260 ≤ length room
      → good_stage j st ≡ true → used ≤ j.retries → n + needs j st + per_block j * (j.retries - used) ≤ bound j
      → view (stepping j image room (at st used n) hs) ≡ ends j image st used n hs
  unfolding stepping noted turning exchanges place_after
  steps j image [] room st used n b r g u i = still j image st used n [] none place
    where
      none : exchanges j image used st [] ≡ []
      none = refl

      place : place_after j used st [] ≡ st
      place = refl
  steps j image (h ∷ hs) room st used n b r g u i =
      go (is_over st) refl
      (λ (room' : List ℕ) (l : 260 ≤ length room') (k : Kept j used st (after_heard j used st h)).
      steps j image hs room' (after_heard j used st h).stage (used + (after_heard j used st h).spent) (n + 1) b l k.good k.allowed (omega (arith, k.paid)))
    where
      go : (o : Bool) → is_over st ≡ o
          → ((room' : List ℕ) → 260 ≤ length room' → Kept j used st (after_heard j used st h)
          → view (stepping j image room' (at (after_heard j used st h).stage (used + (after_heard j used st h).spent) (n + 1)) hs)
          ≡ ends j image (after_heard j used st h).stage (used + (after_heard j used st h).spent) (n + 1) hs)
          → view (stepping j image room (at st used n) (h ∷ hs)) ≡ ends j image st used n (h ∷ hs)
      go true o rest =
          over-still j image room (at st used n) (h ∷ hs) o
          ∙ still j image st used n (h ∷ hs) (none_over j image used st (h ∷ hs) o) (stays-over j used st (h ∷ hs) o)
      go false o rest =
          let f = frame_at j image st in
          let t = after_heard j used st h in
          let d = at st used n in
          let m = at t.stage (used + t.spent) (n + 1) in
          let s = needs-some j st g o in
          let gd : GoodDock j d = record { at_stage = g; few-used = u; few-sent = omega arith } in
          let a : call_verdict j (length image) (Asks d (length room)) ≡ (Ok tt) =
          ask-accepted j (length image) d (length room) b (record { good = gd; going = o; free = refl; below = omega arith; roomy = r }) in
          let gs : GoodDock j (sending d) = record { at_stage = g; few-used = u; few-sent = omega arith } in
          let w : call_verdict j (length image) (Tells (sending d)) ≡ (Ok tt) =
          tell-accepted j (length image) (sending d) b (record { good = gs; going = o; waiting = refl }) in
          let room' = f ++ drop (length f) room in
          let l : 260 ≤ length room' = rw (length-append, length-drop) (omega arith) in
          let c = view (stepping j image room' m hs) in
          step_by j image room d h hs (asking (stepped (Ok (Put (length f))) (sending d)) room') (turning (Ok tt) (sending d) t) (sent-asked j image room d a) (moved_told j image (sending d) h w)
          ∙ ap (λ (x : List (List ℕ)). record { sent = x ++ c.sent; notes = note (standing t.stage m) ++ c.notes; dock = c.dock }) (hands_out f room)
          ∙ onward j image st used n h hs o c (rest room' l (heard-kept j used st h u g o))

  pub course-is : (j : Job) (image room : List ℕ) (hs : List Heard) → call_verdict j (length image) Begins ≡ Ok tt → 260 ≤ length room
      → view (stepping j image room (begin_of j image).dock hs)
      ≡ record { sent = (flow j image hs).sent; notes = note (standing (flow j image hs).place (as_flow (flow j image hs))); dock = as_flow (flow j image hs) }
  unfolding begin_of starting fresh_dock flow note_at is_over setup_from setup
  course-is j image room hs v r =
      let b = accepts j (length image) Begins v in
      let z : j.retries - 0 ≡ j.retries = omega arith in
      let n : 0 + needs j (first_stage j) + per_block j * (j.retries - 0) ≤ bound j = rw z (omega (arith, start-needs j)) in
      let k : reached j image (first_stage j) 0 0 hs ≡ as_flow (flow j image hs) = counts _ _ _ _ _ (omega arith) (omega arith) in
      rw v
      (steps j image hs room (first_stage j) 0 0 b r (start-good j) (omega arith) n
      ∙ ap (λ (d : Dock). record { sent = (flow j image hs).sent; notes = note (standing d.stage d); dock = d }) k)

-- What is noted over a history is what is noted of the flow's end.
pub notes-told : (A : Type 0) (note : Result Report Refusal → List A) → Quiet A note → (j : Job) (image room : List ℕ) (hs : List Heard)
    → call_verdict j (length image) Begins ≡ Ok tt → 260 ≤ length room
    → noted note (stepping j image room (begin_of j image).dock hs).reports ≡ note (standing (flow j image hs).place (as_flow (flow j image hs)))
notes-told A note q j image room hs v r = ap (λ (x : View A). x.notes) (course-is A note q j image room hs v r)

results-quiet : Quiet Account result_of
unfolding result_of
results-quiet = record { going = refl; refused = λ r. refl }

result-is : (st : Stage) (d : Dock) → result_of (standing st d) ≡ result_at st d.frames d.retries
unfolding result_of standing result_at
result-is (SetUp s) d = refl
result-is (InBlock k w) d = refl
result-is (Over e) d = refl

pub dock-is-flow : (j : Job) (image room : List ℕ) (hs : List Heard) → call_verdict j (length image) Begins ≡ Ok tt → 260 ≤ length room
    → SameCourse (stepping j image room (begin_of j image).dock hs) (flow j image hs)
dock-is-flow j image room hs v r =
    let f = flow j image hs in
    let e = course-is Account result_of results-quiet j image room hs v r in
    record {
      same_frames = ap (λ (x : View Account). x.sent) e;
      same_dock = ap (λ (x : View Account). x.dock) e;
      same_results = ap (λ (x : View Account). x.notes) e ∙ result-is f.place (as_flow f);
    }
