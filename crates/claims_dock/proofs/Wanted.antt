-- A dock knows the end of an answer without a clock: of a readable answer every proper front wants more and the whole wants none, and no answer wants more
-- than 31 bytes in all. Document 01, "The dock's flow".
-- Assumes nothing.
use mathlib.Core.Bool.{false, true}
use mathlib.Core.List.{List, [], ◌∷◌}
use mathlib.Core.Path.{◌∙◌, ◌≡◌, refl, sym}
use Prim.Native.Nat.{◌+◌, ◌-◌, ◌<◌, ◌≤◌, ℕ}
use native.Mathlib.Decide.{dec_lt}
use native.Mathlib.Omega.{arith}
use lib.Dec.{eqb}
use lib.ListN.{drop, length, length-drop, take}
use lib.Seq.{get_or-take, length-take-le}
use Rattle.dock.specs.Calls.{wants_by, wants_of}
use Rattle.claims_dock.proofs.Readable.{fit-whole, frames-good, reply-is}
use Rattle.dock_answer.specs.Answer.{in_first, judge_answer, judge_frames, long, readable, shape, wanted}
use Rattle.dock_answer.specs.declared.Form.{Form}
use Rattle.dock_answer.specs.declared.Form.TheVariants.{OfLastPage, OfPage, OneStatus, WithRate, WithSignature}
use Rattle.dock_flow.specs.Flow.{wanted_at}
use Rattle.dock_flow.specs.Frames.{query_at}
use Rattle.dock_job.specs.Refusals.{call_verdict}
use Rattle.dock_job.specs.declared.Dock.{Dock}
use Rattle.dock_job.specs.declared.Job.{Job}
use Rattle.dock_job.specs.declared.refusals.Call.TheVariants.{Tells}
use Rattle.frame.proofs.Laws.Wire.{fit-long}
use Rattle.frame.specs.Judgement.{is_good}
use Rattle.part.specs.declared.refusal.Refusal.{Refusal}
use Rattle.std.specs.Prelude.{Err, Ok, Result}
use Rattle.words.proofs.Laws.{and_left, and_right, if-both}
use Rattle.words.specs.Words.{◌and◌}

-- Frames that are good, one behind the other with nothing after the last, are as long as their shape.
frames-long : (n : ℕ) (ns bs : List ℕ) → is_good (judge_frames (n ∷ ns) bs) ≡ true → length bs ≡ long (n ∷ ns)
unfolding long
frames-long n [] bs e =
    let g = reply-is n true bs (and_left _ _ (sym (frames-good n [] bs) ∙ e)) in
    omega (arith, fit-long n true bs g.fit, fit-whole n bs g.fit)
frames-long n (m ∷ ns) bs e =
    let t = sym (frames-good n (m ∷ ns) bs) ∙ e in
    let l : n + 4 ≤ length bs = fit-long n false bs (reply-is n false bs (and_left _ _ t)).fit in
    let r : length (drop (n + 4) bs) ≡ long (m ∷ ns) = frames-long m ns (drop (n + 4) bs) (and_right _ _ t) in
    let d : length (drop (n + 4) bs) ≡ length bs - (n + 4) = length-drop (n + 4) bs in
    omega arith

-- What is true of the shapes: there is a frame, and they are 5 to 31 bytes long.
record Fits (ns : List ℕ) : Type 0 where
  some : (bs : List ℕ) → is_good (judge_frames ns bs) ≡ true → length bs ≡ long ns
  least : 5 ≤ long ns
  most : long ns ≤ 31

one : (n : ℕ) → 1 ≤ n → n ≤ 3 → Fits (n ∷ [])
unfolding long
one n h k = record { some = frames-long n []; least = omega arith; most = omega arith }

two : (n m : ℕ) → 1 ≤ n → n ≤ 2 → 1 ≤ m → m + n ≤ 23 → Fits (n ∷ m ∷ [])
unfolding long
two n m h k i l = record { some = frames-long n (m ∷ []); least = omega arith; most = omega arith }

shape-fits : (f : Form) (s t : ℕ) → Fits (shape f s t)
unfolding shape
shape-fits OneStatus s t = one 1 (omega arith) (omega arith)
shape-fits WithRate s t = if-both Fits (eqb s 0x06) (one 3 (omega arith) (omega arith)) (one 1 (omega arith) (omega arith))
shape-fits WithSignature s t =
    if-both Fits (eqb s 0x06) (two 1 22 (omega arith) (omega arith) (omega arith) (omega arith)) (one 1 (omega arith) (omega arith))
shape-fits OfPage s t = one 2 (omega arith) (omega arith)
shape-fits OfLastPage s t =
    if-both Fits (eqb s 0x06 and eqb t 0x06) (two 2 1 (omega arith) (omega arith) (omega arith) (omega arith)) (one 2 (omega arith) (omega arith))

readable-long : (f : Form) (bs : List ℕ) → readable f bs ≡ true → length bs ≡ long (shape f (in_first 0 bs) (in_first 1 bs))
unfolding judge_answer
readable-long f bs e = (shape-fits f (in_first 0 bs) (in_first 1 bs)).some bs e

whole-wanted : (f : Form) (bs : List ℕ) → readable f bs ≡ true → wanted f bs ≡ 0
unfolding wanted
whole-wanted f bs e = omega (arith, readable-long f bs e)

-- A front of four bytes shows which shape it is, and a shorter one is shorter than any.
front-wanted : (f : Form) (bs : List ℕ) (k : ℕ) → readable f bs ≡ true → k < length bs → 1 ≤ wanted f (take k bs)
unfolding wanted
front-wanted f bs k e h = go (dec_lt k 4)
  where
    n : length (take k bs) ≡ k
    n = length-take-le k bs (omega arith)

    go : Dec (k < 4) → 1 ≤ long (shape f (in_first 0 (take k bs)) (in_first 1 (take k bs))) - length (take k bs)
    go (yes l) = omega (arith, n, (shape-fits f (in_first 0 (take k bs)) (in_first 1 (take k bs))).least)
    go (no l) = rw (get_or-take k bs 2 0 (omega arith), get_or-take k bs 3 0 (omega arith)) (omega (arith, n, readable-long f bs e))

most-wanted : (f : Form) (bs : List ℕ) → 1 ≤ wanted f bs → length bs + wanted f bs ≤ 31
unfolding wanted
most-wanted f bs h = omega (arith, (shape-fits f (in_first 0 bs) (in_first 1 bs)).most)

-- The same of a dock.
abbrev form_at : Job → Dock → Form
form_at j d = (query_at j d.stage).form

none-by : (v : Result Unit Refusal) → wants_by v 0 ≡ 0
unfolding wants_by
none-by (Ok _) = refl
none-by (Err r) = refl

most-by : (v : Result Unit Refusal) (n m : ℕ) → (1 ≤ n → m + n ≤ 31) → 1 ≤ wants_by v n → m + wants_by v n ≤ 31
unfolding wants_by
most-by (Ok _) n m f h = f h
most-by (Err r) n m f h = absurd (omega arith)

pub whole-wants-none : (j : Job) (image : List ℕ) (d : Dock) (bs : List ℕ) → readable (form_at j d) bs ≡ true → wants_of j image d bs ≡ 0
unfolding wants_of wanted_at
whole-wants-none j image d bs e = rw (whole-wanted (form_at j d) bs e) (none-by (call_verdict j (length image) (Tells d)))

pub front-wants-more : (j : Job) (image : List ℕ) (d : Dock) (bs : List ℕ) (k : ℕ) → call_verdict j (length image) (Tells d) ≡ Ok tt
    → readable (form_at j d) bs ≡ true → k < length bs → 1 ≤ wants_of j image d (take k bs)
unfolding wants_of wants_by wanted_at
front-wants-more j image d bs k a e h = rw a (front-wanted (form_at j d) bs k e h)

pub wants-at-most : (j : Job) (image : List ℕ) (d : Dock) (bs : List ℕ) → 1 ≤ wants_of j image d bs → length bs + wants_of j image d bs ≤ 31
unfolding wants_of wanted_at
wants-at-most j image d bs h = most-by (call_verdict j (length image) (Tells d)) (wanted (form_at j d) bs) (length bs) (most-wanted (form_at j d) bs) h
