-- Laws about a job: its numbers do not wrap, and what an accepted call says of job, state and room.
-- Assumes nothing.
use mathlib.Core.Bool.{Bool, false, not, true, true≢false}
use mathlib.Core.List.{[], ◌∷◌}
use mathlib.Core.Path.{◌≡◌, ap, refl}
use Prim.Native.Nat.{◌*◌, ◌+◌, ◌<◌, ◌^◌, ◌≤◌, ℕ}
use native.Mathlib.Nat.{mul-le-mul_left, mul-le-mul_right, suc-mul}
use native.Mathlib.Numerals.{add-one}
use native.Mathlib.Omega.{arith}
use lib.Dec.{leb}
use borrow.Author.Tests.{eq-eqb, eqb-true, le-leb, le-ltb, leb-false, leb-true, lt-leb, lt-ltb, ltb-false, ltb-true}
use Rattle.dock_job.specs.Job.{area_of, blocks_in, blocks_of, bound, is_over, job_range, range_length, pages_of, per_block, setup, size_of}
use Rattle.dock_job.specs.Refusals.{bad_job, bad_state, call_verdict, due, good_block, good_dock, good_named_page, good_page, good_stage, good_work, is_bad, out_of_turn, short_room, spent}
use Rattle.dock_job.specs.declared.Dock.{Dock}
use Rattle.dock_job.specs.declared.Job.{Job}
use Rattle.part.specs.declared.Range.{Range}
use Rattle.std.specs.Prelude.{None, Ok, Option, Some}
use Rattle.dock_job.specs.declared.Setup.TheVariants.{BaudRate, ResetChip, SiliconSignature}
use Rattle.dock_job.specs.declared.Stage.TheVariants.{InBlock}
use Rattle.dock_job.specs.declared.Work.{Work}
use Rattle.dock_job.specs.declared.Work.TheVariants.{ProgramPage, VerifyPage}
use Rattle.dock_job.specs.declared.refusals.Call.{Call}
use Rattle.dock_job.specs.declared.refusals.Call.TheVariants.{Asks, Begins, Tells}
use Rattle.part.proofs.Laws.{block_size-pos, block_size-small, blocks-most, blocks-small, none-held, pages-small, pages-whole, passed, passes, range-good}
use Rattle.part.specs.Part.{described, page_size}
use Rattle.part.specs.Rate.{accepts_rate}
use Rattle.words.proofs.Laws.{and_both, and_left, and_right}
use Rattle.words.specs.Words.{◌and◌, ◌or◌}

-- Nothing computed from a job wraps, whatever its numbers.
pub job-blocks-small : (j : Job) → j.part.code_blocks < 2 ^ 32 → j.part.data_blocks < 2 ^ 32 → blocks_of j < 2 ^ 32
unfolding blocks_in
job-blocks-small j h k = go (job_range j) refl
  where
    go : (r : Option Range) → job_range j ≡ r → blocks_in r < 2 ^ 32
    go (Some range) e = omega (arith, range-good j.part j.start j.end range.area range.block range.count e, blocks-small j.part range.area h k)
    go None e = omega arith

pub length-small : (j : Job) → j.part.code_blocks < 2 ^ 32 → j.part.data_blocks < 2 ^ 32 → range_length j ≤ 2 ^ 48
length-small j h k =
    let b = job-blocks-small j h k in
    let s = block_size-small j.part (area_of j) in
    let l : blocks_of j * size_of j ≤ blocks_of j * 65536 = mul-le-mul_left (blocks_of j) s in
    omega arith

pub frames_small : (p n : ℕ) → p ≤ 256 → n ≤ 2 ^ 33 → (4 + 2 * p) * n ≤ 2 ^ 43
frames_small p n h k = let l : (4 + 2 * p) * n ≤ 516 * n = mul-le-mul_right n (omega arith) in omega arith

pub setup-is : (j : Job) → setup j ≡ BaudRate ∷ ResetChip ∷ SiliconSignature ∷ []
unfolding setup
setup-is j = refl

-- "3 + 12(B + R)", with the pages of the part.
pub bound-is : (j : Job) → 3 + (4 + 2 * pages_of j) * (blocks_of j + j.retries) ≡ bound j
unfolding bound setup
bound-is j = let e : 4 + 2 * pages_of j ≡ per_block j = omega arith in ap (λ (n : ℕ). 3 + n * (blocks_of j + j.retries)) e

-- What an accepted call says, in the order of the refusals.
pub record Accepts (j : Job) (image : ℕ) (c : Call) : Type 0 where
  pub described-part : described j.part ≡ true
  pub accepted-rate : accepts_rate j.part j.rate j.supply ≡ true
  pub good-range : is_bad (job_range j) ≡ false
  pub image-length : image ≡ range_length j
  pub few-retries : j.retries ≤ 15
  pub good-state : bad_state j c ≡ false
  pub long-room : short_room c ≡ false
  pub in-turn : out_of_turn c ≡ false

not-false : (t : Bool) → not t ≡ false → t ≡ true
not-false true e = refl
not-false false e = absurd (true≢false e)

good-job : (j : Job) → bad_job j ≡ false → described j.part and accepts_rate j.part j.rate j.supply ≡ true
unfolding bad_job ◌or◌ ◌and◌
good-job j e = go (described j.part) (accepts_rate j.part j.rate j.supply) e
  where
    go : (t u : Bool) → not t or not u ≡ false → t and u ≡ true
    go true u e = not-false u e
    go false u e = absurd (true≢false e)

pub accepts : (j : Job) (image : ℕ) (c : Call) → call_verdict j image c ≡ Ok tt → Accepts j image c
unfolding call_verdict
accepts j image c e =
    let a = passed _ _ e in
    let b = passed _ _ a.rest in
    let d = passed _ _ b.rest in
    let f = passed _ _ d.rest in
    let g = passed _ _ f.rest in
    let h = passed _ _ g.rest in
    let i = passed _ _ h.rest in
    let w = good-job j a.not-held in
    record {
      described-part = and_left _ _ w;
      accepted-rate = and_right _ _ w;
      good-range = b.not-held;
      image-length = eqb-true _ _ (not-false _ d.not-held);
      few-retries = ltb-false _ _ f.not-held;
      good-state = g.not-held;
      long-room = h.not-held;
      in-turn = i.not-held;
    }

fine-job : (j : Job) → described j.part ≡ true → accepts_rate j.part j.rate j.supply ≡ true → bad_job j ≡ false
unfolding bad_job ◌or◌
fine-job j d a = simp (d, a)

pub accepted : {j : Job} {image : ℕ} {c : Call} → Accepts j image c → call_verdict j image c ≡ Ok tt
unfolding call_verdict
accepted {j} {image} {c} a =
    passes _ _ (fine-job j a.described-part a.accepted-rate)
    (passes _ _ a.good-range
    (passes _ _ (ap not (eq-eqb image (range_length j) a.image-length))
    (passes _ _ (le-ltb _ _ a.few-retries)
    (passes _ _ a.good-state
    (passes _ _ a.long-room
    (passes _ _ a.in-turn none-held))))))

-- What the tests on a state say.
pub block-is : (j : Job) (k : ℕ) → good_block j k ≡ true → k < blocks_of j
unfolding good_block
block-is j k e = ltb-true _ _ e

pub block-yes : (j : Job) (k : ℕ) → k < blocks_of j → good_block j k ≡ true
unfolding good_block
block-yes j k h = lt-ltb _ _ h

pub page-is : (j : Job) (p : ℕ) → good_page j p ≡ true → p < pages_of j
unfolding good_page
page-is j p e = ltb-true _ _ e

pub page-yes : (j : Job) (p : ℕ) → p < pages_of j → good_page j p ≡ true
unfolding good_page
page-yes j p h = lt-ltb _ _ h

pub stored_is : (j : Job) (p : ℕ) → good_work j (ProgramPage p) ≡ true → good_page j p ≡ true
unfolding good_work
stored_is j p e = e

pub verified-is : (j : Job) (p : ℕ) → good_work j (VerifyPage p) ≡ true → good_page j p ≡ true
unfolding good_work
verified-is j p e = e

pub named-page-is : (j : Job) (p : ℕ) → good_named_page j (Some p) ≡ true → good_page j p ≡ true
unfolding good_named_page
named-page-is j p e = e

pub named-page-yes : (j : Job) (p : ℕ) → good_page j p ≡ true → good_named_page j (Some p) ≡ true
unfolding good_named_page
named-page-yes j p e = e

pub no-page-named : (j : Job) → good_named_page j None ≡ true
unfolding good_named_page
no-page-named j = refl

pub record GoodPlace (j : Job) (k : ℕ) (w : Work) : Type 0 where
  pub in-job : good_block j k ≡ true
  pub in-block : good_work j w ≡ true

pub place_is : (j : Job) (k : ℕ) (w : Work) → good_stage j (InBlock k w) ≡ true → GoodPlace j k w
unfolding good_stage
place_is j k w e = record { in-job = and_left _ _ e; in-block = and_right _ _ e }

pub record GoodDock (j : Job) (d : Dock) : Type 0 where
  pub at_stage : good_stage j d.stage ≡ true
  pub few-used : d.retries ≤ j.retries
  pub few-sent : d.frames ≤ bound j

pub dock-is : (j : Job) (d : Dock) → good_dock j d ≡ true → GoodDock j d
unfolding good_dock
dock-is j d e =
    let r = and_right _ _ e in
    record { at_stage = and_left _ _ e; few-used = leb-true _ _ (and_left _ _ r); few-sent = leb-true _ _ (and_right _ _ r) }

pub dock-yes : {j : Job} {d : Dock} → GoodDock j d → good_dock j d ≡ true
unfolding good_dock
dock-yes g = and_both g.at_stage (and_both (le-leb _ _ g.few-used) (le-leb _ _ g.few-sent))

-- What an accepted call says of the state handed in: it is good; for a frame that is asked, one is due, below the bound, and the room has 260 bytes;
-- for what is told, an answer is awaited.
pub record Asked (j : Job) (d : Dock) (room : ℕ) : Type 0 where
  pub good : GoodDock j d
  pub going : is_over d.stage ≡ false
  pub free : d.awaited ≡ false
  pub below : d.frames < bound j
  pub roomy : 260 ≤ room

or_left : (a b : Bool) → a or b ≡ false → a ≡ false
unfolding ◌or◌
or_left true b e = absurd (true≢false e)
or_left false b e = refl

or_right : (a b : Bool) → a or b ≡ false → b ≡ false
unfolding ◌or◌
or_right true b e = absurd (true≢false e)
or_right false b e = e

below-bound : (j : Job) (d : Dock) → is_over d.stage ≡ false → d.awaited ≡ false → spent j d ≡ false → d.frames < bound j
unfolding spent due ◌and◌
below-bound j d g f e = leb-false (bound j) d.frames (simp (g, f) at e)

pub asked_is : (j : Job) (d : Dock) (image room : ℕ) → Accepts j image (Asks d room) → Asked j d room
unfolding bad_state short_room out_of_turn
asked_is j d image room a =
    let g = or_left _ _ a.in-turn in
    let f = or_right (is_over d.stage) _ a.in-turn in
    record {
      good = dock-is j d (not-false _ (or_left _ _ a.good-state));
      going = g;
      free = f;
      below = below-bound j d g f (or_right (not (good_dock j d)) _ a.good-state);
      roomy = ltb-false _ _ a.long-room;
    }

pub record Told (j : Job) (d : Dock) : Type 0 where
  pub good : GoodDock j d
  pub going : is_over d.stage ≡ false
  pub waiting : d.awaited ≡ true

pub told_is : (j : Job) (d : Dock) (image : ℕ) → Accepts j image (Tells d) → Told j d
unfolding bad_state out_of_turn
told_is j d image a =
    record {
      good = dock-is j d (not-false _ a.good-state);
      going = or_left _ _ a.in-turn;
      waiting = not-false _ (or_right (is_over d.stage) _ a.in-turn);
    }

-- The blocks and the frames of a described job are few.
pub blocks-few : (j : Job) → described j.part ≡ true → blocks_of j ≤ 64
unfolding blocks_in
blocks-few j d = go (job_range j) refl
  where
    go : (r : Option Range) → job_range j ≡ r → blocks_in r ≤ 64
    go (Some range) e = omega (arith, range-good j.part j.start j.end range.area range.block range.count e, blocks-most j.part range.area d)
    go None e = omega arith

pub bound-few : (j : Job) → described j.part ≡ true → j.retries ≤ 15 → bound j ≤ 2 ^ 20
bound-few j d r =
    let p = pages-small j.part (area_of j) in
    let l : (4 + 2 * pages_of j) * (blocks_of j + j.retries) ≤ 516 * (blocks_of j + j.retries) = mul-le-mul_right (blocks_of j + j.retries) (omega arith) in
    omega (arith, bound-is j, blocks-few j d)

-- A page of a block of the job lies in the image.
pub page-lies : (j : Job) (k p : ℕ) → k < blocks_of j → p < pages_of j → k * size_of j + p * page_size + page_size ≤ range_length j
page-lies j k p h i =
    let s : size_of j ≡ pages_of j * page_size = pages-whole j.part (area_of j) in
    let l : (k + 1) * size_of j ≤ blocks_of j * size_of j = mul-le-mul_right (size_of j) (omega arith) in
    let m : (p + 1) * page_size ≤ pages_of j * page_size = mul-le-mul_right page_size (omega arith) in
    let n : (k + 1) * size_of j ≡ k * size_of j + size_of j = rw add-one (suc-mul k (size_of j)) in
    omega arith

pub pages-some : (j : Job) → 0 < pages_of j
pages-some j = omega (arith, pages-whole j.part (area_of j), block_size-pos j.part (area_of j))

-- A job that may begin is accepted at every later call that comes in turn with a good state.
not-spent : (j : Job) (d : Dock) → d.frames < bound j → spent j d ≡ false
unfolding spent ◌and◌
not-spent j d h = go (due d)
  where
    go : (t : Bool) → t and leb (bound j) d.frames ≡ false
    go true = lt-leb (bound j) d.frames h
    go false = refl

pub ask-accepted : (j : Job) (image : ℕ) (d : Dock) (room : ℕ) → Accepts j image Begins → Asked j d room → call_verdict j image (Asks d room) ≡ Ok tt
unfolding bad_state short_room out_of_turn ◌or◌
ask-accepted j image d room b a =
    accepted (record {
      described-part = b.described-part;
      accepted-rate = b.accepted-rate;
      good-range = b.good-range;
      image-length = b.image-length;
      few-retries = b.few-retries;
      good-state = simp (dock-yes a.good, not-spent j d a.below);
      long-room = le-ltb _ _ a.roomy;
      in-turn = simp (a.going, a.free);
    })

pub tell-accepted : (j : Job) (image : ℕ) (d : Dock) → Accepts j image Begins → Told j d → call_verdict j image (Tells d) ≡ Ok tt
unfolding bad_state short_room out_of_turn ◌or◌
tell-accepted j image d b w =
    accepted (record {
      described-part = b.described-part;
      accepted-rate = b.accepted-rate;
      good-range = b.good-range;
      image-length = b.image-length;
      few-retries = b.few-retries;
      good-state = simp (dock-yes w.good);
      long-room = refl;
      in-turn = simp (w.going, w.waiting);
    })
