-- Any dock that invents counts, that reports the same whatever happened, or that sends a frame too many is not the flow, and an input is named on which it
-- differs. The proved dock is the flow, and there are docks of each wrong kind.
-- Assumes nothing.
use mathlib.Core.Bool.{Bool, false, true}
use mathlib.Core.List.{List, [], ◌++◌, ◌∷◌, map}
use mathlib.Core.Logic.{◌≢◌}
use mathlib.Core.Path.{◌∙◌, ◌≡◌, ap, refl, sym}
use Prim.Native.Nat.{◌+◌, ◌≤◌, ℕ}
use native.Mathlib.Omega.{arith}
use lib.Dec.{eqb}
use lib.ListN.{length, length-append}
use borrow.Author.Tests.{eqb-false, eqb-true}
use Rattle.claims_dock.proofs.Bounds.{frames-within}
use Rattle.claims_dock.proofs.Counted.{retries-counted}
use Rattle.claims_dock.proofs.Stepped.{dock-is-flow}
use Rattle.claims_dock.specs.Examples.{two_block_image, two_block_job}
use Rattle.claims_dock.specs.Stepping.{result_at, results_of}
use Rattle.claims_flow.proofs.Undisturbed.{flow-long}
use Rattle.claims_flow.specs.Undisturbed.{all_answers, block_count}
use Rattle.claims_flow.specs.Wrong.{AddingSendsMore, BlindDiffers, DiffersOn, Invents, InventsDiffers, IsFlow, AnyDock, MoreDiffers, OnOneOf, OneEnding, ReportingDiffers, Seen}
use Rattle.claims_flow.specs.Wrong.{after_again, at_once, by_calls, by_flow, here, nothing_sent, over_bound, reporting, seen, there, unanswered, undisturbed, wrong_frames, wrong_retries}
use Rattle.commands.specs.Commands.{com_of}
use Rattle.dock.specs.declared.Account.{Account}
use Rattle.dock_answer.specs.Answer.{deciding, judge_answer, judge_frames, matching, read_answer, shape, statuses}
use Rattle.dock_flow.specs.Flow.{Heard, after_answer, after_heard, after_status, exchanges, first_stage, flow, frames_in, in_block, place_after, retried, says_not_blank, setup_from, spent_in}
use Rattle.dock_flow.specs.Frames.{frame_at, query_with}
use Rattle.dock_job.specs.Job.{area_in, blocks_in, is_over, setup}
use Rattle.dock_job.specs.Refusals.{bad_job, bad_state, call_verdict, is_bad, out_of_turn, short_room}
use Rattle.dock_job.specs.declared.Job.{Job}
use Rattle.dock_job.specs.declared.Stage.{Stage}
use Rattle.dock_job.specs.declared.Stage.TheVariants.{InBlock, Over, SetUp}
use Rattle.dock_job.specs.declared.refusals.Call.TheVariants.{Begins}
use Rattle.frame.specs.Frame.{counted, framed, is_frame}
use Rattle.frame.specs.Judgement.{judge_of, summed}
use Rattle.frame.specs.Sum.{less, less_all, sum_of}
use Rattle.frame.specs.Wire.{judge_reply, unfit_reply}
use Rattle.part.specs.Part.{block_of, block_size, described, ends_block, lies_in, range_of, starts_block, stretch, whole_blocks}
use Rattle.part.specs.Rate.{accepts_rate}
use Rattle.part.specs.Refusal.{first_of}
use Rattle.std.specs.Prelude.{Ok}
use Rattle.words.specs.Words.{◌and◌, ◌from◌to◌, ◌or◌, if◌then◌otherwise◌}

-- The proved dock is the flow, in every room of 260 bytes; a dock that differs on an input is not.
pub calls-are-flow : (room : List ℕ) → 260 ≤ length room → IsFlow (by_calls room)
calls-are-flow room r j image hs v =
    let c = dock-is-flow j image room hs v r in
    ap (λ (x : List (List ℕ)). seen x (by_calls room j image hs).results) c.same_frames ∙ ap (λ (x : List Account). seen (flow j image hs).sent x) c.same_results

pub differs-is-not : (M : AnyDock) (j : Job) (image : List ℕ) (hs : List Heard) → DiffersOn M j image hs → IsFlow M → ⊥
differs-is-not M j image hs d f = d.apart (f j image hs d.begins)

-- A result of the flow is the only one, and has its counts.
record Only (a : Account) (n r : ℕ) : Type 0 where
  frames-are : a.frames ≡ n
  retries-are : a.retries ≡ r

first-frames : List Account → ℕ
first-frames [] = 0
first-frames (a ∷ rest) = a.frames

first-retries : List Account → ℕ
first-retries [] = 0
first-retries (a ∷ rest) = a.retries

none_in : (before after : List Account) (a : Account) → [] ≡ before ++ a ∷ after → ⊥
none_in before after a e = let l : 0 ≡ length (before ++ a ∷ after) = ap length e in let m = length-append before (a ∷ after) in omega arith

only_one : (st : Stage) (n r : ℕ) (before after : List Account) (a : Account) → result_at st n r ≡ before ++ a ∷ after → Only a n r
unfolding result_at first-frames first-retries
only_one (SetUp s) n r before after a e = absurd (none_in before after a e)
only_one (InBlock k w) n r before after a e = absurd (none_in before after a e)
only_one (Over x) n r [] after a e = record { frames-are = sym (ap first-frames e); retries-are = sym (ap first-retries e) }
only_one (Over x) n r (b ∷ before) after a e =
    let l : 1 ≡ length (b ∷ before ++ a ∷ after) = ap length e in
    let m = length-append before (a ∷ after) in
    absurd (omega arith)

-- So of a dock that is the flow on an input, of any result that it reports there.
result-only : (M : AnyDock) (j : Job) (image : List ℕ) (hs : List Heard) (before after : List Account) (a : Account) → (M j image hs).results ≡ before ++ a ∷ after
    → M j image hs ≡ by_flow j image hs → Only a (length (flow j image hs).sent) (flow j image hs).spent
result-only M j image hs before after a e f = only_one (flow j image hs).place _ _ before after a (sym (ap (λ (s : Seen). s.results) f) ∙ e)

pub invents-differs : InventsDiffers
invents-differs M j image hs v (wrong_frames before after a e n) =
    record { begins = v; apart = λ f. n ((result-only M j image hs before after a e f).frames-are ∙ sym (ap (λ (s : Seen). length s.sent) f)) }
invents-differs M j image hs v (wrong_retries before after a e n) =
    record { begins = v; apart = λ f. n ((result-only M j image hs before after a e f).retries-are ∙ retries-counted j image hs) }

-- The flow sends no frame that is not answered.
answered-frames : (j : Job) (image : List ℕ) (used : ℕ) (st : Stage) (hs : List Heard) → length (frames_in (exchanges j image used st hs)) ≤ length hs
unfolding exchanges frames_in if◌then◌otherwise◌
answered-frames j image used st [] = omega arith
answered-frames j image used st (h ∷ hs) =
    go (is_over st) (answered-frames j image (used + (after_heard j used st h).spent) (after_heard j used st h).stage hs)
  where
    go : (o : Bool) → length (frames_in (exchanges j image (used + (after_heard j used st h).spent) (after_heard j used st h).stage hs)) ≤ length hs
        → length (frames_in (if o then [] otherwise record { frame = frame_at j image st; spends = (after_heard j used st h).spent } ∷ exchanges j image (used + (after_heard j used st h).spent) (after_heard j used st h).stage hs))
        ≤ length (h ∷ hs)
    go true rest = omega arith
    go false rest = omega arith

flow-answered : (j : Job) (image : List ℕ) (hs : List Heard) → length (flow j image hs).sent ≤ length hs
unfolding flow
flow-answered j image hs = answered-frames j image 0 (first_stage j) hs

as_many : (M : AnyDock) (j : Job) (image : List ℕ) (hs : List Heard) → M j image hs ≡ by_flow j image hs → length (M j image hs).sent ≡ length (flow j image hs).sent
as_many M j image hs f = ap (λ (s : Seen). length s.sent) f

pub more-differs : MoreDiffers
more-differs M j image hs v (unanswered h) =
    record { begins = v; apart = λ f. let e = as_many M j image hs f in let m = flow-answered j image hs in omega arith }
more-differs M j image hs v (over_bound h) =
    record { begins = v; apart = λ f. let e = as_many M j image hs f in let m = frames-within j image hs in omega arith }
more-differs M j image hs v (undisturbed blank a l e h) =
    let m : length (flow j image hs).sent ≡ 3 + block_count blank = ap (λ (xs : List Heard). length (flow j image xs).sent) e ∙ flow-long j image blank a l in
    record { begins = v; apart = λ f. let k = as_many M j image hs f in omega arith }

-- Two histories with one ending, by computation.
pub one-ending : OneEnding
unfolding com_of deciding judge_answer judge_frames matching read_answer shape statuses after_answer after_heard after_status exchanges flow frames_in in_block
    place_after retried says_not_blank setup_from spent_in query_with is_over setup counted framed is_frame judge_of summed less less_all sum_of judge_reply unfit_reply result_at ◌and◌
    ◌or◌ if◌then◌otherwise◌
one-ending = record { first = refl; second = refl }

may-begin : call_verdict two_block_job (length two_block_image) Begins ≡ Ok tt
unfolding area_in blocks_in bad_job bad_state call_verdict is_bad out_of_turn short_room block_of block_size described ends_block lies_in range_of starts_block stretch
    whole_blocks accepts_rate first_of ◌and◌ ◌from◌to◌ ◌or◌ if◌then◌otherwise◌
may-begin = refl

-- A dock that is the flow on an input reports as many frames as it says.
reported : (M : AnyDock) (hs : List Heard) (rs : List Account) → (M two_block_job two_block_image hs).results ≡ rs
    → (n : ℕ) → first-frames (results_of (flow two_block_job two_block_image hs)) ≡ n → M two_block_job two_block_image hs ≡ by_flow two_block_job two_block_image hs → first-frames rs ≡ n
reported M hs rs e n k f = ap first-frames (sym e ∙ ap (λ (s : Seen). s.results) f) ∙ k

pub blind-differs : BlindDiffers
unfolding first-frames
blind-differs M e = go (eqb (first-frames told) 1) refl
  where
    told : List Account
    told = (M two_block_job two_block_image at_once).results

    go : (t : Bool) → eqb (first-frames told) 1 ≡ t → OnOneOf M
    go true k =
        there (record { begins = may-begin; apart = λ f. let n = reported M after_again told (sym e) 2 (ap first-frames one-ending.second) f in let m = eqb-true (first-frames told) 1 k in omega arith })
    go false k =
        here (record { begins = may-begin; apart = λ f. let n = reported M at_once told refl 1 (ap first-frames one-ending.first) f in eqb-false _ _ k n })

-- There are docks of each kind.
same-account : (a b : Account) → a ∷ [] ≡ b ∷ [] → a ≡ b
same-account a b e = cc

pub reporting-differs : ReportingDiffers
reporting-differs change j image hs a v e n =
    record {
      begins = v;
      apart = λ f. n (same-account (change a) a (sym (ap (λ (rs : List Account). map change rs) e) ∙ ap (λ (s : Seen). s.results) f ∙ e));
    }

reporting-invents : (change : Account → Account) (j : Job) (image : List ℕ) (hs : List Heard) (a : Account) → results_of (flow j image hs) ≡ a ∷ []
    → (change a).frames ≢ a.frames → Invents (reporting change) j image hs
reporting-invents change j image hs a e n =
    let o = only_one (flow j image hs).place (length (flow j image hs).sent) (flow j image hs).spent [] [] a e in
    wrong_frames [] [] (change a) (ap (λ (rs : List Account). map change rs) e) (λ f. n (f ∙ sym o.frames-are))

pub nothing-sent-invents : Invents (reporting nothing_sent) two_block_job two_block_image after_again
nothing-sent-invents = reporting-invents nothing_sent two_block_job two_block_image after_again _ one-ending.second (λ f. omega arith)

pub adding-sends-more : AddingSendsMore
adding-sends-more f j image blank a l =
    let m = flow-long j image blank a l in
    let k = length-append (flow j image (all_answers j blank)).sent (f ∷ []) in
    undisturbed blank a l refl (omega arith)
