-- Which answers are readable has not changed, an unreadable one has the fault of its first faulty frame, and a failure names a fault exactly where its cause is
-- unreadable: specs/Faults.
-- Assumes nothing.
use mathlib.Core.Bool.{Bool, false, true, true≢false}
use mathlib.Core.List.{List, [], ◌∷◌}
use mathlib.Core.Path.{◌∙◌, ◌≡◌, ap, refl, sym}
use Prim.Native.Nat.{◌+◌, ◌-◌, ◌≤◌, ℕ}
use native.Mathlib.Omega.{arith}
use lib.Dec.{eqb, ltb}
use lib.ListN.{drop, get_or, length, length-drop, length-take, take}
use lib.Seq.{get_or-take}
use borrow.Author.Tests.{eq-eqb, eqb-true, le-ltb}
use Rattle.claims_dock.proofs.Readable.{GoodReply, fit-whole, frames-good, good-reply, reply-is}
use Rattle.claims_dock.specs.Faults.{DecodedAsBefore, FailureNamesFault, FaultNamed, FirstFaulty, FirstFaultyFrame, ReadableAsBefore, UnreadableFails}
use Rattle.claims_dock.specs.Faults.{carried_before, decoded_before, exactly_before, failed, finished, goes_on, is_unreadable, later, none, readable_before, this}
use Rattle.claims_frame.proofs.Faults.{reply-place-is, judged-as-before}
use Rattle.claims_frame.specs.Faults.{BlamedReply, good_before, judge_before}
use Rattle.commands.specs.Commands.{com_of}
use Rattle.dock_answer.specs.Answer.{deciding, in_first, judge_answer, judge_frames, matching, none_left, read_answer, shape, statuses, said_as}
use Rattle.std.specs.Prelude.{None, Some}
use Rattle.dock_answer.specs.declared.Form.{Form}
use Rattle.dock_answer.specs.declared.Form.TheVariants.{OfLastPage, OfPage, OneStatus, WithRate, WithSignature}
use Rattle.dock_flow.specs.Flow.{Heard, after_answer, after_heard, after_setup, after_status, after_work, answered, block_from, first_stage, flow, in_block}
use Rattle.dock_flow.specs.Flow.{next, place_after, retried, says_not_blank, setup_from, silence}
use Rattle.dock_flow.specs.Frames.{last_page, query_at}
use Rattle.dock_flow.specs.declared.Turned.{Turned}
use Rattle.dock_job.specs.Job.{blocks_of, is_over, setup}
use Rattle.dock_job.specs.declared.Job.{Job}
use Rattle.dock_job.specs.declared.Setup.{Setup}
use Rattle.dock_job.specs.declared.Stage.{Stage}
use Rattle.dock_job.specs.declared.Stage.TheVariants.{InBlock, Over, SetUp}
use Rattle.dock_job.specs.declared.Work.{Work}
use Rattle.dock_job.specs.declared.Work.TheVariants.{Blank, Erase, Program, ProgramPage, VerifyBlock, VerifyPage}
use Rattle.frame.proofs.Laws.Frame.{frame-counted}
use Rattle.frame.proofs.Laws.Judgement.{good-is, is-good}
use Rattle.frame.proofs.Laws.Wire.{fit-counted, unfit-over}
use Rattle.frame.specs.Frame.{counted, header_byte}
use Rattle.frame.specs.Judgement.{is_good, judge_of}
use Rattle.frame.specs.Wire.{judge_reply, unfit_reply}
use Rattle.frame.specs.declared.Footer.TheVariants.{Last}
use Rattle.frame.specs.declared.Header.TheVariants.{Data}
use Rattle.frame.specs.declared.judgement.Judgement.{Judgement}
use Rattle.frame.specs.declared.judgement.Judgement.TheVariants.{Good, UnfitLength, WrongFirst, WrongFooter, WrongSum}
use Rattle.words.proofs.Laws.{and_both, and_left, and_right, and-true, if-all, if-both}
use Rattle.words.specs.Words.{◌and◌, ◌or◌, if◌then◌otherwise◌}

pub first-faulty-frame : FirstFaultyFrame
unfolding judge_frames if◌then◌otherwise◌
first-faulty-frame [] bs = none
first-faulty-frame (n ∷ ns) bs = go (judge_reply n (none_left ns) bs) (reply-place-is n (none_left ns) bs) (first-faulty-frame ns (drop (n + 4) bs))
  where
    go : (j : Judgement) → BlamedReply n (none_left ns) bs j → FirstFaulty ns (drop (n + 4) bs) (judge_frames ns (drop (n + 4) bs))
        → FirstFaulty (n ∷ ns) bs (if is_good j then judge_frames ns (drop (n + 4) bs) otherwise j)
    go Good b r = later b r
    go (WrongFooter at) b r = this refl b
    go (WrongSum at) b r = this refl b
    go UnfitLength b r = this refl b
    go WrongFirst b r = this refl b

-- Each frame carries something.
data Filled : List ℕ → Type 0 where
  empty : Filled []
  more : {n : ℕ} {ns : List ℕ} → 1 ≤ n → Filled ns → Filled (n ∷ ns)

-- Two tests that pass together.
both_ways : (a b : Bool) → (a ≡ true → b ≡ true) → (b ≡ true → a ≡ true) → a ≡ b
both_ways true b f g = sym (f refl)
both_ways false true f g = g refl
both_ways false false f g = refl

-- What the frame at the front carried before §4.
record Carries (n : ℕ) (bs : List ℕ) : Type 0 where
  header : get_or bs 0 0 ≡ header_byte Data
  counts : counted (get_or bs 1 0) ≡ n
  judged : is_good (judge_of Last (take (n + 4) bs)) ≡ true

carries-is : (n : ℕ) (bs : List ℕ) → 1 ≤ n → carried_before bs ≡ n → Carries n bs
unfolding carried_before ◌and◌ if◌then◌otherwise◌
carries-is n bs h e = go (eqb (get_or bs 0 0) 2) refl (good_before (judge_before Last (take (counted (get_or bs 1 0) + 4) bs))) refl e
  where
    go : (t : Bool) → eqb (get_or bs 0 0) 2 ≡ t → (u : Bool) → good_before (judge_before Last (take (counted (get_or bs 1 0) + 4) bs)) ≡ u
        → (if t and u then counted (get_or bs 1 0) otherwise 0) ≡ n → Carries n bs
    go false p u q e = absurd (omega arith)
    go true p false q e = absurd (omega arith)
    go true p true q e =
        record {
          header = eqb-true _ _ p;
          counts = e;
          judged = ap (λ (k : ℕ). is_good (judge_of Last (take (k + 4) bs))) (sym e) ∙ (judged-as-before Last (take (counted (get_or bs 1 0) + 4) bs)).good ∙ q;
        }

carries-carried : (n : ℕ) (bs : List ℕ) → Carries n bs → carried_before bs ≡ n
unfolding carried_before ◌and◌ if◌then◌otherwise◌
carries-carried n bs c =
    let g : good_before (judge_before Last (take (counted (get_or bs 1 0) + 4) bs)) ≡ true =
    ap (λ (k : ℕ). good_before (judge_before Last (take (k + 4) bs))) c.counts ∙ sym (judged-as-before Last (take (n + 4) bs)).good ∙ c.judged in
    rw (eq-eqb (get_or bs 0 0) 2 c.header, g) c.counts

-- It has come whole.
carries-long : (n : ℕ) (bs : List ℕ) → Carries n bs → n + 4 ≤ length bs
carries-long n bs c =
    let e : length (take (n + 4) bs) ≡ counted (get_or (take (n + 4) bs) 1 0) + 4 = frame-counted _ (good-is Last (take (n + 4) bs) (is-good _ c.judged)).frame in
    let g : get_or (take (n + 4) bs) 1 0 ≡ get_or bs 1 0 = get_or-take (n + 4) bs 1 0 (omega arith) in
    let k : counted (get_or (take (n + 4) bs) 1 0) ≡ n = ap counted g ∙ c.counts in
    omega (arith, length-take (n + 4) bs)

-- A reply frame is good exactly where it carried so many bytes before, and, as the last one, nothing follows it.
abbrev ends : Bool → ℕ → List ℕ → Bool
ends true n bs = eqb (length (drop (n + 4) bs)) 0
ends false n bs = true

reply-carries : (n : ℕ) (last : Bool) (bs : List ℕ) → 1 ≤ n → is_good (judge_reply n last bs) ≡ eqb (carried_before bs) n and ends last n bs
unfolding ◌and◌
reply-carries n last bs h = both_ways _ _ (λ g. and_both (eq-eqb _ _ (carries-carried n bs (now g))) (ended last refl (reply-is n last bs g).fit)) (λ t. good-reply n last bs (back t))
  where
    now : is_good (judge_reply n last bs) ≡ true → Carries n bs
    now g = let r = reply-is n last bs g in record { header = r.header; counts = fit-counted n last bs r.fit; judged = r.judged }

    ended : (l : Bool) → last ≡ l → unfit_reply n last bs ≡ false → ends l n bs ≡ true
    ended true e u =
        let l : length bs ≤ n + 4 = fit-whole n bs (ap (λ (x : Bool). unfit_reply n x bs) (sym e) ∙ u) in
        eq-eqb _ _ (length-drop (n + 4) bs ∙ (let z : length bs - (n + 4) ≡ 0 = omega arith in z))
    ended false e u = refl

    not-over : (l : Bool) → ends l n bs ≡ true → l and ltb (n + 4) (length bs) ≡ false
    not-over true e = le-ltb (n + 4) (length bs) (let z : length bs - (n + 4) ≡ 0 = sym (length-drop (n + 4) bs) ∙ eqb-true _ _ e in omega arith)
    not-over false e = refl

    back : eqb (carried_before bs) n and ends last n bs ≡ true → GoodReply n last bs
    back t =
        let c = carries-is n bs h (eqb-true _ _ (and_left (eqb (carried_before bs) n) (ends last n bs) t)) in
        let l : n + 4 ≤ length bs = carries-long n bs c in
        let i : counted (get_or bs 1 0) ≡ n = c.counts in
        record {
          header = c.header;
          fit = sym (unfit-over n last bs (n + 4) last refl i (omega arith) l) ∙ not-over last (and_right (eqb (carried_before bs) n) (ends last n bs) t);
          judged = c.judged;
        }

frames-as-before : (n : ℕ) (ns bs : List ℕ) → Filled (n ∷ ns) → is_good (judge_frames (n ∷ ns) bs) ≡ exactly_before (n ∷ ns) bs
unfolding exactly_before judge_frames
frames-as-before n [] bs (more h f) =
    frames-good n [] bs ∙ ap (λ (x : Bool). x and is_good (judge_frames [] (drop (n + 4) bs))) (reply-carries n true bs h) ∙ and-true (eqb (carried_before bs) n and ends true n bs)
frames-as-before n (m ∷ ns) bs (more h f) =
    frames-good n (m ∷ ns) bs
    ∙ ap (λ (x : Bool). x and is_good (judge_frames (m ∷ ns) (drop (n + 4) bs))) (reply-carries n false bs h ∙ and-true (eqb (carried_before bs) n))
    ∙ ap (λ (x : Bool). eqb (carried_before bs) n and x) (frames-as-before m ns (drop (n + 4) bs) f)

shape-as-before : (f : Form) (s t : ℕ) (bs : List ℕ) → is_good (judge_frames (shape f s t) bs) ≡ exactly_before (shape f s t) bs
unfolding shape
shape-as-before f s t bs = go f
  where
    Same : List ℕ → Type 0
    Same ns = is_good (judge_frames ns bs) ≡ exactly_before ns bs

    one : (n : ℕ) → 1 ≤ n → Same (n ∷ [])
    one n h = frames-as-before n [] bs (more h empty)

    two : (n m : ℕ) → 1 ≤ n → 1 ≤ m → Same (n ∷ m ∷ [])
    two n m h k = frames-as-before n (m ∷ []) bs (more h (more k empty))

    go : (f : Form) → Same (shape f s t)
    go OneStatus = one 1 (omega arith)
    go WithRate = if-both Same (eqb s 0x06) (one 3 (omega arith)) (one 1 (omega arith))
    go WithSignature = if-both Same (eqb s 0x06) (two 1 22 (omega arith) (omega arith)) (one 1 (omega arith))
    go OfPage = one 2 (omega arith)
    go OfLastPage = if-both Same (eqb s 0x06 and eqb t 0x06) (two 2 1 (omega arith) (omega arith)) (one 2 (omega arith))

pub readable-as-before : ReadableAsBefore
unfolding judge_answer readable_before
readable-as-before f bs = shape-as-before f (in_first 0 bs) (in_first 1 bs) bs

pub decoded-as-before : DecodedAsBefore
unfolding read_answer decoded_before
decoded-as-before p supply f bs = rw (readable-as-before f bs)

pub unreadable-fails : UnreadableFails
unfolding after_heard read_answer after_answer if◌then◌otherwise◌
unreadable-fails j used st bs e = rw e

-- What follows a good answer is no failure.
block-named : (j : Job) (k : ℕ) → FaultNamed (block_from j k)
unfolding block_from is_over
block-named j k = if-both FaultNamed (ltb k (blocks_of j)) (goes_on refl) finished

setup-named : (j : Job) (s : Setup) (xs : List Setup) → FaultNamed (after_setup j s xs)
unfolding after_setup setup_from is_over
setup-named j s [] = block-named j 0
setup-named j s (x ∷ xs) = if-both FaultNamed (eqb (com_of (query_at j (SetUp s)).command) (com_of (query_at j (SetUp x)).command)) (from xs) (setup-named j s xs)
  where
    from : (ys : List Setup) → FaultNamed (setup_from j ys)
    from [] = block-named j 0
    from (y ∷ ys) = goes_on refl

work-named : (j : Job) (k : ℕ) (w : Work) → FaultNamed (after_work j k w)
unfolding after_work is_over
work-named j k Blank = goes_on refl
work-named j k Erase = goes_on refl
work-named j k Program = goes_on refl
work-named j k (ProgramPage p) = if-both FaultNamed (last_page j p) (goes_on refl) (goes_on refl)
work-named j k VerifyBlock = goes_on refl
work-named j k (VerifyPage p) = if-both FaultNamed (last_page j p) (block-named j (k + 1)) (goes_on refl)

next-named : (j : Job) (st : Stage) → is_over st ≡ false → FaultNamed (next j st)
unfolding next is_over
next-named j (SetUp s) o = setup-named j s (setup j)
next-named j (InBlock k w) o = work-named j k w
next-named j (Over e) o = absurd (true≢false o)

again-named : (w : Work) (st : Stage) → is_over st ≡ false → FaultNamed (in_block w st)
unfolding in_block is_over
again-named w (SetUp s) o = goes_on refl
again-named w (InBlock k v) o = goes_on refl
again-named w (Over e) o = absurd (true≢false o)

-- Where an answer leads.
abbrev Leads : Turned → Type 0
Leads t = FaultNamed t.stage

status-named : (j : Job) (used : ℕ) (st : Stage) (s : ℕ) (m : Bool) → is_over st ≡ false → Leads (after_status j used st s m)
unfolding after_status retried is_unreadable
status-named j used st s m o =
    if-both Leads (eqb s 0x06) (if-both Leads m (next-named j st o) (failed refl))
    (if-both Leads (says_not_blank j st s) (again-named Erase st o)
    (if-both Leads (eqb s 0x07 or eqb s 0x15) (if-both Leads (ltb used j.retries) (again-named Blank st o) (failed refl)) (failed refl)))

heard-named : (j : Job) (used : ℕ) (st : Stage) (h : Heard) → is_over st ≡ false → Leads (after_heard j used st h)
unfolding after_heard after_answer read_answer is_unreadable if◌then◌otherwise◌
heard-named j used st (answered bs) o = go (judge_answer (query_at j st).form bs) (is_good (judge_answer (query_at j st).form bs)) refl
  where
    go : (fault : Judgement) (g : Bool) → is_good fault ≡ g
        → Leads (after_answer j used st (if g then Some (said_as (deciding (statuses (query_at j st).form bs)) (matching j.part j.supply (query_at j st).form bs)) otherwise None) fault)
    go fault true e = status-named j used st _ _ o
    go fault false e = failed e
heard-named j used st silence o = failed refl

place-named : (j : Job) (used : ℕ) (st : Stage) (hs : List Heard) → FaultNamed st → FaultNamed (place_after j used st hs)
unfolding place_after
place-named j used st [] f = f
place-named j used st (h ∷ hs) f =
    if-all FaultNamed (is_over st) (λ o. f) (λ o. let t = after_heard j used st h in place-named j (used + t.spent) t.stage hs (heard-named j used st h o))

pub failure-names-fault : FailureNamesFault
unfolding flow setup_from setup is_over
failure-names-fault j image hs = place-named j 0 (first_stage j) hs (goes_on refl)
