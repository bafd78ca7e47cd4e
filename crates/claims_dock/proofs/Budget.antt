-- How many frames a stage can still take where nothing is retried, and that every answer pays for the frame it answers: what is still needed, and a
-- block's frames for each retry left, fall by at least one.
-- Assumes nothing.
use mathlib.Core.Bool.{Bool, false, false≢true, true, true≢false}
use mathlib.Core.List.{List, [], ◌∷◌}
use mathlib.Core.Path.{◌≡◌, refl}
use Prim.Native.Nat.{◌*◌, ◌+◌, ◌-◌, ◌<◌, ◌≤◌, ℕ}
use native.Mathlib.Omega.{arith}
use lib.Dec.{eqb, ltb}
use lib.ListN.{length}
use borrow.Author.Tests.{ltb-true}
use Rattle.commands.specs.Commands.{com_of}
use Rattle.dock_answer.specs.Answer.{read_answer}
use Rattle.dock_answer.specs.declared.Said.{Said}
use Rattle.std.specs.Prelude.{Err, None, Ok, Option, Some}
use Rattle.dock_flow.proofs.Laws.{not_last}
use Rattle.dock_flow.specs.Flow.{Heard, after_answer, after_heard, after_setup, after_status, after_work, answered, block_from, failing, fails, first_stage, in_block, leads, next, retried, says_not_blank, setup_from, silence}
use Rattle.dock_flow.specs.Frames.{last_page, query_at, query_with}
use Rattle.dock_flow.specs.declared.Turned.{Turned}
use Rattle.dock_job.proofs.Laws.{block-yes, page-is, page-yes, pages-some, place_is, verified-is}
use Rattle.dock_job.specs.Job.{blocks_of, bound, is_over, pages_of, per_block, setup}
use Rattle.dock_job.specs.Refusals.{good_block, good_ending, good_failure, good_named_block, good_named_page, good_page, good_stage, good_work}
use Rattle.dock_job.specs.declared.Cause.{Cause}
use Rattle.dock_job.specs.declared.Cause.TheVariants.{Mismatch, TimedOut, UnexpectedStatus, Unreadable}
use Rattle.dock_job.specs.declared.Job.{Job}
use Rattle.dock_job.specs.declared.Setup.{Setup}
use Rattle.dock_job.specs.declared.Setup.TheVariants.{BaudRate, ResetChip, SiliconSignature}
use Rattle.dock_job.specs.declared.Stage.{Stage}
use Rattle.dock_job.specs.declared.Stage.TheVariants.{InBlock, Over, SetUp}
use Rattle.dock_job.specs.declared.Work.{Work}
use Rattle.dock_job.specs.declared.Work.TheVariants.{Blank, Erase, Program, ProgramPage, VerifyBlock, VerifyPage}
use Rattle.frame.specs.declared.judgement.Judgement.{Judgement}
use Rattle.frame.specs.declared.judgement.Judgement.TheVariants.{Good}
use Rattle.words.proofs.Laws.{and_both, and_left, if-both}
use Rattle.words.specs.Words.{◌and◌, ◌or◌, if◌then◌otherwise◌}

unfoldable pub work_needs : ℕ → Work → ℕ
work_needs n Blank = 4 + 2 * n
work_needs n Erase = 3 + 2 * n
work_needs n Program = 2 + 2 * n
work_needs n (ProgramPage p) = 1 + (n - p) + n
work_needs n VerifyBlock = 1 + n
work_needs n (VerifyPage p) = n - p

unfoldable pub left_in : Job → Setup → List Setup → ℕ
left_in j s [] = 0
left_in j s (x ∷ xs) = if eqb (com_of (query_at j (SetUp s)).command) (com_of (query_at j (SetUp x)).command) then length (x ∷ xs) otherwise left_in j s xs

unfoldable pub needs : Job → Stage → ℕ
needs j (SetUp s) = left_in j s (setup j) + per_block j * blocks_of j
needs j (InBlock k w) = work_needs (pages_of j) w + per_block j * (blocks_of j - (k + 1))
needs j (Over e) = 0

one_more : (q a b : ℕ) → a ≡ b + 1 → q * a ≡ q * b + q
one_more q a b e = rw e (omega arith)

setup-some : (j : Job) (s : Setup) → 1 ≤ left_in j s (setup j)
unfolding query_with com_of left_in setup if◌then◌otherwise◌
setup-some j BaudRate = omega arith
setup-some j ResetChip = omega arith
setup-some j SiliconSignature = omega arith

work-some : (j : Job) (w : Work) → good_work j w ≡ true → 1 ≤ work_needs (pages_of j) w
unfolding work_needs
work-some j Blank g = omega arith
work-some j Erase g = omega arith
work-some j Program g = omega arith
work-some j (ProgramPage p) g = omega arith
work-some j VerifyBlock g = omega arith
work-some j (VerifyPage p) g = omega (arith, page-is j p (verified-is j p g))

pub needs-some : (j : Job) (st : Stage) → good_stage j st ≡ true → is_over st ≡ false → 1 ≤ needs j st
unfolding needs is_over
needs-some j (SetUp s) g o = omega (arith, setup-some j s)
needs-some j (InBlock k w) g o = omega (arith, work-some j w (place_is j k w g).in-block)
needs-some j (Over e) g o = absurd (true≢false o)

-- What an answer leaves: a good stage, retries within the allowance, and the frame paid.
pub record Kept (j : Job) (used : ℕ) (st : Stage) (t : Turned) : Type 0 where
  pub good : good_stage j t.stage ≡ true
  pub allowed : used + t.spent ≤ j.retries
  pub paid : 1 + needs j t.stage + per_block j * (j.retries - (used + t.spent)) ≤ needs j st + per_block j * (j.retries - used)

-- An answer that spends nothing.
free : (j : Job) (used : ℕ) (st after : Stage) → used ≤ j.retries → good_stage j after ≡ true → 1 + needs j after ≤ needs j st
    → Kept j used st (leads after 0)
free j used st after u g h =
    let z : j.retries - (used + 0) ≡ j.retries - used = omega arith in
    record { good = g; allowed = omega arith; paid = rw z (omega arith) }

-- The first block that is left needs no more than all that are.
record From (j : Job) (k : ℕ) (st : Stage) : Type 0 where
  good : good_stage j st ≡ true
  few : needs j st ≤ per_block j * (blocks_of j - k)

the_rest : (j : Job) (k : ℕ) → From j k (block_from j k)
unfolding block_from if◌then◌otherwise◌ needs work_needs good_stage good_work good_ending
the_rest j k = go (ltb k (blocks_of j)) refl
  where
    go : (t : Bool) → ltb k (blocks_of j) ≡ t → From j k (if t then InBlock k Blank otherwise Over (Ok tt))
    go true e =
        let h : k < blocks_of j = ltb-true k (blocks_of j) e in
        let m = one_more (per_block j) (blocks_of j - k) (blocks_of j - (k + 1)) (omega arith) in
        record { good = and_both (block-yes j k h) refl; few = omega arith }
    go false e = record { good = refl; few = omega arith }

setup-kept : (j : Job) (used : ℕ) (s : Setup) → used ≤ j.retries → Kept j used (SetUp s) (leads (after_setup j s (setup j)) 0)
unfolding query_with com_of after_setup setup_from setup left_in if◌then◌otherwise◌ needs good_stage
setup-kept j used BaudRate u = free j used (SetUp BaudRate) (SetUp ResetChip) u refl (omega arith)
setup-kept j used ResetChip u = free j used (SetUp ResetChip) (SetUp SiliconSignature) u refl (omega arith)
setup-kept j used SiliconSignature u =
    let z : blocks_of j - 0 ≡ blocks_of j = omega arith in
    let q : needs j (block_from j 0) ≤ per_block j * blocks_of j = rw z at (the_rest j 0).few in
    free j used (SetUp SiliconSignature) (block_from j 0) u (the_rest j 0).good (omega arith)

module _ (j : Job) (used k : ℕ) (u : used ≤ j.retries) (b : good_block j k ≡ true) where
  -- To another frame of the block.
  within : (w v : Work) → good_work j v ≡ true → 1 + work_needs (pages_of j) v ≤ work_needs (pages_of j) w → Kept j used (InBlock k w) (leads (InBlock k v) 0)
  unfolding needs good_stage
  within w v g h = free j used (InBlock k w) (InBlock k v) u (and_both b g) (omega arith)

  stored-kept : (p : ℕ) → good_page j p ≡ true → Kept j used (InBlock k (ProgramPage p)) (leads (after_work j k (ProgramPage p)) 0)
  unfolding after_work if◌then◌otherwise◌ work_needs good_work
  stored-kept p g = go (last_page j p) refl
    where
      go : (t : Bool) → last_page j p ≡ t
          → Kept j used (InBlock k (ProgramPage p)) (leads (if t then InBlock k VerifyBlock otherwise InBlock k (ProgramPage (p + 1))) 0)
      go true e = within (ProgramPage p) VerifyBlock refl (omega (arith, page-is j p g))
      go false e =
          let n = not_last j p e in
          within (ProgramPage p) (ProgramPage (p + 1)) (page-yes j (p + 1) n) (omega arith)

  verified-kept : (p : ℕ) → good_page j p ≡ true → Kept j used (InBlock k (VerifyPage p)) (leads (after_work j k (VerifyPage p)) 0)
  unfolding after_work if◌then◌otherwise◌ work_needs good_work needs
  verified-kept p g = go (last_page j p) refl
    where
      go : (t : Bool) → last_page j p ≡ t
          → Kept j used (InBlock k (VerifyPage p)) (leads (if t then block_from j (k + 1) otherwise InBlock k (VerifyPage (p + 1))) 0)
      go true e =
          free j used (InBlock k (VerifyPage p)) (block_from j (k + 1)) u (the_rest j (k + 1)).good (omega (arith, (the_rest j (k + 1)).few, page-is j p g))
      go false e =
          let n = not_last j p e in
          within (VerifyPage p) (VerifyPage (p + 1)) (page-yes j (p + 1) n) (omega arith)

  work-kept : (w : Work) → good_work j w ≡ true → Kept j used (InBlock k w) (leads (after_work j k w) 0)
  unfolding after_work work_needs good_work
  work-kept Blank g = within Blank Program refl (omega arith)
  work-kept Erase g = within Erase Program refl (omega arith)
  work-kept Program g = within Program (ProgramPage 0) (page-yes j 0 (pages-some j)) (omega arith)
  work-kept (ProgramPage p) g = stored-kept p g
  work-kept VerifyBlock g = within VerifyBlock (VerifyPage 0) (page-yes j 0 (pages-some j)) (omega arith)
  work-kept (VerifyPage p) g = verified-kept p g

next-kept : (j : Job) (used : ℕ) (st : Stage) → used ≤ j.retries → good_stage j st ≡ true → is_over st ≡ false → Kept j used st (leads (next j st) 0)
unfolding next is_over
next-kept j used (SetUp s) u g o = setup-kept j used s u
next-kept j used (InBlock k w) u g o = work-kept j used k u (place_is j k w g).in-job w (place_is j k w g).in-block
next-kept j used (Over e) u g o = absurd (true≢false o)

failing-good : (j : Job) (c : Cause) (s : ℕ) (fault : Judgement) (st : Stage) → good_stage j st ≡ true
    → good_failure j (failing c s fault (query_at j st)) ≡ true
unfolding good_failure good_named_block good_named_page query_with com_of good_work ◌and◌
failing-good j c s fault (SetUp BaudRate) g = refl
failing-good j c s fault (SetUp ResetChip) g = refl
failing-good j c s fault (SetUp SiliconSignature) g = refl
failing-good j c s fault (InBlock k Blank) g = and_both (place_is j k Blank g).in-job refl
failing-good j c s fault (InBlock k Erase) g = and_both (place_is j k Erase g).in-job refl
failing-good j c s fault (InBlock k Program) g = and_both (place_is j k Program g).in-job refl
failing-good j c s fault (InBlock k (ProgramPage p)) g = let q = place_is j k (ProgramPage p) g in and_both q.in-job q.in-block
failing-good j c s fault (InBlock k VerifyBlock) g = and_both (place_is j k VerifyBlock g).in-job refl
failing-good j c s fault (InBlock k (VerifyPage p)) g = let q = place_is j k (VerifyPage p) g in and_both q.in-job q.in-block
failing-good j c s fault (Over e) g = refl

fails-kept : (j : Job) (used : ℕ) (st : Stage) (c : Cause) (s : ℕ) (fault : Judgement) → used ≤ j.retries → good_stage j st ≡ true → is_over st ≡ false
    → Kept j used st (fails j c s fault st)
unfolding needs good_stage good_ending
fails-kept j used st c s fault u g o =
    free j used st (Over (Err (failing c s fault (query_at j st)))) u (failing-good j c s fault st g) (omega (arith, needs-some j st g o))

restart-good : (j : Job) (st : Stage) → good_stage j st ≡ true → good_stage j (in_block Blank st) ≡ true
unfolding in_block good_stage good_work
restart-good j (SetUp s) g = refl
restart-good j (InBlock k w) g = and_both (place_is j k w g).in-job refl
restart-good j (Over e) g = g

-- A restart needs at most a block's frames more, less the one that was answered.
restart-few : (j : Job) (st : Stage) → good_stage j st ≡ true → is_over st ≡ false → 1 + needs j (in_block Blank st) ≤ needs j st + per_block j
unfolding in_block needs is_over work_needs
restart-few j (SetUp s) g o = omega arith
restart-few j (InBlock k w) g o = omega (arith, work-some j w (place_is j k w g).in-block)
restart-few j (Over e) g o = absurd (true≢false o)

retried-kept : (j : Job) (used : ℕ) (st : Stage) (s : ℕ) → used ≤ j.retries → good_stage j st ≡ true → is_over st ≡ false → Kept j used st (retried j used st s)
unfolding retried if◌then◌otherwise◌
retried-kept j used st s u g o = go (ltb used j.retries) refl
  where
    go : (t : Bool) → ltb used j.retries ≡ t → Kept j used st (if t then leads (in_block Blank st) 1 otherwise fails j UnexpectedStatus s Good st)
    go true e =
        let h : used < j.retries = ltb-true used j.retries e in
        let m = one_more (per_block j) (j.retries - used) (j.retries - (used + 1)) (omega arith) in
        record { good = restart-good j st g; allowed = omega arith; paid = omega (arith, restart-few j st g o) }
    go false e = fails-kept j used st UnexpectedStatus s Good u g o

-- 22h comes only after 32h.
erasing-kept : (j : Job) (used : ℕ) (st : Stage) (s : ℕ) → used ≤ j.retries → good_stage j st ≡ true → says_not_blank j st s ≡ true
    → Kept j used st (leads (in_block Erase st) 0)
unfolding says_not_blank in_block query_with com_of good_work work_needs
erasing-kept j used (SetUp BaudRate) s u g n = absurd (false≢true (and_left _ _ n))
erasing-kept j used (SetUp ResetChip) s u g n = absurd (false≢true (and_left _ _ n))
erasing-kept j used (SetUp SiliconSignature) s u g n = absurd (false≢true (and_left _ _ n))
erasing-kept j used (InBlock k Blank) s u g n = within j used k u (place_is j k Blank g).in-job Blank Erase refl (omega arith)
erasing-kept j used (InBlock k Erase) s u g n = absurd (false≢true (and_left _ _ n))
erasing-kept j used (InBlock k Program) s u g n = absurd (false≢true (and_left _ _ n))
erasing-kept j used (InBlock k (ProgramPage p)) s u g n = absurd (false≢true (and_left _ _ n))
erasing-kept j used (InBlock k VerifyBlock) s u g n = absurd (false≢true (and_left _ _ n))
erasing-kept j used (InBlock k (VerifyPage p)) s u g n = absurd (false≢true (and_left _ _ n))
erasing-kept j used (Over e) s u g n = absurd (false≢true (and_left _ _ n))

status-kept : (j : Job) (used : ℕ) (st : Stage) (s : ℕ) (m : Bool) → used ≤ j.retries → good_stage j st ≡ true → is_over st ≡ false
    → Kept j used st (after_status j used st s m)
unfolding after_status if◌then◌otherwise◌
status-kept j used st s m u g o =
    if-both (Kept j used st) (eqb s 0x06)
    (if-both (Kept j used st) m (next-kept j used st u g o) (fails-kept j used st Mismatch 0x06 Good u g o))
    (go (says_not_blank j st s) refl)
  where
    go : (t : Bool) → says_not_blank j st s ≡ t
        → Kept j used st (if t then leads (in_block Erase st) 0 otherwise if eqb s 0x07 or eqb s 0x15 then retried j used st s otherwise fails j UnexpectedStatus s Good st)
    go true e = erasing-kept j used st s u g e
    go false e = if-both (Kept j used st) (eqb s 0x07 or eqb s 0x15) (retried-kept j used st s u g o) (fails-kept j used st UnexpectedStatus s Good u g o)

pub heard-kept : (j : Job) (used : ℕ) (st : Stage) (h : Heard) → used ≤ j.retries → good_stage j st ≡ true → is_over st ≡ false
    → Kept j used st (after_heard j used st h)
unfolding after_heard after_answer
heard-kept j used st (answered bs) u g o = let a = read_answer j.part j.supply (query_at j st).form bs in go a.decoded a.fault
  where
    go : (d : Option Said) (fault : Judgement) → Kept j used st (after_answer j used st d fault)
    go (Some said) fault = status-kept j used st said.status said.matches u g o
    go None fault = fails-kept j used st Unreadable 0x00 fault u g o
heard-kept j used st silence u g o = fails-kept j used st TimedOut 0x00 Good u g o

-- At the start what is needed, and a block's frames for each retry allowed, are the bound.
pub start-needs : (j : Job) → needs j (first_stage j) + per_block j * j.retries ≡ bound j
unfolding query_with com_of needs setup_from setup left_in if◌then◌otherwise◌ bound
start-needs j = omega arith

pub start-good : (j : Job) → good_stage j (first_stage j) ≡ true
unfolding good_stage setup_from setup
start-good j = refl
