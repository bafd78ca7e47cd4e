-- Laws about the flow: pages that are not the last, and retries within the allowance.
-- Assumes nothing.
use mathlib.Core.Bool.{Bool, false, true}
use mathlib.Core.Path.{◌≡◌, refl}
use Prim.Native.Nat.{◌+◌, ◌<◌, ◌^◌, ◌≤◌, ℕ}
use native.Mathlib.Omega.{arith}
use lib.Dec.{eqb, ltb}
use borrow.Author.Tests.{leb-false, ltb-true}
use Rattle.dock_answer.specs.Answer.{read_answer}
use Rattle.dock_answer.specs.declared.Said.{Said}
use Rattle.std.specs.Prelude.{None, Option, Some}
use Rattle.dock_flow.specs.Flow.{Heard, after_answer, after_heard, after_status, after_timeout, answered, fails, in_block, leads, retried, says_not_blank, silence}
use Rattle.dock_flow.specs.Frames.{last_page, query_at}
use Rattle.dock_flow.specs.declared.Turned.{Turned}
use Rattle.dock_job.specs.Job.{area_of, pages_of}
use Rattle.dock_job.specs.declared.Cause.TheVariants.{UnexpectedStatus}
use Rattle.dock_job.specs.declared.Job.{Job}
use Rattle.dock_job.specs.declared.Stage.{Stage}
use Rattle.dock_job.specs.declared.Work.TheVariants.{Blank}
use Rattle.frame.specs.declared.judgement.Judgement.{Judgement}
use Rattle.frame.specs.declared.judgement.Judgement.TheVariants.{Good}
use Rattle.part.proofs.Laws.{pages-small}
use Rattle.words.proofs.Laws.{if-both}
use Rattle.words.specs.Words.{◌or◌, if◌then◌otherwise◌}

-- A page that is not the last has one after it, which is a number of 32 bits.
pub not_last : (j : Job) (p : ℕ) → last_page j p ≡ false → p + 1 < pages_of j
unfolding last_page
not_last j p e = leb-false _ _ e

pub not-last-small : (j : Job) (p : ℕ) → last_page j p ≡ false → p + 1 < 2 ^ 32
not-last-small j p e = omega (arith, not_last j p e, pages-small j.part (area_of j))

-- "retries stop at the job's allowance": what an answer spends is still allowed.
pub record Within (j : Job) (used : ℕ) (t : Turned) : Type 0 where
  pub allowed : used + t.spent ≤ j.retries

within_none : (j : Job) (used : ℕ) (st : Stage) → used ≤ j.retries → Within j used (leads st 0)
within_none j used st h = record { allowed = omega arith }

retried-within : (j : Job) (used : ℕ) (st : Stage) (s : ℕ) → used ≤ j.retries → Within j used (retried j used st s)
unfolding retried if◌then◌otherwise◌
retried-within j used st s h = go (ltb used j.retries) refl
  where
    go : (t : Bool) → ltb used j.retries ≡ t → Within j used (if t then leads (in_block Blank st) 1 otherwise fails j UnexpectedStatus s Good st)
    go true e = record { allowed = omega (arith, ltb-true used j.retries e) }
    go false e = within_none j used _ h

status-within : (j : Job) (used : ℕ) (st : Stage) (s : ℕ) (m : Bool) → used ≤ j.retries → Within j used (after_status j used st s m)
unfolding after_status
status-within j used st s m h =
    if-both (Within j used) (eqb s 0x06) (if-both (Within j used) m (within_none j used _ h) (within_none j used _ h))
    (if-both (Within j used) (says_not_blank j st s) (within_none j used _ h)
    (if-both (Within j used) (eqb s 0x07 or eqb s 0x15) (retried-within j used st s h) (within_none j used _ h)))

pub answer-within : (j : Job) (used : ℕ) (st : Stage) (d : Option Said) (fault : Judgement) → used ≤ j.retries → Within j used (after_answer j used st d fault)
unfolding after_answer
answer-within j used st (Some said) fault h = status-within j used st said.status said.matches h
answer-within j used st None fault h = within_none j used _ h

pub heard-within : (j : Job) (used : ℕ) (st : Stage) (h : Heard) → used ≤ j.retries → Within j used (after_heard j used st h)
unfolding after_heard
heard-within j used st (answered bs) l =
    let a = read_answer j.part j.supply (query_at j st).form bs in
    answer-within j used st a.decoded a.fault l
heard-within j used st silence l = within_none j used _ l

pub heard-silence : (j : Job) (used : ℕ) (st : Stage) → after_heard j used st silence ≡ after_timeout j st
unfolding after_heard
heard-silence j used st = refl
