-- The retries of the flow are the restarts counted by what was heard, and the one result that the stepped dock reports has that number.
-- Assumes nothing.
use mathlib.Core.Bool.{Bool, false, not, true}
use mathlib.Core.List.{List, [], ◌∷◌}
use mathlib.Core.Path.{◌∙◌, ◌≡◌, ap, refl}
use Prim.Native.Nat.{◌+◌, ◌≤◌, ℕ}
use lib.Dec.{eqb, ltb}
use lib.ListN.{length}
use borrow.Author.Tests.{eqb-true}
use Rattle.claims_dock.proofs.Stepped.{dock-is-flow}
use Rattle.claims_dock.specs.Counted.{asks_again, restart, restarts, restarts_over, says_again}
use Rattle.claims_dock.specs.Stepping.{result_at, results_in, stepping}
use Rattle.dock.specs.Calls.{begin_of}
use Rattle.dock_answer.specs.Answer.{read_answer}
use Rattle.dock_answer.specs.declared.Said.{Said}
use Rattle.std.specs.Prelude.{None, Ok, Option, Some}
use Rattle.dock_flow.specs.Flow.{Heard, after_answer, after_heard, after_status, answered, exchanges, fails, first_stage, flow, in_block, leads, next, retried, says_not_blank, silence, spent_in}
use Rattle.dock_flow.specs.Frames.{frame_at, query_at}
use Rattle.dock_flow.specs.declared.Turned.{Turned}
use Rattle.dock_job.specs.Job.{is_over}
use Rattle.dock_job.specs.Refusals.{call_verdict}
use Rattle.dock_job.specs.declared.Cause.{Cause}
use Rattle.dock_job.specs.declared.Cause.TheVariants.{Mismatch, TimedOut, UnexpectedStatus, Unreadable}
use Rattle.dock_job.specs.declared.Job.{Job}
use Rattle.dock_job.specs.declared.Stage.{Stage}
use Rattle.dock_job.specs.declared.Stage.TheVariants.{InBlock, Over, SetUp}
use Rattle.dock_job.specs.declared.Work.TheVariants.{Blank, Erase}
use Rattle.dock_job.specs.declared.refusals.Call.TheVariants.{Begins}
use Rattle.frame.specs.declared.judgement.Judgement.{Judgement}
use Rattle.frame.specs.declared.judgement.Judgement.TheVariants.{Good}
use Rattle.words.proofs.Laws.{and_right, if-both}
use Rattle.words.specs.Words.{◌and◌, ◌or◌, if◌then◌otherwise◌}

-- What an answer spends, by whether it asks again and whether the job goes on after it.
record Counts (again : Bool) (t : Turned) : Type 0 where
  spends : t.spent ≡ (if again and not (is_over t.stage) then 1 otherwise 0)

-- An answer that does not ask again spends nothing; nor does one after which the job is over.
not-again : (again : Bool) (st : Stage) → again ≡ false → Counts again (leads st 0)
unfolding ◌and◌ if◌then◌otherwise◌
not-again again st e = record { spends = rw e }

over-after : (again : Bool) (j : Job) (c : Cause) (s : ℕ) (fault : Judgement) (st : Stage) → Counts again (fails j c s fault st)
unfolding is_over ◌and◌ if◌then◌otherwise◌
over-after true j c s fault st = record { spends = refl }
over-after false j c s fault st = record { spends = refl }

restart-goes-on : (st : Stage) → is_over st ≡ false → is_over (in_block Blank st) ≡ false
unfolding is_over in_block
restart-goes-on (SetUp s) o = refl
restart-goes-on (InBlock k w) o = refl
restart-goes-on (Over e) o = o

retried-counts : (j : Job) (used : ℕ) (st : Stage) (s : ℕ) → is_over st ≡ false → Counts true (retried j used st s)
unfolding retried ◌and◌ if◌then◌otherwise◌
retried-counts j used st s o = go (ltb used j.retries)
  where
    go : (t : Bool) → Counts true (if t then leads (in_block Blank st) 1 otherwise fails j UnexpectedStatus s Good st)
    go true = record { spends = rw (restart-goes-on st o) }
    go false = over-after true j UnexpectedStatus s Good st

abbrev again : ℕ → Bool
again s = eqb s 0x07 or eqb s 0x15

-- 06h and 1Bh do not ask again.
other-status : (s n : ℕ) → eqb s n ≡ true → again n ≡ false → again s ≡ false
other-status s n e f = ap again (eqb-true s n e) ∙ f

status-counts : (j : Job) (used : ℕ) (st : Stage) (s : ℕ) (m : Bool) → is_over st ≡ false → Counts (again s) (after_status j used st s m)
unfolding after_status says_not_blank ◌or◌ if◌then◌otherwise◌
status-counts j used st s m o = expected (eqb s 0x06) refl
  where
    asked : (t : Bool) → again s ≡ t → Counts (again s) (if t then retried j used st s otherwise fails j UnexpectedStatus s Good st)
    asked true e = rw e (retried-counts j used st s o)
    asked false e = over-after (again s) j UnexpectedStatus s Good st

    not_blank : (t : Bool) → says_not_blank j st s ≡ t
        → Counts (again s) (if t then leads (in_block Erase st) 0 otherwise if again s then retried j used st s otherwise fails j UnexpectedStatus s Good st)
    not_blank true e = not-again (again s) (in_block Erase st) (other-status s 0x1B (and_right _ _ e) refl)
    not_blank false e = asked (again s) refl

    expected : (t : Bool) → eqb s 0x06 ≡ t
        → Counts (again s)
        (if t then (if m then leads (next j st) 0 otherwise fails j Mismatch 0x06 Good st)
        otherwise if says_not_blank j st s then leads (in_block Erase st) 0
        otherwise if again s then retried j used st s
        otherwise fails j UnexpectedStatus s Good st)
    expected true e = if-both (Counts (again s)) m (not-again (again s) (next j st) (other-status s 0x06 e refl)) (over-after (again s) j Mismatch 0x06 Good st)
    expected false e = not_blank (says_not_blank j st s) refl

heard-counts : (j : Job) (used : ℕ) (st : Stage) (h : Heard) → is_over st ≡ false → (after_heard j used st h).spent ≡ restart j st h (after_heard j used st h).stage
unfolding after_heard restart says_again after_answer asks_again
heard-counts j used st (answered bs) o = let a = read_answer j.part j.supply (query_at j st).form bs in go a.decoded a.fault
  where
    go : (d : Option Said) (fault : Judgement)
        → (after_answer j used st d fault).spent ≡ (if asks_again d and not (is_over (after_answer j used st d fault).stage) then 1 otherwise 0)
    go (Some said) fault = (status-counts j used st said.status said.matches o).spends
    go None fault = (over-after false j Unreadable 0x00 fault st).spends
heard-counts j used st silence o = (over-after false j TimedOut 0x00 Good st).spends

spent-counted : (j : Job) (image : List ℕ) (used : ℕ) (st : Stage) (hs : List Heard) → spent_in (exchanges j image used st hs) ≡ restarts j used st hs
unfolding exchanges spent_in restarts if◌then◌otherwise◌
spent-counted j image used st [] = refl
spent-counted j image used st (h ∷ hs) =
    go (is_over st) refl (spent-counted j image (used + (after_heard j used st h).spent) (after_heard j used st h).stage hs)
  where
    go : (o : Bool) → is_over st ≡ o
        → spent_in (exchanges j image (used + (after_heard j used st h).spent) (after_heard j used st h).stage hs)
        ≡ restarts j (used + (after_heard j used st h).spent) (after_heard j used st h).stage hs
        → spent_in (if o then [] otherwise record { frame = frame_at j image st; spends = (after_heard j used st h).spent } ∷ exchanges j image (used + (after_heard j used st h).spent) (after_heard j used st h).stage hs)
        ≡ (if o then 0
        otherwise restart j st h (after_heard j used st h).stage + restarts j (used + restart j st h (after_heard j used st h).stage) (after_heard j used st h).stage hs)
    go true o rest = refl
    go false o rest =
        let t = after_heard j used st h in
        ap (λ (n : ℕ). t.spent + n) rest ∙ ap (λ (n : ℕ). n + restarts j (used + n) t.stage hs) (heard-counts j used st h o)

pub retries-counted : (j : Job) (image : List ℕ) (hs : List Heard) → (flow j image hs).spent ≡ restarts_over j hs
unfolding flow
retries-counted j image hs = spent-counted j image 0 (first_stage j) hs

-- The result of the stepped dock, where the flow is over: its ending, the number of frames sent, and the number of restarts; and no other.
pub result-counted : (j : Job) (image room : List ℕ) (hs : List Heard) → call_verdict j (length image) Begins ≡ Ok tt → 260 ≤ length room
    → results_in (stepping j image room (begin_of j image).dock hs).reports ≡ result_at (flow j image hs).place (length (flow j image hs).sent) (restarts_over j hs)
result-counted j image room hs v r =
    (dock-is-flow j image room hs v r).same_results
    ∙ ap (λ (n : ℕ). result_at (flow j image hs).place (length (flow j image hs).sent) n) (retries-counted j image hs)
