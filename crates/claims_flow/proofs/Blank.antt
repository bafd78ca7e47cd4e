-- The proofs of `WritesWhereBlank`, `PagesInOrder` and `BeginsBefore`.
-- Assumes nothing.
use mathlib.Core.List.{List, [], ◌∷◌}
use mathlib.Core.Path.{◌∙◌, ◌≡◌, ap, refl, sym}
use Prim.Native.Nat.{◌+◌, ℕ}
use native.Mathlib.Omega.{arith}
use borrow.Author.Tests.{eqb-true}
use Rattle.claims_flow.specs.Blank.{BeforePage, BeforeWriting, BeginsBefore, PagesInOrder, SaysYes, WritesWhereBlank, first_page, later_page, was_blank, was_erased}
use Rattle.dock_answer.specs.Answer.{read_answer, said_as}
use Rattle.dock_answer.specs.declared.Said.{Said}
use Rattle.std.specs.Prelude.{None, Option, Some}
use Rattle.dock_flow.specs.Flow.{Heard, after_answer, after_heard, after_setup, after_status, after_work, answered, block_from, in_block, next, retried, setup_from, silence}
use Rattle.dock_flow.specs.Frames.{query_at}
use Rattle.dock_flow.specs.declared.Turned.{Turned}
use Rattle.dock_job.specs.Job.{setup}
use Rattle.dock_job.specs.declared.Job.{Job}
use Rattle.dock_job.specs.declared.Setup.{Setup}
use Rattle.dock_job.specs.declared.Stage.{Stage}
use Rattle.dock_job.specs.declared.Stage.TheVariants.{InBlock, Over, SetUp}
use Rattle.dock_job.specs.declared.Work.{Work}
use Rattle.dock_job.specs.declared.Work.TheVariants.{Blank, Erase, Program, ProgramPage, VerifyBlock, VerifyPage}
use Rattle.frame.specs.declared.judgement.Judgement.{Judgement}
use Rattle.words.proofs.Laws.{if-all}

-- What a stage sends: 40h, a page of it, or another frame, or none.
work_kind : Work → ℕ
work_kind Blank = 0
work_kind Erase = 0
work_kind Program = 1
work_kind (ProgramPage p) = 2
work_kind VerifyBlock = 0
work_kind (VerifyPage p) = 0

kind : Stage → ℕ
kind (SetUp s) = 0
kind (InBlock k w) = work_kind w
kind (Over e) = 0

-- The block and the page that it is about.
block_in : Stage → ℕ
block_in (SetUp s) = 0
block_in (InBlock k w) = k
block_in (Over e) = 0

page_of_work : Work → ℕ
page_of_work Blank = 0
page_of_work Erase = 0
page_of_work Program = 0
page_of_work (ProgramPage p) = p
page_of_work VerifyBlock = 0
page_of_work (VerifyPage p) = 0

page_in : Stage → ℕ
page_in (SetUp s) = 0
page_in (InBlock k w) = page_of_work w
page_in (Over e) = 0

block-other : (j : Job) (k : ℕ) → kind (block_from j k) ≡ 0
unfolding block_from kind work_kind
block-other j k = if-all (λ (st : Stage). kind st ≡ 0) _ (λ t. refl) (λ t. refl)

setup-other : (j : Job) (ss : List Setup) → kind (setup_from j ss) ≡ 0
unfolding setup_from kind
setup-other j [] = block-other j 0
setup-other j (s ∷ ss) = refl

after-setup : (j : Job) (s : Setup) (ss : List Setup) → kind (after_setup j s ss) ≡ 0
unfolding after_setup
after-setup j s [] = block-other j 0
after-setup j s (x ∷ xs) = if-all (λ (st : Stage). kind st ≡ 0) _ (λ t. setup-other j xs) (λ t. after-setup j s xs)

restarts : (w : Work) → work_kind w ≡ 0 → (st : Stage) → kind (in_block w st) ≡ 0
unfolding in_block kind
restarts w e (SetUp s) = refl
restarts w e (InBlock k v) = e
restarts w e (Over x) = refl

-- An answer said 06h and what follows comes next; or it leads to no 40h and to no page of it.
data Leads (j : Job) (st : Stage) (h : Heard) (to : Stage) : Type 0 where
  elsewhere : kind to ≡ 0 → Leads j st h to
  goes_on : SaysYes j st h → to ≡ next j st → Leads j st h to

leads-to : (j : Job) (used : ℕ) (st : Stage) (h : Heard) → Leads j st h (after_heard j used st h).stage
unfolding after_heard after_answer after_status retried kind work_kind
leads-to j used st silence = elsewhere refl
leads-to j used st (answered bs) = go (read_answer j.part j.supply (query_at j st).form bs).decoded refl
  where
    f : Judgement
    f = (read_answer j.part j.supply (query_at j st).form bs).fault

    at : Turned → Type 0
    at t = Leads j st (answered bs) t.stage

    go : (d : Option Said) → (read_answer j.part j.supply (query_at j st).form bs).decoded ≡ d → Leads j st (answered bs) (after_answer j used st d f).stage
    go None e = elsewhere refl
    go (Some said) e =
        if-all at _
        (λ t. if-all at _
        (λ u. goes_on (record { bytes = bs; matches = said.matches; came = refl; says = e ∙ ap (λ (n : ℕ). (Some (said_as n said.matches))) (eqb-true said.status 0x06 t) }) refl) (λ u. elsewhere refl))
        (λ t. if-all at _ (λ u. elsewhere (restarts Erase refl st))
        (λ u. if-all at _ (λ x. if-all at _ (λ y. elsewhere (restarts Blank refl st)) (λ y. elsewhere refl)) (λ x. elsewhere refl)))

-- What comes next is 40h after 32h and 22h alone, and a page after 40h and after a page.
page-next : (j : Job) (k p : ℕ) → (kind (after_work j k (ProgramPage p)) ≡ 1 → ⊥)
unfolding after_work kind work_kind
page-next j k p = if-all (λ (st : Stage). kind st ≡ 1 → ⊥) _ (λ t e. omega arith) (λ t e. omega arith)

verify-next : (j : Job) (k p : ℕ) → kind (after_work j k (VerifyPage p)) ≡ 0
unfolding after_work kind work_kind
verify-next j k p = if-all (λ (st : Stage). kind st ≡ 0) _ (λ t. block-other j (k + 1)) (λ t. refl)

pub writes-where-blank : WritesWhereBlank
unfolding kind work_kind block_in next after_work
writes-where-blank j used k st h e = go (leads-to j used st h)
  where
    after : Stage
    after = (after_heard j used st h).stage

    one : kind after ≡ 1
    one = ap kind e

    from : (x : Stage) → st ≡ x → SaysYes j st h → after ≡ next j x → BeforeWriting j k st h
    from (SetUp s) q y n = absurd (let z : ◌≡◌ {A = ℕ} 0 1 = sym (after-setup j s (setup j)) ∙ sym (ap kind n) ∙ one in omega arith)
    from (InBlock i Blank) q y n = was_blank (q ∙ ap (λ (b : ℕ). InBlock b Blank) (ap block_in (sym n ∙ e))) y
    from (InBlock i Erase) q y n = was_erased (q ∙ ap (λ (b : ℕ). InBlock b Erase) (ap block_in (sym n ∙ e))) y
    from (InBlock i Program) q y n = absurd (let z : ◌≡◌ {A = ℕ} 2 1 = sym (ap kind n) ∙ one in omega arith)
    from (InBlock i (ProgramPage p)) q y n = absurd (page-next j i p (sym (ap kind n) ∙ one))
    from (InBlock i VerifyBlock) q y n = absurd (let z : ◌≡◌ {A = ℕ} 0 1 = sym (ap kind n) ∙ one in omega arith)
    from (InBlock i (VerifyPage p)) q y n = absurd (let z : ◌≡◌ {A = ℕ} 0 1 = sym (verify-next j i p) ∙ sym (ap kind n) ∙ one in omega arith)
    from (Over x) q y n = absurd (let z : ◌≡◌ {A = ℕ} 0 1 = sym (ap kind n) ∙ one in omega arith)

    go : Leads j st h after → BeforeWriting j k st h
    go (elsewhere z) = absurd (let x : ◌≡◌ {A = ℕ} 0 1 = sym z ∙ one in omega arith)
    go (goes_on y n) = from st refl y n

-- After a page comes the page behind it, or none.
data After (j : Job) (k p : ℕ) (to : Stage) : Type 0 where
  not_page : kind to ≡ 0 → After j k p to
  page_behind : to ≡ InBlock k (ProgramPage (p + 1)) → After j k p to

page-after : (j : Job) (k p : ℕ) → After j k p (after_work j k (ProgramPage p))
unfolding after_work kind work_kind
page-after j k p = if-all (After j k p) _ (λ t. not_page refl) (λ t. page_behind refl)

pub pages-in-order : PagesInOrder
unfolding kind work_kind block_in page_of_work page_in next after_work
pages-in-order j used k page st h e = go (leads-to j used st h)
  where
    after : Stage
    after = (after_heard j used st h).stage

    two : kind after ≡ 2
    two = ap kind e

    behind : (i p : ℕ) → st ≡ InBlock i (ProgramPage p) → SaysYes j st h → after ≡ after_work j i (ProgramPage p) → After j i p (after_work j i (ProgramPage p))
        → BeforePage j k page st h
    behind i p q y n (not_page z) = absurd (let x : ◌≡◌ {A = ℕ} 0 2 = sym z ∙ sym (ap kind n) ∙ two in omega arith)
    behind i p q y n (page_behind z) =
        let x : InBlock i (ProgramPage (p + 1)) ≡ InBlock k (ProgramPage page) = sym z ∙ sym n ∙ e in
        later_page p (ap page_in (sym x)) (q ∙ ap (λ (b : ℕ). InBlock b (ProgramPage p)) (ap block_in x)) y

    from : (x : Stage) → st ≡ x → SaysYes j st h → after ≡ next j x → BeforePage j k page st h
    from (SetUp s) q y n = absurd (let z : ◌≡◌ {A = ℕ} 0 2 = sym (after-setup j s (setup j)) ∙ sym (ap kind n) ∙ two in omega arith)
    from (InBlock i Blank) q y n = absurd (let z : ◌≡◌ {A = ℕ} 1 2 = sym (ap kind n) ∙ two in omega arith)
    from (InBlock i Erase) q y n = absurd (let z : ◌≡◌ {A = ℕ} 1 2 = sym (ap kind n) ∙ two in omega arith)
    from (InBlock i Program) q y n = first_page (ap page_in (sym e ∙ n)) (q ∙ ap (λ (b : ℕ). InBlock b Program) (ap block_in (sym n ∙ e))) y
    from (InBlock i (ProgramPage p)) q y n = behind i p q y n (page-after j i p)
    from (InBlock i VerifyBlock) q y n = absurd (let z : ◌≡◌ {A = ℕ} 0 2 = sym (ap kind n) ∙ two in omega arith)
    from (InBlock i (VerifyPage p)) q y n = absurd (let z : ◌≡◌ {A = ℕ} 0 2 = sym (verify-next j i p) ∙ sym (ap kind n) ∙ two in omega arith)
    from (Over x) q y n = absurd (let z : ◌≡◌ {A = ℕ} 0 2 = sym (ap kind n) ∙ two in omega arith)

    go : Leads j st h after → BeforePage j k page st h
    go (elsewhere z) = absurd (let x : ◌≡◌ {A = ℕ} 0 2 = sym z ∙ two in omega arith)
    go (goes_on y n) = from st refl y n

pub begins-before : BeginsBefore
unfolding kind work_kind
begins-before j =
    record {
      command = λ k e. let z : ◌≡◌ {A = ℕ} 0 1 = sym (setup-other j (setup j)) ∙ ap kind e in omega arith;
      page = λ k p e. let z : ◌≡◌ {A = ℕ} 0 2 = sym (setup-other j (setup j)) ∙ ap kind e in omega arith;
    }
