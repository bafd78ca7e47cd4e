-- The layout of a dock's state: a dock that is written is read back the same, and bytes that are a state are written back the same.
-- Assumes nothing.
use mathlib.Core.Bool.{Bool, true}
use mathlib.Core.List.{List}
use mathlib.Core.Path.{◌∙◌, ◌≡◌, ap, refl}
use Prim.Native.Nat.{◌<◌, ◌^◌, ℕ}
use lib.Dec.{eqb}
use Rattle.claims_door.proofs.Back.{together, together-is}
use Rattle.claims_door.specs.Docked.{HeldDock}
use Rattle.dock_layout.specs.Layout.{cause_in, cause_number, dock_in, ending_in, fault_at, flat, flat_ending, flat_in, flat_of, flat_work, is_dock, is_named, dock_bytes, bytes_with, judgement_in, named, named_in, setup_in, stage_in, work_in}
use Rattle.dock_layout.specs.declared.Flat.{Flat}
use Rattle.dock_job.specs.declared.Cause.{Cause}
use Rattle.dock_job.specs.declared.Cause.TheVariants.{Mismatch, TimedOut, UnexpectedStatus, Unreadable}
use Rattle.dock_job.specs.declared.Dock.{Dock}
use Rattle.std.specs.Prelude.{Err, None, Ok, Option, Some}
use Rattle.dock_job.specs.declared.Failure.{Failure}
use Rattle.dock_job.specs.declared.Setup.TheVariants.{BaudRate, ResetChip, SiliconSignature}
use Rattle.dock_job.specs.declared.Stage.{Stage}
use Rattle.dock_job.specs.declared.Stage.TheVariants.{InBlock, Over, SetUp}
use Rattle.dock_job.specs.declared.Work.TheVariants.{Blank, Erase, Program, ProgramPage, VerifyBlock, VerifyPage}
use Rattle.frame.specs.Judgement.{fault, fault_of}
use Rattle.frame.specs.declared.judgement.Fault.{Fault}
use Rattle.frame.specs.declared.judgement.Judgement.{Judgement}
use Rattle.frame.specs.declared.judgement.Judgement.TheVariants.{Good, UnfitLength, WrongFirst, WrongFooter, WrongSum}
use Rattle.numbers.proofs.Laws.{bit-back}
use Rattle.numbers.specs.Numbers.{bit, low_first, number_at}
use Rattle.lent.proofs.Laws.{same-is, same_self}
use Rattle.words.specs.Words.{if◌then◌otherwise◌}

named_back : (b : Option ℕ) → named b < 256 ^ 4 → named_in (is_named b) (together 4 (named b)) ≡ b
unfolding named_in is_named named if◌then◌otherwise◌
named_back (Some n) h = ap Some (together-is 4 n h)
named_back None h = refl

flat_back : (f : Flat) (awaited retries frames : ℕ) → named f.block < 256 ^ 4 → named f.page < 256 ^ 4 → f.fault.place < 256 ^ 2
    → flat_in (bytes_with f awaited retries frames) ≡ f
unfolding flat_in fault_at bytes_with low_first number_at together
flat_back f awaited retries frames h i j =
    let at : Fault = fault f.fault.number (together 2 f.fault.place) in
    ap (λ (b : Option ℕ). flat f.stage b (named_in (is_named f.page) (together 4 (named f.page))) f.cause f.command f.status at) (named_back f.block h)
    ∙ ap (λ (p : Option ℕ). flat f.stage f.block p f.cause f.command f.status at) (named_back f.page i)
    ∙ ap (λ (n : ℕ). flat f.stage f.block f.page f.cause f.command f.status (fault f.fault.number n)) (together-is 2 f.fault.place j)

cause-back : (c : Cause) → cause_in (cause_number c) ≡ c
unfolding cause_in cause_number if◌then◌otherwise◌
cause-back UnexpectedStatus = refl
cause-back Mismatch = refl
cause-back Unreadable = refl
cause-back TimedOut = refl

judgement-back : (j : Judgement) → judgement_in (fault_of j).number (fault_of j).place ≡ j
unfolding judgement_in if◌then◌otherwise◌
judgement-back Good = refl
judgement-back (WrongFooter at) = refl
judgement-back (WrongSum at) = refl
judgement-back UnfitLength = refl
judgement-back WrongFirst = refl

abbrev failed : Cause → Judgement → Failure → Stage
failed c j f = Over (Err (record { cause = c; command = f.command; page = f.page; status = f.status; block = f.block; fault = j }))

stage-back : (s : Stage) → stage_in (flat_of s) ≡ s
unfolding stage_in flat_of flat_work flat_ending ending_in setup_in work_in named if◌then◌otherwise◌
stage-back (SetUp BaudRate) = refl
stage-back (SetUp ResetChip) = refl
stage-back (SetUp SiliconSignature) = refl
stage-back (InBlock k Blank) = refl
stage-back (InBlock k Erase) = refl
stage-back (InBlock k Program) = refl
stage-back (InBlock k (ProgramPage p)) = refl
stage-back (InBlock k VerifyBlock) = refl
stage-back (InBlock k (VerifyPage p)) = refl
stage-back (Over (Ok _)) = refl
stage-back (Over (Err f)) =
    ap (λ (c : Cause). failed c (judgement_in (fault_of f.fault).number (fault_of f.fault).place) f) (cause-back f.cause)
    ∙ ap (λ (j : Judgement). failed f.cause j f) (judgement-back f.fault)

abbrev held : Stage → Bool → ℕ → ℕ → Dock
held s awaited retries frames = record { stage = s; awaited = awaited; retries = retries; frames = frames }

back : (f : Flat) (awaited : Bool) (retries frames : ℕ) → named f.block < 256 ^ 4 → named f.page < 256 ^ 4 → f.fault.place < 256 ^ 2
    → retries < 256 ^ 4 → frames < 256 ^ 4 → dock_in (bytes_with f (bit awaited) retries frames) ≡ held (stage_in f) awaited retries frames
unfolding dock_in bytes_with low_first number_at together
back f awaited retries frames h i p j k =
    ap (λ (g : Flat). held (stage_in g) (eqb (bit awaited) 1) (together 4 retries) (together 4 frames)) (flat_back f (bit awaited) retries frames h i p)
    ∙ ap (λ (b : Bool). held (stage_in f) b (together 4 retries) (together 4 frames)) (bit-back awaited)
    ∙ ap (λ (n : ℕ). held (stage_in f) awaited n (together 4 frames)) (together-is 4 retries j)
    ∙ ap (λ (n : ℕ). held (stage_in f) awaited retries n) (together-is 4 frames k)

-- A dock that is written is read back the same.
pub dock-read-back : (d : Dock) → HeldDock d → dock_in (dock_bytes d) ≡ d
unfolding dock_bytes
dock-read-back d h =
    back (flat_of d.stage) d.awaited d.retries d.frames h.block h.page h.place h.retries h.frames
    ∙ ap (λ (s : Stage). held s d.awaited d.retries d.frames) (stage-back d.stage)

-- What is written is a state.
pub dock-written-state : (d : Dock) → HeldDock d → is_dock (dock_bytes d) ≡ true
unfolding is_dock
dock-written-state d h = rw (dock-read-back d h) (same_self (dock_bytes d))

-- Bytes that are a state are written back the same.
pub dock-written-back : (bs : List ℕ) → is_dock bs ≡ true → dock_bytes (dock_in bs) ≡ bs
unfolding is_dock
dock-written-back bs e = same-is (dock_bytes (dock_in bs)) bs e
