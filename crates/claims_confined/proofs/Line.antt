-- The proof of `LineConfined`.
-- Assumes nothing.
use mathlib.Core.Bool.{Bool, false, false≢true, not, true, true≢false}
use mathlib.Core.List.{List, [], ◌∷◌, map}
use mathlib.Core.Path.{◌∙◌, ◌≡◌, ap, refl, sym}
use Prim.Native.Nat.{ℕ}
use native.Mathlib.Omega.{arith}
use lib.ListN.{get_or}
use Rattle.chip.specs.Run.{onward}
use Rattle.chip.specs.Step.{Outcome}
use Rattle.chip.specs.declared.Event.{Event}
use Rattle.chip_core.specs.Hearing.{hearing}
use Rattle.chip_core.specs.declared.Core.{Core}
use Rattle.chip_core.specs.declared.Phase.{Phase}
use Rattle.chip_state.proofs.Laws.{accepts}
use Rattle.chip_state.specs.Refusals.{good_begun, good_collected, good_state}
use Rattle.claims_confined.proofs.Confined.{job-confined}
use Rattle.claims_confined.specs.Confined.{CommandsOnly, JobCommand, and_one, no_more}
use Rattle.claims_confined.specs.Line.{LineConfined}
use Rattle.claims_fed.proofs.Bad.{bad-frame-does}
use Rattle.claims_fed.proofs.Frames.{no-frame}
use Rattle.claims_fed.proofs.Steps.{Stepped, Went, frame_done, only_heard, stepped}
use Rattle.claims_fed.specs.Awaits.{Awaits, AwaitsCommand, AwaitsFrame, a_command, awaits_in, command, event_of, good_for, header_in, in_ready, in_setup, page}
use Rattle.claims_fed.specs.Fed.{bad_core, does}
use Rattle.claims_frame.proofs.Framing.{Same, nothing, step-agrees}
use Rattle.claims_frame.specs.Collecting.{Collected, collects_on, take-up}
use Rattle.claims_good.proofs.Collected.{Begins, good-begins, hear-begins, header}
use Rattle.claims_good.proofs.Collected as Begun
use Rattle.claims_good.proofs.Stays.{stays}
use Rattle.claims_good.specs.Good.{AllProper, Stands, and_event}
use Rattle.claims_noise.specs.Noise.{allows, completes_only, empty, only, permitted, then_awaits}
use Rattle.claims_runs.specs.Taken.{taken_as, taken_by, taken_in}
use Rattle.dock_flow.specs.Frames.{frame_at, query_with, work_frame}
use Rattle.dock_job.specs.Job.{is_over}
use Rattle.dock_job.specs.Refusals.{good_stage}
use Rattle.dock_job.specs.declared.Job.{Job}
use Rattle.dock_job.specs.declared.Stage.{Stage}
use Rattle.dock_job.specs.declared.Stage.TheVariants.{InBlock, Over, SetUp}
use Rattle.dock_job.specs.declared.Work.TheVariants.{Blank, Erase, Program, ProgramPage, VerifyBlock, VerifyPage}
use Rattle.frame.proofs.Laws.Collector.{heard-none}
use Rattle.frame.specs.Collector.{hear, heard}
use Rattle.frame.specs.Frame.{complete, data_frame, framed, full, header_byte}
use Rattle.frame.specs.Framing.{Framing, Sound, byte, framing, gap, idle}
use Rattle.frame.specs.declared.Footer.{Footer}
use Rattle.frame.specs.declared.Header.{Header}
use Rattle.frame.specs.declared.collector.Collector.{Collector}
use Rattle.frame.specs.declared.Header.TheVariants.{Command, Data}
use Rattle.lent.proofs.Laws.{same-is}
use Rattle.lent.specs.Lent.{same}
use Rattle.part.specs.declared.Part.{Part}
use Rattle.words.proofs.Laws.{and_left, and_right}
use Rattle.words.specs.Words.{◌and◌, ◌or◌, if◌then◌otherwise◌}

-- A good frame that is permitted is the one sent, and nothing comes after it.
record Permits (f g : List ℕ) (end : Bool) : Type 0 where
  is : f ≡ g
  last : end ≡ true

permits : (f g : List ℕ) (gs : List (List ℕ)) (a : Awaits) (end : Bool) → permitted (only f) a (g ∷ gs) end ≡ true → good_for a g ≡ true → Permits f g end
unfolding permitted allows ◌or◌
permits f g gs a end e q =
    let r : same f g and end ≡ true = ap (λ (t : Bool). not t or same f g and end) (sym q) ∙ e in
    record { is = same-is f g (and_left _ _ r); last = and_right (same f g) _ r }

-- What the framing rule completes is what the chip takes.
taken-done : (u : Outcome) (w : Framing) (v : Sound) → AwaitsFrame u.chip.core.phase → Same w (heard u.chip.collector)
    → (framing (header_in u.chip.core.phase) w v).done ≡ taken_by u (event_of v)
unfolding taken_in taken_as hearing framing collects_on
taken-done u w v a m = go u.chip.core.phase v a
  where
    go : (f : Phase) (v : Sound) → AwaitsFrame f → (framing (header_in f) w v).done ≡ taken_in (hearing f) (heard u.chip.collector) (event_of v)
    go f (byte b) (command in_setup) = (step-agrees Command (byte b) m).done
    go f (byte b) (command in_ready) = (step-agrees Command (byte b) m).done
    go f (byte b) (page x) = (step-agrees Data (byte b) m).done
    go f gap (command in_setup) = refl
    go f gap (command in_ready) = refl
    go f gap (page x) = refl

-- A command frame that is taken begins with 01h.
record Taken (l g : List ℕ) : Type 0 where
  is : l ≡ g
  whole : complete l ≡ true

taken_is : (l g : List ℕ) → (take-up l).taken ≡ g ∷ [] → Taken l g
unfolding take-up if◌then◌otherwise◌
taken_is l g e = go (complete l) refl e
  where
    go : (t : Bool) → complete l ≡ t → (if◌then◌otherwise◌ {A = Collected} t (record { holds = []; taken = l ∷ [] }) (record { holds = l; taken = [] })).taken ≡ g ∷ []
        → Taken l g
    go true q e = record { is = cc; whole = q }
    go false q e = absurd (no-frame g [] e)

begins-so : (h : Header) (l : List ℕ) → Begins h l → complete l ≡ true → get_or l 0 0 ≡ header_byte h
unfolding complete full ◌and◌
begins-so h l Begun.nothing e = absurd (false≢true e)
begins-so h l (header x xs q) e = q

header_is : (p : Part) (u : Outcome) (v : Sound) (g : List ℕ) → Stands p u → AwaitsCommand u.chip.core.phase → taken_by u (event_of v) ≡ g ∷ []
    → get_or g 0 0 ≡ header_byte Command
unfolding taken_in taken_as hearing collects_on good_state good_collected
header_is p u v g s a e = go u.chip.core.phase v a (and_left _ _ (accepts s.accepted).state) e
  where
    c : Collector
    c = u.chip.collector

    so : (b : ℕ) → good_begun Command c.len (get_or c.bytes 0 0) (get_or c.bytes 1 0) ≡ true → (take-up (hear Command (heard c) b)).taken ≡ g ∷ []
        → get_or g 0 0 ≡ header_byte Command
    so b h e =
        let t = taken_is (hear Command (heard c) b) g e in
        ap (λ (l : List ℕ). get_or l 0 0) (sym t.is)
        ∙ begins-so Command (hear Command (heard c) b) (hear-begins Command (heard c) b (good-begins Command c s.places h)) t.whole

    go : (f : Phase) (v : Sound) → AwaitsCommand f → good_collected (hearing f) c.len (get_or c.bytes 0 0) (get_or c.bytes 1 0) ≡ true
        → taken_in (hearing f) (heard c) (event_of v) ≡ g ∷ [] → get_or g 0 0 ≡ header_byte Command
    go f (byte b) in_setup h e = so b h e
    go f (byte b) in_ready h e = so b h e
    go f gap in_setup h e = absurd (no-frame g [] e)
    go f gap in_ready h e = absurd (no-frame g [] e)

-- The one frame that was sent, as a command.
record SentCommand (f g : List ℕ) : Type 0 where
  is : f ≡ g
  command-frame : get_or g 0 0 ≡ header_byte Command

-- After a bad frame a command is awaited.
record AfterBad (f : Phase) (k : Core) : Type 0 where
  frame : AwaitsFrame (bad_core f k).phase
  awaits : a_command ≡ awaits_in (bad_core f k).phase

after-bad : (f : Phase) (k : Core) → AwaitsFrame f → k.phase ≡ f → AfterBad f k
unfolding bad_core
after-bad f k (command in_setup) e = record { frame = rw e (command in_setup); awaits = rw e }
after-bad f k (command in_ready) e = record { frame = rw e (command in_ready); awaits = rw e }
after-bad f k (page w) e = record { frame = command in_ready; awaits = refl }

command-awaits : (f : Phase) → AwaitsCommand f → awaits_in f ≡ a_command
command-awaits f in_setup = refl
command-awaits f in_ready = refl

none_left : (ok : List ℕ → Type 0) (p : Part) (u : Outcome) (vs : List Sound) → empty vs ≡ true → CommandsOnly ok p u (map event_of vs)
unfolding empty
none_left ok p u [] e = no_more
none_left ok p u (v ∷ vs) e = absurd (false≢true e)

-- What the rest of the sounds completes, from the state that the first leaves.
Rest : List ℕ → Part → List Sound → Outcome → Type 0
Rest f p vs u =
    (w : Framing) → Stands p u → AwaitsFrame u.chip.core.phase → Same w (heard u.chip.collector)
    → completes_only (only f) (awaits_in u.chip.core.phase) w vs ≡ true → CommandsOnly (SentCommand f) p u (map event_of vs)

only-sent : (f : List ℕ) (p : Part) (vs : List Sound) (u : Outcome) (w : Framing) → Stands p u → AwaitsFrame u.chip.core.phase → Same w (heard u.chip.collector)
    → AllProper (map event_of vs) → completes_only (only f) (awaits_in u.chip.core.phase) w vs ≡ true → CommandsOnly (SentCommand f) p u (map event_of vs)
unfolding completes_only then_awaits Rest
only-sent f p [] u w s a m q e = no_more
only-sent f p (v ∷ vs) u w s a m (and_event h q) e =
    and_one first (rest (λ w' s' a' m' e'. only-sent f p vs (onward p u (event_of v)) w' s' a' m' q e') (stepped p u v w s a m))
  where
    ph : Phase
    ph = u.chip.core.phase

    permit : permitted (only f) (awaits_in ph) (framing (header_in ph) w v).done (empty vs) ≡ true
    permit = and_left _ _ e

    goes_on : completes_only (only f) (then_awaits (awaits_in ph) (framing (header_in ph) w v).done) (framing (header_in ph) w v).stands vs ≡ true
    goes_on = and_right (permitted (only f) (awaits_in ph) (framing (header_in ph) w v).done (empty vs)) _ e

    first : (g : List ℕ) → taken_by u (event_of v) ≡ g ∷ [] → AwaitsCommand ph → good_for a_command g ≡ true → SentCommand f g
    first g t c good =
        let z : permitted (only f) (awaits_in ph) (g ∷ []) (empty vs) ≡ true =
        ap (λ (ds : List (List ℕ)). permitted (only f) (awaits_in ph) ds (empty vs)) (sym (taken-done u w v a m ∙ t)) ∙ permit in
        record { is = (permits f g [] (awaits_in ph) (empty vs) z (ap (λ (x : Awaits). good_for x g) (command-awaits ph c) ∙ good)).is; command-frame = header_is p u v g s c t }

    on : Rest f p vs (onward p u (event_of v)) → (k : Core) → (onward p u (event_of v)).chip.core ≡ k → AwaitsFrame k.phase
        → then_awaits (awaits_in ph) (framing (header_in ph) w v).done ≡ awaits_in k.phase
        → Same (framing (header_in ph) w v).stands (heard (onward p u (event_of v)).chip.collector) → CommandsOnly (SentCommand f) p (onward p u (event_of v)) (map event_of vs)
    on r k c b t n =
        r (framing (header_in ph) w v).stands (stays p u (event_of v) s h) (rw c b) n
        (ap (λ (l : Core). completes_only (only f) (awaits_in l.phase) (framing (header_in ph) w v).stands vs) c
        ∙ ap (λ (y : Awaits). completes_only (only f) y (framing (header_in ph) w v).stands vs) (sym t) ∙ goes_on)

    judged : Rest f p vs (onward p u (event_of v)) → (g : List ℕ) (gs : List (List ℕ)) → (framing (header_in ph) w v).done ≡ g ∷ gs → Went p u v w (does ph p u.chip.core u.memory g) → (t : Bool) → good_for (awaits_in ph) g ≡ t
        → CommandsOnly (SentCommand f) p (onward p u (event_of v)) (map event_of vs)
    judged r g gs d x true good = none_left (SentCommand f) p _ vs (permits f g gs (awaits_in ph) (empty vs) (rw d at permit) good).last
    judged r g gs d x false bad =
        let b = bad-frame-does ph p u.chip.core u.memory g a bad in
        let y = after-bad ph u.chip.core a refl in
        on r (bad_core ph u.chip.core) (x.core ∙ b.core) y.frame (ap (then_awaits (awaits_in ph)) d ∙ then-command ∙ y.awaits) x.same
      where
        then-command : then_awaits (awaits_in ph) (g ∷ gs) ≡ a_command
        then-command = refl

    rest : Rest f p vs (onward p u (event_of v)) → Stepped p u v w → CommandsOnly (SentCommand f) p (onward p u (event_of v)) (map event_of vs)
    rest r (only_heard d x) = on r u.chip.core x.core a (ap (then_awaits (awaits_in ph)) d) x.same
    rest r (frame_done g gs d x) = judged r g gs d x (good_for (awaits_in ph) g) refl

-- A stage's frame that begins with 01h is that of the stage's command.
module _ (j : Job) (image : List ℕ) where
  page-apart : (ds : List ℕ) (x : Footer) (g : List ℕ) → data_frame ds x ≡ g → get_or g 0 0 ≡ header_byte Command → ⊥
  unfolding framed
  page-apart ds x g e h = let z : ◌≡◌ {A = ℕ} 2 1 = ap (λ (l : List ℕ). get_or l 0 0) e ∙ h in omega arith

  job-sent : (st : Stage) → good_stage j st ≡ true → is_over st ≡ false → (g : List ℕ) → SentCommand (frame_at j image st) g → JobCommand j g
  unfolding frame_at work_frame query_with is_over
  job-sent (SetUp s) b o g t = record { stage = SetUp s; good = b; going = o; is = sym t.is }
  job-sent (InBlock k Blank) b o g t = record { stage = InBlock k Blank; good = b; going = o; is = sym t.is }
  job-sent (InBlock k Erase) b o g t = record { stage = InBlock k Erase; good = b; going = o; is = sym t.is }
  job-sent (InBlock k Program) b o g t = record { stage = InBlock k Program; good = b; going = o; is = sym t.is }
  job-sent (InBlock k (ProgramPage i)) b o g t = absurd (page-apart _ _ g t.is t.command-frame)
  job-sent (InBlock k VerifyBlock) b o g t = record { stage = InBlock k VerifyBlock; good = b; going = o; is = sym t.is }
  job-sent (InBlock k (VerifyPage i)) b o g t = absurd (page-apart _ _ g t.is t.command-frame)
  job-sent (Over e) b o g t = absurd (true≢false o)

commands-so : {ok no : List ℕ → Type 0} {p : Part} {o : Outcome} {vs : List Event} → ((g : List ℕ) → ok g → no g) → CommandsOnly ok p o vs → CommandsOnly no p o vs
commands-so so no_more = no_more
commands-so so (and_one h c) = and_one (λ g t a q. so g (h g t a q)) (commands-so so c)

pub line-confined : LineConfined
line-confined j image st o vs b g a w n =
    job-confined j o (map event_of vs) n.stands n.bytes w
    (commands-so (job-sent j image st b g)
    (only-sent (frame_at j image st) j.part vs o idle n.stands a (rw (heard-none o.chip.collector n.nothing) nothing) n.bytes n.quiet))
