-- What a frame does that is not good: it is blamed, flash and sums stay, and a command that awaited data is over.
-- Assumes nothing.
use mathlib.Core.Bool.{Bool, false, not, true}
use mathlib.Core.List.{List, [], append-nil}
use mathlib.Core.Path.{◌≡◌, ap, refl}
use Prim.Native.Nat.{ℕ}
use lib.Dec.{eqb}
use lib.ListN.{get_or}
use Rattle.chip.specs.Step.{reaction}
use Rattle.chip_frame.specs.Does.{frame_does}
use Rattle.claims_good.proofs.Rooms.{utterance_of}
use Rattle.claims_fed.specs.Fed.{BadDoes, bad_core, blames_once, blames_twice, does}
use Rattle.claims_fed.specs.Awaits.{AwaitsCommand, AwaitsFrame, a_command, awaits_in, command, good_for, in_ready, in_setup, judged_in, page}
use Rattle.chip_commands.specs.Commands.{allowed_in, command_does, reading_does}
use Rattle.commands.specs.Commands.{read_command}
use Rattle.chip_core.specs.Hearing.{hearing}
use Rattle.chip_core.specs.Effect.{Memory, command_error, effect, says, told}
use Rattle.chip_pages.specs.Pages.{bad_data, data_does, good_data, ready}
use Rattle.chip_core.specs.declared.Awaited.{Awaited}
use Rattle.chip_core.specs.declared.Core.{Core}
use Rattle.chip_core.specs.declared.Phase.{Phase}
use Rattle.chip_core.specs.declared.Phase.TheVariants.{Awaiting, Ready, Setup}
use Rattle.frame.specs.Frame.{payload}
use Rattle.frame.specs.Judgement.{is_good, judge_of}
use Rattle.frame.specs.declared.Footer.TheVariants.{Last}
use Rattle.frame.specs.declared.judgement.Judgement.{Judgement}
use Rattle.part.specs.declared.Part.{Part}
use Rattle.chip_reply.specs.Reply.{fault_in, frames_of, payloads}
use Rattle.chip_reply.specs.declared.Reply.TheVariants.{BadFrame, BadPage}
use Rattle.words.specs.Words.{if◌then◌otherwise◌}

blames-once : (p : Part) (k : Core) (m : Memory) (j : Judgement) → utterance_of p (reaction [] (effect (told (BadFrame j) k) m)) ≡ blames_once j
unfolding utterance_of fault_in payloads frames_of
blames-once p k m j = rw append-nil

blames-twice : (p : Part) (k : Core) (m : Memory) (j : Judgement) → utterance_of p (reaction [] (effect (told (BadPage j) k) m)) ≡ blames_twice j
unfolding utterance_of fault_in payloads frames_of
blames-twice p k m j = rw append-nil

bad-command : (p : Part) (k : Core) (m : Memory) (g : List ℕ) → good_for a_command g ≡ false → command_does p k g m ≡ effect (told (BadFrame (judge_of Last g)) k) m
unfolding command_does good_for if◌then◌otherwise◌
bad-command p k m g e =
    let rest = if not (allowed_in k.phase (get_or (payload g) 0 0)) then effect (says command_error k) m otherwise reading_does (read_command (payload g)) p k m in
    ap (λ (t : Bool). if not t then effect (told (BadFrame (judge_of Last g)) k) m otherwise rest) e

pub command-blamed : (f : Phase) (p : Part) (k : Core) (m : Memory) (j : Judgement) → AwaitsCommand f → BadDoes f p k m j (effect (told (BadFrame j) k) m)
unfolding bad_core
command-blamed f p k m j in_setup = record { core = refl; memory = refl; utters = blames-once p k m j }
command-blamed f p k m j in_ready = record { core = refl; memory = refl; utters = blames-once p k m j }

bad-data : (p : Part) (k : Core) (w : Awaited) (m : Memory) (g : List ℕ) → good_for (awaits_in (Awaiting w)) g ≡ false
    → data_does p k w g m ≡ effect (bad_data w (judged_in (awaits_in (Awaiting w)) g) k) m
unfolding data_does good_for if◌then◌otherwise◌
bad-data p k w m g e =
    let j = judged_in (awaits_in (Awaiting w)) g in
    let b : is_good j ≡ false = e in
    ap (λ (t : Bool). if not t then effect (bad_data w j k) m otherwise good_data p k w (payload g) m) b

data-blamed : (p : Part) (k : Core) (w : Awaited) (m : Memory) (j : Judgement) → BadDoes (Awaiting w) p k m j (effect (bad_data w j k) m)
unfolding bad_data bad_core if◌then◌otherwise◌
data-blamed p k w m j = record { core = core-so (eqb w.command 0xA0); memory = refl; utters = says_so (eqb w.command 0xA0) }
  where
    core-so : (t : Bool) → (if t then told (BadFrame j) (ready k) otherwise told (BadPage j) (ready k)).core ≡ ready k
    core-so true = refl
    core-so false = refl

    says_so : (t : Bool) → utterance_of p (reaction [] (effect (if t then told (BadFrame j) (ready k) otherwise told (BadPage j) (ready k)) m))
        ≡ (if t then blames_once j otherwise blames_twice j)
    says_so true = blames-once p (ready k) m j
    says_so false = blames-twice p (ready k) m j

pub bad-frame-does : (f : Phase) (p : Part) (k : Core) (m : Memory) (g : List ℕ) → AwaitsFrame f → good_for (awaits_in f) g ≡ false
    → BadDoes f p k m (judged_in (awaits_in f) g) (does f p k m g)
unfolding does frame_does hearing
bad-frame-does f p k m g (command in_setup) e = rw (bad-command p k m g e) (command-blamed Setup p k m (judge_of Last g) in_setup)
bad-frame-does f p k m g (command in_ready) e = rw (bad-command p k m g e) (command-blamed Ready p k m (judge_of Last g) in_ready)
bad-frame-does f p k m g (page w) e = rw (bad-data p k w m g e) (data-blamed p k w m (judged_in (awaits_in (Awaiting w)) g))
