-- The proofs of `KeptIsSaid` and `WideIsWorked`.
-- Assumes nothing.
use mathlib.Core.Bool.{Bool, false, true}
use mathlib.Core.List.{List, [], ◌∷◌}
use mathlib.Core.Logic.{◌≢◌}
use mathlib.Core.Path.{◌∙◌, ◌≡◌, ap, refl, sym}
use Prim.Native.Nat.{ℕ}
use lib.Dec.{eqb}
use lib.ListN.{get_or}
use borrow.Author.Tests.{eqb-true}
use Rattle.chip.specs.Step.{Outcome, Reaction, reaction}
use Rattle.chip_frame.specs.Does.{frame_does, silent}
use Rattle.chip.specs.declared.Event.{Event}
use Rattle.chip_commands.specs.Commands.{allowed_in, command_does, reading_does, work}
use Rattle.chip_core.specs.Effect.{Memory, effect, told}
use Rattle.chip_core.specs.Hearing.{hearing}
use Rattle.chip_core.specs.declared.Core.{Core}
use Rattle.chip_core.specs.declared.Done.{Done}
use Rattle.chip_core.specs.declared.Phase.TheVariants.{Ready}
use Rattle.chip_flash.specs.Flash.{sum_of_bytes}
use Rattle.chip_reply.specs.Reply.{fault_in, frames_of, payloads}
use Rattle.chip_reply.specs.declared.Reply.TheVariants.{Sum}
use Rattle.chip_sums.specs.Sums.{kept, range_bytes}
use Rattle.chip_work.specs.Work.{checksum}
use Rattle.claims_before.specs.Asked.{SumOver}
use Rattle.claims_before.specs.Said.{KeptIsSaid, TellsSum, WideIsWorked, says_sum}
use Rattle.claims_fed.proofs.Frames.{no-frame}
use Rattle.claims_fed.specs.Fed.{does, does_in}
use Rattle.claims_good.proofs.Rooms.{leaves, reaction_of, says-reaction, utterance_of}
use Rattle.claims_good.specs.Good.{Stands}
use Rattle.claims_runs.proofs.Taken.{Went, frame_done, only_heard, quiet_core, went}
use Rattle.claims_runs.specs.Taken.{taken_by}
use Rattle.commands.proofs.Laws.{com-read}
use Rattle.commands.specs.Commands.{com_of, read_command}
use Rattle.commands.specs.declared.Command.TheVariants.{Checksum}
use Rattle.part.specs.declared.Range.{Range}
use Rattle.std.specs.Prelude.{Ok, Option, Some}
use Rattle.frame.specs.Frame.{framed, payload}
use Rattle.frame.specs.Judgement.{is_good, judge_of}
use Rattle.frame.specs.declared.Footer.TheVariants.{Last}
use Rattle.numbers.specs.Numbers.{low_first}
use Rattle.part.specs.Part.{range_of, range_at}
use Rattle.part.specs.declared.Area.{Area}
use Rattle.part.specs.declared.Part.{Part}
use Rattle.words.specs.Words.{if◌then◌otherwise◌}

-- A good frame of B0h in phase 3 does B0h's work.
asked-does : (p : Part) (k : Core) (m : Memory) (g : List ℕ) (start end : ℕ) → k.phase ≡ Ready → is_good (judge_of Last g) ≡ true
    → read_command (payload g) ≡ Ok (Checksum start end) → does_in p g k m ≡ effect (checksum p k (range_of p start end) m) m
unfolding does_in does hearing frame_does command_does reading_does work allowed_in com_of if◌then◌otherwise◌
asked-does p k m g start end ph good r =
    let c : get_or (payload g) 0 0 ≡ 0xB0 = com-read (payload g) _ r in
    rw (ph, good, c, r)

-- What a number is told with.
tells : (p : Part) (k : Core) (m : Memory) (n : ℕ) → utterance_of p (reaction [] (effect (told (Sum n) k) m)) ≡ says_sum n
unfolding utterance_of fault_in payloads frames_of framed low_first says_sum
tells p k m n = refl

-- The event does B0h's work over its range.
asked : (p : Part) (o : Outcome) (v : Event) (a : Area) (block count : ℕ) → SumOver p o v a block count
    → reaction_of p o v ≡ reaction [] (effect (checksum p o.chip.core (Some (range_at a block count)) o.memory) o.memory)
asked p o v a block count q = go (went p o v)
  where
    go : Went (taken_by o v) (λ f. does_in p f o.chip.core o.memory) (silent (quiet_core v o.chip.core) o.memory) (reaction_of p o v)
        → reaction_of p o v ≡ reaction [] (effect (checksum p o.chip.core (Some (range_at a block count)) o.memory) o.memory)
    go (only_heard t e) = absurd (no-frame q.frame [] (sym t ∙ q.taken))
    go (frame_done g t e) =
        let one : g ∷ [] ≡ q.frame ∷ [] = sym t ∙ q.taken in
        let is : g ≡ q.frame = cc in
        e ∙ ap (λ (f : List ℕ). reaction [] (does_in p f o.chip.core o.memory)) is
        ∙ ap (reaction []) (asked-does p o.chip.core o.memory q.frame q.start q.end q.phase q.good q.command)
        ∙ ap (λ (r : Option Range). reaction [] (effect (checksum p o.chip.core r o.memory) o.memory)) q.range

-- And says the number of that work.
told-so : (p : Part) (o : Outcome) (v : Event) (a : Area) (block count n : ℕ) → Stands p o → SumOver p o v a block count
    → checksum p o.chip.core (Some (range_at a block count)) o.memory ≡ told (Sum n) o.chip.core → TellsSum p o v n
told-so p o v a block count n s q e =
    let x : reaction_of p o v ≡ reaction [] (effect (told (Sum n) o.chip.core) o.memory) =
    asked p o v a block count q ∙ ap (λ (d : Done). reaction [] (effect d o.memory)) e in
    let l = leaves p o v s in
    record {
      says = says-reaction p o v s ∙ ap (utterance_of p) x ∙ tells p o.chip.core o.memory n;
      memory = l.memory ∙ ap (λ (r : Reaction). r.does.memory) x;
      core = l.core ∙ ap (λ (r : Reaction). r.does.core) x;
    }

pub kept-is-said : KeptIsSaid
unfolding checksum if◌then◌otherwise◌
kept-is-said p o v a block s q = told-so p o v a block 1 _ s q refl

-- Over another count than 1 the sum is worked out.
worked : (p : Part) (k : Core) (a : Area) (block count : ℕ) (m : Memory) → count ≢ 1
    → checksum p k (Some (range_at a block count)) m ≡ told (Sum (sum_of_bytes (range_bytes p a block count m.flash))) k
unfolding checksum if◌then◌otherwise◌
worked p k a block count m h = go (eqb count 1) refl
  where
    go : (t : Bool) → eqb count 1 ≡ t
        → (if t then told (Sum (kept m.sums a block)) k otherwise told (Sum (sum_of_bytes (range_bytes p a block count m.flash))) k)
        ≡ told (Sum (sum_of_bytes (range_bytes p a block count m.flash))) k
    go true e = absurd (h (eqb-true count 1 e))
    go false e = refl

pub wide-is-worked : WideIsWorked
wide-is-worked p o v a block count s q h = told-so p o v a block count _ s q (worked p o.chip.core a block count o.memory h)
