-- The proofs of what leaves all of memory as it was.
-- Assumes nothing.
use mathlib.Core.List.{List}
use mathlib.Core.Logic.{◌≢◌}
use mathlib.Core.Path.{◌≡◌, refl}
use Prim.Native.Nat.{ℕ}
use borrow.Author.Tests.{eqb-true}
use Rattle.chip.specs.Step.{Outcome, Reaction, react_to, settled, step_of}
use Rattle.chip_commands.specs.Commands.{work}
use Rattle.chip_core.specs.Effect.{Effect, Memory, acknowledge, effect, write_error}
use Rattle.chip_core.specs.declared.Awaited.{Awaited}
use Rattle.chip_core.specs.declared.Core.{Core}
use Rattle.chip_core.specs.declared.Done.{Done}
use Rattle.chip_pages.proofs.Laws.{told-either}
use Rattle.chip_pages.specs.Pages.{data_does, good_data, page_in, page_written, program_page, stored_reply}
use Rattle.chip_reply.specs.declared.Reply.{Reply}
use Rattle.chip_reply.specs.declared.Reply.TheVariants.{Pair, Status}
use Rattle.chip_work.specs.Work.{block_erase}
use Rattle.claims_good.specs.Good.{verdict_in}
use Rattle.claims_sums.specs.Untouched.{GapLeaves, OnlyErasing, OnlyProgramming, OnlyWritten, PowerOnLeaves, RefusedCallLeaves, RefusedErase}
use Rattle.commands.specs.declared.Command.TheVariants.{BlankCheck, BlockErase, Checksum, Programming, RateSet, Reset, Verify}
use Rattle.commands.specs.declared.Command.TheVariants.{SecurityGet, SecurityRelease, SecuritySet, SignatureGet}
use Rattle.part.specs.Part.{place_of}
use Rattle.part.specs.declared.Part.{Part}
use Rattle.part.specs.declared.refusal.Refusal.{Refusal}
use Rattle.part.specs.declared.Place.{Place}
use Rattle.std.specs.Prelude.{Err, None, Ok, Option, Result, Some}
use Rattle.words.proofs.Laws.{if-all}

pub only-erasing : OnlyErasing
unfolding work
only-erasing (RateSet rate supply) p k m n = refl
only-erasing Reset p k m n = refl
only-erasing (BlockErase start) p k m n = absurd (n start refl)
only-erasing (BlankCheck start end d01) p k m n = refl
only-erasing (Programming start end) p k m n = refl
only-erasing (Verify start end) p k m n = refl
only-erasing (Checksum start end) p k m n = refl
only-erasing SignatureGet p k m n = refl
only-erasing SecurityGet p k m n = refl
only-erasing SecuritySet p k m n = refl
only-erasing SecurityRelease p k m n = refl

-- Memory is as it was, or this is the reply.
record Unless (r : Reply) (m : Memory) (x : Effect) : Type 0 where
  same : x.reply ≢ r → x.memory ≡ m

left_so : {r : Reply} (m : Memory) (d : Done) → Unless r m (effect d m)
left_so m d = record { same = λ n. refl }

erase-unless : (p : Part) (k : Core) (x : Option Place) (m : Memory) → Unless (Status acknowledge) m (block_erase p k x m)
unfolding block_erase
erase-unless p k None m = left_so m _
erase-unless p k (Some place) m =
    if-all (Unless (Status acknowledge) m) _ (λ t. left_so m _) (λ t. if-all (Unless (Status acknowledge) m) _ (λ u. left_so m _) (λ u. record { same = λ n. absurd (n refl) }))

pub refused-erase : RefusedErase
unfolding work
refused-erase start p k m n = (erase-unless p k (place_of p start) m).same n

-- Memory is as it was, or the reply is one of a page that was written.
record Unwritten (w : Awaited) (m : Memory) (x : Effect) : Type 0 where
  same : x.reply ≢ stored_reply w → x.reply ≢ Pair acknowledge write_error → x.memory ≡ m

not_written : {w : Awaited} (m : Memory) (d : Done) → Unwritten w m (effect d m)
not_written m d = record { same = λ n q. refl }

page-unwritten : (p : Part) (k : Core) (w : Awaited) (x : Option Place) (ds : List ℕ) (m : Memory) → Unwritten w m (program_page p k w x ds m)
unfolding program_page
page-unwritten p k w x ds m =
    told-either (λ (d : Awaited → Core → Done). Unwritten w m (effect (d w k) (page_written p x ds m))) (page_in x m.flash) ds (λ t. record { same = λ n q. absurd (n refl) })
    (λ t. record { same = λ n q. absurd (q refl) })

data-unwritten : (p : Part) (k : Core) (w : Awaited) (f : List ℕ) (m : Memory) → Unwritten w m (data_does p k w f m)
unfolding data_does good_data
data-unwritten p k w f m =
    if-all (Unwritten w m) _ (λ t. not_written m _)
    (λ t. if-all (Unwritten w m) _ (λ u. not_written m _)
    (λ u. if-all (Unwritten w m) _ (λ v. page-unwritten p k w _ _ m) (λ v. not_written m _)))

pub only-written : OnlyWritten
only-written p k w f m n q = (data-unwritten p k w f m).same n q

record Same (m : Memory) (x : Effect) : Type 0 where
  same : x.memory ≡ m

same-so : (m : Memory) (d : Done) → Same m (effect d m)
same-so m d = record { same = refl }

data-same : (p : Part) (k : Core) (w : Awaited) (f : List ℕ) (m : Memory) → w.command ≢ 0x40 → Same m (data_does p k w f m)
unfolding data_does good_data
data-same p k w f m n =
    if-all (Same m) _ (λ t. same-so m _)
    (λ t. if-all (Same m) _ (λ u. same-so m _) (λ u. if-all (Same m) _ (λ v. absurd (n (eqb-true _ _ v))) (λ v. same-so m _)))

pub only-programming : OnlyProgramming
only-programming p k w f m n = (data-same p k w f m n).same

-- A reaction that leaves memory, under any verdict.
settled-leaves : (p : Part) (w : Result Unit Refusal) (x : Reaction) (o : Outcome) → x.does.memory ≡ o.memory
    → (settled w p x o.chip o.memory o.room).memory ≡ o.memory
unfolding settled
settled-leaves p (Err r) x o e = refl
settled-leaves p (Ok _) x o e = e

pub gap-leaves : GapLeaves
unfolding step_of react_to
gap-leaves p o = settled-leaves p (verdict_in p o) _ o refl

pub power-on-leaves : PowerOnLeaves
unfolding step_of react_to
power-on-leaves p o = settled-leaves p (verdict_in p o) _ o refl

pub refused-call-leaves : RefusedCallLeaves
unfolding step_of settled
refused-call-leaves p o v r e = rw e
