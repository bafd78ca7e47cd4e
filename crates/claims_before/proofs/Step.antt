-- One event of the chip, and of the chip before: they differ at most where B0h asks for the sum of one block. The sums of the chip before may be any.
-- Assumes nothing.
use mathlib.Core.List.{List}
use mathlib.Core.Path.{◌∙◌, ◌≡◌, ap, refl, sym}
use Prim.Native.Nat.{ℕ}
use lib.Dec.{eqb}
use borrow.Author.Tests.{eqb-true}
use Rattle.chip.specs.Run.{onward}
use Rattle.chip.specs.Step.{Outcome, Reaction, settled, step_of}
use Rattle.chip.specs.declared.Event.{Event}
use Rattle.chip_core.specs.Effect.{Effect, Flash, effect, told}
use Rattle.chip_core.specs.declared.Awaited.{Awaited}
use Rattle.chip_core.specs.declared.Core.{Core}
use Rattle.chip_core.specs.declared.Done.{Done}
use Rattle.chip_flash.specs.Flash.{sum_of_bytes}
use Rattle.chip_pages.specs.Pages.{page_written, program_page}
use Rattle.chip_reply.specs.Reply.{fault_in}
use Rattle.chip_reply.specs.declared.Reply.TheVariants.{Sum}
use Rattle.chip_state.specs.declared.Chip.{Chip}
use Rattle.chip_sums.proofs.Laws.{resummed-flash}
use Rattle.chip_sums.specs.Sums.{block_sum, kept, range_bytes}
use Rattle.chip_work.specs.Work.{block_erase, checksum}
use Rattle.claims_before.proofs.Rules.{Both, lent, react-both}
use Rattle.claims_before.specs.AsBefore.{SameButSums}
use Rattle.claims_before.specs.Asked.{SumOver}
use Rattle.claims_before.specs.Before.{block_erase_before, checksum_before, onward_before, program_page_before}
use Rattle.claims_before.specs.Rules.{step_under}
use Rattle.claims_runs.proofs.Window.{if-two}
use Rattle.part.specs.declared.Area.{Area}
use Rattle.part.specs.declared.Part.{Part}
use Rattle.part.specs.Part.{range_at}
use Rattle.part.specs.declared.refusal.Refusal.{Refusal}
use Rattle.part.specs.declared.Range.{Range}
use Rattle.part.specs.declared.Place.{Place}
use Rattle.std.specs.Prelude.{Err, None, Ok, Option, Result, Some}
use Rattle.words.proofs.Laws.{if-all}

-- Two effects that differ at most in the sums.
record Like (x y : Effect) : Type 0 where
  reply : x.reply ≡ y.reply
  core : x.core ≡ y.core
  flash : x.memory.flash ≡ y.memory.flash

-- The same flash f is lent with the sums s, and before with t.
module _ (p : Part) (k : Core) (f : Flash) (s t : List ℕ) where
  same : (d : Done) → Like (effect d (lent f s)) (effect d (lent f t))
  same d = record { reply = refl; core = refl; flash = refl }

  erases : (x : Option Place) → Like (block_erase p k x (lent f s)) (block_erase_before p k x (lent f t))
  unfolding block_erase block_erase_before
  erases None = same _
  erases (Some place) =
      if-two Like _ (λ u. same _) (λ u. if-two Like _ (λ v. same _) (λ v. record { reply = refl; core = refl; flash = resummed-flash p _ _ }))

  -- Where the range is one block, the sum that is kept has to be the one worked out from flash.
  sums : (r : Option Range) → ((a : Area) (b : ℕ) → r ≡ Some (range_at a b 1) → kept s a b ≡ block_sum p a b f)
      → Like (effect (checksum p k r (lent f s)) (lent f s)) (effect (checksum_before p k r f) (lent f t))
  unfolding checksum checksum_before block_sum
  sums None h = same _
  sums (Some range) h =
      if-all (λ (d : Done). Like (effect d (lent f s)) (effect (told (Sum (sum_of_bytes (range_bytes p range.area range.block range.count f))) k) (lent f t)))
      (eqb range.count 1)
      (λ e. let one : range.count ≡ 1 = eqb-true range.count 1 e in
      record {
        reply = ap Sum (h range.area range.block (ap {B = Option Range} (λ (n : ℕ). Some (range_at range.area range.block n)) one) ∙ ap (λ (c : ℕ). sum_of_bytes (range_bytes p range.area range.block c f)) (sym one));
        core = refl;
        flash = refl;
      })
      (λ e. same _)

  stores : (w : Awaited) (x : Option Place) (ds : List ℕ) → Like (program_page p k w x ds (lent f s)) (program_page_before k w x ds (lent f t))
  unfolding program_page program_page_before page_written
  stores w x ds = record { reply = refl; core = refl; flash = resummed-flash p _ _ }

  settled-both : (w : Result Unit Refusal) (x y : Reaction) (c : Chip) (room : List ℕ) → Both Like x y
      → SameButSums (settled w p x c (lent f s) room) (settled w p y c (lent f t) room)
  unfolding settled
  settled-both (Err r) x y c room b = record { answer = refl; fault = refl; chip = refl; flash = refl; room = refl }
  settled-both (Ok _) x y c room b =
      record {
        answer = rw (b.does.core, b.does.reply);
        fault = ap fault_in b.does.reply;
        chip = rw (b.does.core, b.hears);
        flash = b.does.flash;
        room = rw (b.does.core, b.does.reply);
      }

-- One event on two outcomes that differ at most in the sums, where the one that is asked for alone is right.
pub one-event : (p : Part) (o u : Outcome) (v : Event) → SameButSums o u
    → ((a : Area) (block : ℕ) → SumOver p o v a block 1 → kept o.memory.sums a block ≡ block_sum p a block o.memory.flash)
    → SameButSums (onward p o v) (onward_before p u v)
unfolding step_of step_under
one-event p o u v e h =
    let k : Core = o.chip.core in
    let f : Flash = o.memory.flash in
    let s : List ℕ = o.memory.sums in
    let t : List ℕ = u.memory.sums in
    rw (← e.chip, ← e.room, ← e.flash)
    (settled-both p k f s t _ _ _ o.chip o.room
    (react-both v
    (record {
      same = λ d n. same p k f s t d;
      erases = erases p k f s t;
      sums = λ g start end ph q good r.
          sums p k f s t _ (λ a b x. h a b (record { frame = g; start = start; end = end; phase = ph; taken = q; good = good; command = r; range = x }));
      stores = λ w g q x. stores p k f s t w _ _;
      compares = λ w g q x. same p k f s t _;
      frames = λ c j. same p k f s t _;
      pages = λ c j. same p k f s t _;
    })))
