-- A byte that is only added to what is collected: it is a step that answers nothing, and the verdict on the next call stays accepted.
-- Assumes nothing.
use mathlib.Core.Bool.{Bool, false, true}
use mathlib.Core.List.{List, [], ◌∷◌}
use mathlib.Core.Path.{◌∙◌, ◌≡◌, ap, refl, sym}
use Prim.Native.Nat.{◌+◌, ◌<◌, ◌≤◌, ℕ}
use native.Mathlib.Decide.{dec_lt}
use native.Mathlib.Omega.{arith}
use lib.ListN.{get_or, length}
use lib.Dec.{leb}
use borrow.Author.Tests.{lt-leb}
use Rattle.chip_state.proofs.Laws.{Begun, accepts, begun, command-collected, data-collected, good-within, none-collected, one-more-accepted, state-collected}
use Rattle.chip.proofs.Settling.{byte-accepted, hears-settles, same-event}
use Rattle.chip.specs.Run.{before}
use Rattle.chip.specs.Step.{step_of}
use Rattle.chip_state.specs.Refusals.{good_collected, verdict_on}
use Rattle.chip_state.specs.declared.Chip.{Chip}
use Rattle.chip.specs.declared.Event.{Event}
use Rattle.chip.specs.declared.Event.TheVariants.{Byte}
use Rattle.chip.specs.declared.events.Way.TheVariants.{Hears}
use Rattle.chip.specs.Inner.Ways.{completes_at, way_of, way_on}
use Rattle.chip_core.specs.Effect.{Memory}
use Rattle.chip_core.specs.Hearing.{hearing}
use Rattle.chip_core.specs.declared.Hearing.{Hearing}
use Rattle.chip_core.specs.declared.Hearing.TheVariants.{HearsCommands, HearsData, HearsNothing}
use Rattle.frame.proofs.Laws.Collector.{add-laid, added-before, added-byte, added-count, byte-begins}
use Rattle.frame.proofs.Laws.Frame.{counted-some, lacks}
use Rattle.frame.specs.Collector.{added, byte_of}
use Rattle.frame.specs.Frame.{counted, header_byte, lacking_of}
use Rattle.frame.specs.declared.Header.{Header}
use Rattle.frame.specs.declared.Header.TheVariants.{Command, Data}
use Rattle.frame.specs.declared.collector.Collector.{Collector}
use Rattle.part.specs.declared.Part.{Part}
use Rattle.part.specs.declared.refusal.Refusal.{Refusal}
use Rattle.std.specs.Prelude.{Ok, Result}
use Rattle.words.specs.Words.{◌and◌, if◌then◌otherwise◌}

-- The verdict depends on what is collected only by whether the state is good.
abbrev pub verdict_at : Part → Chip → Memory → List ℕ → Result Unit Refusal
verdict_at p c m room =
    verdict_on p c (length m.flash.code_flash) (length m.flash.data_flash) (length room)

-- The byte opens a frame that is awaited.
abbrev pub Opens : Hearing → ℕ → Type 0
Opens HearsNothing b = ⊥
Opens HearsCommands b = b ≡ header_byte Command
Opens (HearsData w) b = b ≡ header_byte Data

pub adds-byte : (c : Collector) (h : Header) (b : ℕ) → length c.bytes ≡ 260 → Begun c → (c.len ≡ 0 → b ≡ header_byte h) → added c (b ∷ []) ≡ byte_of c h b
adds-byte c h b l g o = go (dec_lt c.len 1)
  where
    go : Dec (c.len < 1) → added c (b ∷ []) ≡ byte_of c h b
    go (yes k) = let z : c.len ≡ 0 = omega arith in sym (add-laid c b l (omega arith)) ∙ byte-begins c h b z l (o z)
    go (no k) = added-byte c h b (λ z. omega arith) l g.within g.lacks

-- A byte that is only added: its way, in the phase that a good state is in.
record HeardAs (f : Hearing) (c : Collector) (b : ℕ) : Type 0 where
  header : Header
  way : way_of f c.len (get_or c.bytes 1 0) ≡ Hears header
  adds : added c (b ∷ []) ≡ byte_of c header b

heard-as : (f : Hearing) (c : Collector) (b : ℕ) → length c.bytes ≡ 260 → (c.len ≡ 0 → Opens f b) → completes_at c.len (get_or c.bytes 1 0) ≡ false
    → good_collected f c.len (get_or c.bytes 0 0) (get_or c.bytes 1 0) ≡ true → HeardAs f c b
unfolding way_of way_on if◌then◌otherwise◌
heard-as HearsNothing c b l o s e = absurd (o (none-collected _ _ _ e))
heard-as HearsCommands c b l o s e = record { header = Command; way = simp s; adds = adds-byte c Command b l (begun Command c l (sym (command-collected _ _ _) ∙ e)) o }
heard-as (HearsData w) c b l o s e = record { header = Data; way = simp s; adds = adds-byte c Data b l (begun Data c l (sym (data-collected w _ _ _) ∙ e)) o }

not_last : (n len : ℕ) → n < counted len + 3 → completes_at n len ≡ false
unfolding completes_at ◌and◌
not_last n len s = go (leb 2 n)
  where
    go : (t : Bool) → t and leb (counted len + 3) n ≡ false
    go true = lt-leb (counted len + 3) n s
    go false = refl

abbrev pub after : Chip → ℕ → Chip
after c b = record { core = c.core; collector = added c.collector (b ∷ []) }

-- What is collected in a state that is accepted.
pub collected-good : (p : Part) (c : Chip) (m : Memory) (room : List ℕ) → verdict_at p c m room ≡ Ok tt
    → good_collected (hearing c.core.phase) c.collector.len (get_or c.collector.bytes 0 0) (get_or c.collector.bytes 1 0) ≡ true
collected-good p c m room a = state-collected p c.core _ _ _ (hearing c.core.phase) (accepts a).state refl

pub only-added : (p : Part) (c : Chip) (m : Memory) (room : List ℕ) (b : ℕ) → length c.collector.bytes ≡ 260 → verdict_at p c m room ≡ Ok tt
    → (c.collector.len ≡ 0 → Opens (hearing c.core.phase) b) → completes_at c.collector.len (get_or c.collector.bytes 1 0) ≡ false
    → before (after c b) m room ≡ step_of p c (Byte b) m room
only-added p c m room b l a o s =
    let w = heard-as (hearing c.core.phase) c.collector b l o s (collected-good p c m room a) in
    byte-accepted (before (after c b) m room) p c b m room a (hears-settles p c.collector (added c.collector (b ∷ [])) c.core w.header b m room l (accepts a) w.way w.adds)

-- The LEN byte is one: it comes after the header, and no frame is complete with it.
pub len-heard : (p : Part) (c : Chip) (m : Memory) (room : List ℕ) → length c.collector.bytes ≡ 260 → verdict_at p c m room ≡ Ok tt → c.collector.len ≡ 1
    → (b : ℕ) → before (after c b) m room ≡ step_of p c (Byte b) m room
len-heard p c m room l a e b = only-added p c m room b l a (λ z. absurd (omega arith)) (not_last _ _ (omega (arith, counted-some (get_or c.collector.bytes 1 0))))

module _ (p : Part) (c : Chip) (m : Memory) (room : List ℕ) (places : length c.collector.bytes ≡ 260) (accepted : verdict_at p c m room ≡ Ok tt)
    (begun : 2 ≤ c.collector.len) (short : c.collector.len < counted (get_or c.collector.bytes 1 0) + 3) where
  within : c.collector.len < 260
  within = good-within _ _ _ _ (collected-good p c m room accepted)

  pub byte-heard : (b : ℕ) → before (after c b) m room ≡ step_of p c (Byte b) m room
  byte-heard b = only-added p c m room b places accepted (λ z. absurd (omega arith)) (not_last _ _ short)

  pub added-at : (i b : ℕ) → i < 2 → get_or (added c.collector (b ∷ [])).bytes i 0 ≡ get_or c.collector.bytes i 0
  added-at i b h = added-before c.collector (b ∷ []) i places (omega (arith, within)) (omega arith)

  pub still-accepted : (b : ℕ) → counted (get_or c.collector.bytes 1 0) ≤ 256 → verdict_at p (after c b) m room ≡ Ok tt
  still-accepted b small =
      rw (added-count c.collector (b ∷ []) places (omega arith), added-at 0 b (omega arith), added-at 1 b (omega arith)) (one-more-accepted _ _ _ accepted begun (omega arith) small)

-- One such byte, as the step adds it.
pub byte-adds : (p : Part) (c : Chip) (d : Collector) (v : Event) (b n : ℕ) (m : Memory) (room : List ℕ) → length c.collector.bytes ≡ 260
    → verdict_at p c m room ≡ Ok tt → n ≡ lacking_of c.collector.len (get_or c.collector.bytes 1 0) 1 → 0 < n → v ≡ Byte b → d ≡ added c.collector (b ∷ [])
    → before (record { core = c.core; collector = d }) m room ≡ step_of p c v m room
byte-adds p c d v b n m room l a e h f g =
    let x = lacks c.collector.len (get_or c.collector.bytes 1 0) 1 n e h in
    ap (λ (z : Collector). before (record { core = c.core; collector = z }) m room) g
    ∙ same-event _ p c v (Byte b) m room (byte-heard p c m room l a x.begun (omega (arith, x.short)) b) f
