-- The proofs of `NoNewRefusal` and `NeverLookedAt`: two chips that differ at most in what a command other than 13h remembers go on so, and say the same.
-- Assumes nothing.
use mathlib.Core.Bool.{Bool, false, true}
use mathlib.Core.List.{List, [], ◌∷◌}
use mathlib.Core.Logic.{◌≢◌}
use mathlib.Core.Path.{◌∙◌, ◌≡◌, ap, refl, subst, subst₂, sym}
use Prim.Native.Nat.{◌+◌, ℕ}
use lib.Dec.{ltb}
use lib.ListN.{get_or}
use Rattle.chip.specs.Run.{Spoken, answers, onward, run, spoken_in}
use Rattle.chip.specs.Step.{Outcome, Reaction, byte_in, heard_byte, react_to, reaction, settled}
use Rattle.chip_frame.specs.Does.{frame_does, silent}
use Rattle.chip.specs.declared.Event.{Event}
use Rattle.chip.specs.declared.Event.TheVariants.{Byte, Gap, PowerOn}
use Rattle.chip_core.specs.Effect.{Effect, Memory, acknowledge, effect, entered, told}
use Rattle.chip_core.specs.Hearing.{hearing}
use Rattle.chip_core.specs.declared.Awaited.{Awaited}
use Rattle.chip_core.specs.declared.Core.{Core}
use Rattle.chip_core.specs.declared.Done.{Done}
use Rattle.chip_core.specs.declared.Phase.{Phase}
use Rattle.chip_core.specs.declared.Phase.TheVariants.{Awaiting, ModeByte, Ready, Setup}
use Rattle.chip_pages.proofs.Laws.{told-either}
use Rattle.chip_pages.specs.Pages.{bad_data, data_does, footer_of, good_data, is_last_page, length_of, next_page, page_after, page_in, page_written, program_page, ready, security_data, stored_reply}
use Rattle.chip_reply.specs.declared.Reply.{Reply}
use Rattle.chip_reply.specs.declared.Reply.TheVariants.{LastStored, Pair}
use Rattle.chip_state.specs.Refusals.{good_awaited, good_collected, good_core, good_phase, good_state, verdict_of}
use Rattle.chip_state.specs.declared.Chip.{Chip}
use Rattle.claims_good.proofs.Awaited.{good-walk}
use Rattle.claims_good.proofs.Stays.{onward-is, stays}
use Rattle.claims_good.specs.Good.{AllProper, Stands, and_event}
use Rattle.claims_verify.proofs.Remembers.{other-command, same-awaited}
use Rattle.claims_verify.proofs.Told.{good-awaited}
use Rattle.claims_verify.specs.Remembers.{NeverLookedAt, NoNewRefusal, NotLookedAt, remembering, with_difference}
use Rattle.frame.specs.Collector.{hear, heard}
use Rattle.frame.specs.Frame.{complete, payload}
use Rattle.frame.specs.declared.Header.TheVariants.{Data}
use Rattle.part.specs.Part.{page_size, place_of}
use Rattle.part.specs.declared.Part.{Part}
use Rattle.part.specs.declared.Place.{Place}
use Rattle.std.specs.Prelude.{Ok, Option}
use Rattle.words.specs.Words.{if◌then◌otherwise◌}

-- Nothing of it is judged.
state-so : (p : Part) (k : Core) (d : Bool) (f : Phase) (count head len : ℕ)
    → good_state p (entered k (remembering d f)) count head len ≡ good_state p (entered k f) count head len
unfolding good_state good_core good_phase good_collected good_awaited hearing remembering
state-so p k d ModeByte count head len = refl
state-so p k d Setup count head len = refl
state-so p k d Ready count head len = refl
state-so p k d (Awaiting w) count head len = refl

pub no-new-refusal : NoNewRefusal
unfolding verdict_of with_difference
no-new-refusal p d o = rw (state-so p o.chip.core d o.chip.core.phase o.chip.collector.len (get_or o.chip.collector.bytes 0 0) (get_or o.chip.collector.bytes 1 0))

-- Two effects: the same one, or alike but for what a command other than 13h remembers.
abbrev flagged : Bool → Effect → Effect
flagged d x = record { reply = x.reply; core = entered x.core (remembering d x.core.phase); memory = x.memory }

data Like (d : Bool) (x y : Effect) : Type 0 where
  equal : x ≡ y → Like d x y
  apart : (w : Awaited) → y.core.phase ≡ Awaiting w → w.command ≢ 0x13 → x ≡ flagged d y → Like d x y

like-if : {d : Bool} {a b x y : Effect} (t : Bool) → (t ≡ true → Like d a x) → (t ≡ false → Like d b y) → Like d (if t then a otherwise b) (if t then x otherwise y)
unfolding if◌then◌otherwise◌
like-if true f g = f refl
like-if false f g = g refl

abbrev recalling : Bool → Awaited → Awaited
recalling d w = record { command = w.command; next = w.next; last = w.last; differed = d }

abbrev recalling_core : Bool → Awaited → Core → Core
recalling_core d w k = entered k (Awaiting (recalling d w))

module _ (p : Part) (k : Core) (d : Bool) (w : Awaited) (c : w.command ≢ 0x13) (m : Memory) where
  stores-like : (n : Memory)
      → Like d (effect (told (stored_reply (recalling d w)) (next_page (recalling d w) (recalling_core d w k))) n) (effect (told (stored_reply w) (next_page w k)) n)
  unfolding stored_reply next_page is_last_page remembering if◌then◌otherwise◌
  stores-like n = go (ltb w.last (w.next + page_size))
    where
      reply : Bool → Reply
      reply t = if t then LastStored otherwise Pair acknowledge acknowledge

      go : (t : Bool) → Like d (effect (told (reply t) (if t then ready (recalling_core d w k) otherwise entered k (Awaiting (page_after (recalling d w))))) n)
          (effect (told (reply t) (if t then ready k otherwise entered k (Awaiting (page_after w)))) n)
      go true = equal refl
      go false = apart (page_after w) refl c refl

  written-like : (at : Option Place) (ds : List ℕ) → Like d (program_page p (recalling_core d w k) (recalling d w) at ds m) (program_page p k w at ds m)
  unfolding program_page
  written-like at ds =
      told-either
      (λ (e : Awaited → Core → Done). Like d (effect (e (recalling d w) (recalling_core d w k)) (page_written p at ds m)) (effect (e w k) (page_written p at ds m)))
      (page_in at m.flash) ds (λ t. stores-like _) (λ t. equal refl)

  data-like : (f : List ℕ) → good_awaited p w ≡ true → Like d (data_does p (recalling_core d w k) (recalling d w) f m) (data_does p k w f m)
  unfolding data_does good_data bad_data security_data length_of footer_of is_last_page
  data-like f good =
      like-if _ (λ t. equal refl)
      (λ t. like-if _ (λ u. equal refl)
      (λ u. like-if _ (λ x. written-like (place_of p w.next) (payload f))
      (λ x. absurd (c (other-command w.command (good-walk p w good u).command x)))))

-- The same of reactions, from a record k that awaits w.
record LikeReaction (d : Bool) (x y : Reaction) : Type 0 where
  hears : x.hears ≡ y.hears
  does : Like d x.does y.does

module _ (p : Part) (k : Core) (d : Bool) (w : Awaited) (c : w.command ≢ 0x13) (m : Memory) where
  silent-like : Like d (silent (recalling_core d w k) m) (silent (entered k (Awaiting w)) m)
  unfolding remembering
  silent-like = apart w refl c refl

  heard-like : (hs : List ℕ) {x y : Effect} → Like d x y → LikeReaction d (heard_byte hs x (recalling_core d w k) m) (heard_byte hs y (entered k (Awaiting w)) m)
  unfolding heard_byte if◌then◌otherwise◌
  heard-like hs {x} {y} l = go (complete hs)
    where
      go : (t : Bool) → LikeReaction d (if t then reaction [] x otherwise reaction hs (silent (recalling_core d w k) m)) (if t then reaction [] y otherwise reaction hs (silent (entered k (Awaiting w)) m))
      go true = record { hears = refl; does = l }
      go false = record { hears = refl; does = silent-like }

  react-like : (v : Event) (hs : List ℕ) → good_awaited p w ≡ true → LikeReaction d (react_to v p (recalling_core d w k) hs m) (react_to v p (entered k (Awaiting w)) hs m)
  unfolding react_to byte_in frame_does hearing
  react-like (Byte b) hs good = heard-like (hear Data hs b) (data-like p (entered k (Awaiting w)) d w c m (hear Data hs b) good)
  react-like Gap hs good = record { hears = refl; does = silent-like }
  react-like PowerOn hs good = record { hears = refl; does = equal refl }

-- The same of outcomes.
data Twins (o u : Outcome) : Type 0 where
  one : o ≡ u → Twins o u
  two : (d : Bool) (w : Awaited) → u.chip.core.phase ≡ Awaiting w → w.command ≢ 0x13 → o ≡ with_difference d u → Twins o u

settled-twins : (p : Part) (d : Bool) (x y : Reaction) (u : Outcome) (b : Chip) → b.collector ≡ u.chip.collector → LikeReaction d x y
    → Twins (settled (Ok tt) p x b u.memory u.room) (settled (Ok tt) p y u.chip u.memory u.room)
unfolding settled with_difference
settled-twins p d x y u b f l = go l.does
  where
    settles : Effect → Outcome
    settles z = settled (Ok tt) p (reaction y.hears z) u.chip u.memory u.room

    so : settled (Ok tt) p x b u.memory u.room ≡ settles x.does
    so = rw (f, l.hears)

    go : Like d x.does y.does → Twins (settled (Ok tt) p x b u.memory u.room) (settled (Ok tt) p y u.chip u.memory u.room)
    go (equal e) = one (so ∙ ap settles e)
    go (apart w e c z) = two d w e c (so ∙ ap settles z)

-- A record that awaits w, written with it.
awaits-so : {k : Core} {w : Awaited} → k.phase ≡ Awaiting w → k ≡ entered k (Awaiting w)
awaits-so {k} e = ap (λ (f : Phase). entered k f) e

recalls-so : {k : Core} {w : Awaited} (d : Bool) → k.phase ≡ Awaiting w → entered k (remembering d k.phase) ≡ recalling_core d w k
unfolding remembering
recalls-so {k} d e = ap (λ (f : Phase). entered k (remembering d f)) e

onward-other : (p : Part) (d : Bool) (w : Awaited) (u : Outcome) (v : Event) → Stands p u → u.chip.core.phase ≡ Awaiting w → w.command ≢ 0x13
    → Twins (onward p (with_difference d u) v) (onward p u v)
unfolding with_difference
onward-other p d w u v s e c =
    let k = u.chip.core in
    let hs : List ℕ = heard u.chip.collector in
    let l : LikeReaction d (react_to v p (entered k (remembering d k.phase)) hs u.memory) (react_to v p k hs u.memory) =
    subst₂ (λ (a b : Core). LikeReaction d (react_to v p a hs u.memory) (react_to v p b hs u.memory)) (sym (recalls-so d e)) (sym (awaits-so e))
    (react-like p k d w c u.memory v hs (good-awaited p u w s e)) in
    subst₂ Twins (sym (onward-is p (with_difference d u) v (no-new-refusal p d u ∙ s.accepted))) (sym (onward-is p u v s.accepted))
    (settled-twins p d _ _ u (with_difference d u).chip refl l)

onward-twins : (p : Part) (o u : Outcome) (v : Event) → Stands p u → Twins o u → Twins (onward p o v) (onward p u v)
onward-twins p o u v s (one e) = one (ap (λ (x : Outcome). onward p x v) e)
onward-twins p o u v s (two d w e c q) = subst (λ (x : Outcome). Twins (onward p x v) (onward p u v)) (sym q) (onward-other p d w u v s e c)

-- They say the same.
twins-say : {o u : Outcome} → Twins o u → spoken_in o ≡ spoken_in u
unfolding with_difference
twins-say (one e) = ap (λ (x : Outcome). spoken_in x) e
twins-say (two d w e c q) = ap (λ (x : Outcome). spoken_in x) q

run-twins : (p : Part) (vs : List Event) (o u : Outcome) → Stands p u → AllProper vs → Twins o u → Twins (run p vs o) (run p vs u)
unfolding run
run-twins p [] o u s q t = t
run-twins p (v ∷ vs) o u s (and_event h q) t = run-twins p vs (onward p o v) (onward p u v) (stays p u v s h) q (onward-twins p o u v s t)

answers-twins : (p : Part) (vs : List Event) (o u : Outcome) → Stands p u → AllProper vs → Twins o u → answers p vs o ≡ answers p vs u
unfolding answers
answers-twins p [] o u s q t = refl
answers-twins p (v ∷ vs) o u s (and_event h q) t =
    let n = onward-twins p o u v s t in
    ap (λ (x : Spoken). x ∷ answers p vs (onward p o v)) (twins-say n)
    ∙ ap (λ (xs : List Spoken). spoken_in (onward p u v) ∷ xs) (answers-twins p vs (onward p o v) (onward p u v) (stays p u v s h) q n)

-- Every outcome is itself with what it remembers.
differed_in : Phase → Bool
differed_in ModeByte = false
differed_in Setup = false
differed_in Ready = false
differed_in (Awaiting w) = w.differed

own-phase : (f : Phase) → remembering (differed_in f) f ≡ f
unfolding remembering differed_in
own-phase ModeByte = refl
own-phase Setup = refl
own-phase Ready = refl
own-phase (Awaiting w) = refl

own : (u : Outcome) → with_difference (differed_in u.chip.core.phase) u ≡ u
unfolding with_difference
own u =
    ap {B = Outcome}
    (λ (f : Phase). record
    { answer = u.answer; fault = u.fault; chip = record { core = entered u.chip.core f; collector = u.chip.collector }; memory = u.memory; room = u.room })
    (own-phase u.chip.core.phase)

pub never-looked-at : NeverLookedAt
unfolding differed_in
never-looked-at p d o w vs s q e c = go (run-twins p vs (with_difference d o) o s q t)
  where
    t : Twins (with_difference d o) o
    t = two d w e c refl

    go : Twins (run p vs (with_difference d o)) (run p vs o) → NotLookedAt p d o vs
    go (one x) =
        record {
          says = answers-twins p vs (with_difference d o) o s q t;
          remembered = differed_in (run p vs o).chip.core.phase;
          leaves = x ∙ sym (own (run p vs o));
          later = λ u y z. ap differed_in y;
        }
    go (two f u y z x) =
        record {
          says = answers-twins p vs (with_difference d o) o s q t;
          remembered = f;
          leaves = x;
          later = λ u' y' z'. absurd (z (ap (λ (a : Awaited). a.command) (same-awaited y y') ∙ z'));
        }
