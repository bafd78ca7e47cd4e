-- What an event does: nothing but that a byte is heard, a phase begun or power-on comes; or the work of the frame that it completes.
-- Assumes nothing.
use mathlib.Core.Bool.{Bool, false, true}
use mathlib.Core.List.{List, [], ◌∷◌}
use mathlib.Core.Path.{◌≡◌, refl}
use Prim.Native.Nat.{ℕ}
use Rattle.chip.specs.Step.{Outcome, Reaction, byte_in, heard_byte, powered_on, react_to, reaction}
use Rattle.chip_frame.specs.Does.{frame_does, mode_byte, silent}
use Rattle.chip.specs.declared.Event.{Event}
use Rattle.chip.specs.declared.Event.TheVariants.{Byte, Gap, PowerOn}
use Rattle.chip_core.specs.Effect.{Effect, Memory}
use Rattle.chip_core.specs.Hearing.{hearing}
use Rattle.chip_core.specs.declared.Core.{Core}
use Rattle.chip_core.specs.declared.Hearing.{Hearing}
use Rattle.chip_core.specs.declared.Hearing.TheVariants.{HearsCommands, HearsData, HearsNothing}
use Rattle.claims_fed.specs.Fed.{does, does_in}
use Rattle.claims_frame.specs.Collecting.{Collected, collects_on, take-up}
use Rattle.claims_good.proofs.Rooms.{reaction_of}
use Rattle.claims_runs.specs.Taken.{taken_as, taken_by, taken_in}
use Rattle.frame.specs.Collector.{hear}
use Rattle.frame.specs.Frame.{complete}
use Rattle.frame.specs.declared.Header.TheVariants.{Command, Data}
use Rattle.part.specs.declared.Part.{Part}
use Rattle.words.specs.Words.{if◌then◌otherwise◌}

-- The record after an event that completes no frame.
unfoldable pub quiet_in : Hearing → ℕ → Core → Core
quiet_in HearsNothing b k = mode_byte k b
quiet_in HearsCommands b k = k
quiet_in (HearsData w) b k = k

unfoldable pub quiet_core : Event → Core → Core
quiet_core (Byte b) k = quiet_in (hearing k.phase) b k
quiet_core Gap k = k
quiet_core PowerOn k = powered_on k

-- A reaction, by the frames ts that are taken: s where there is none, else what the frame does, x.
pub data Went (ts : List (List ℕ)) (x : List ℕ → Effect) (s : Effect) (r : Reaction) : Type 0 where
  only_heard : ts ≡ [] → r.does ≡ s → Went ts x s r
  frame_done : (f : List ℕ) → ts ≡ f ∷ [] → r ≡ reaction [] (x f) → Went ts x s r

heard-went : (hs : List ℕ) (x : List ℕ → Effect) (k : Core) (m : Memory) → Went (take-up hs).taken x (silent k m) (heard_byte hs (x hs) k m)
unfolding heard_byte take-up if◌then◌otherwise◌
heard-went hs x k m = go (complete hs)
  where
    go : (t : Bool) → Went (if◌then◌otherwise◌ {A = Collected} t (record { holds = []; taken = hs ∷ [] }) (record { holds = hs; taken = [] })).taken x (silent k m)
        (if t then reaction [] (x hs) otherwise reaction hs (silent k m))
    go true = frame_done hs refl refl
    go false = only_heard refl refl

byte-went : (h : Hearing) (p : Part) (k : Core) (hs : List ℕ) (b : ℕ) (m : Memory)
    → Went (taken_in h hs (Byte b)) (λ f. frame_does h p k f m) (silent (quiet_in h b k) m) (byte_in h p k hs b m)
unfolding byte_in taken_in taken_as collects_on quiet_in
byte-went HearsNothing p k hs b m = only_heard refl refl
byte-went HearsCommands p k hs b m = heard-went (hear Command hs b) (λ f. frame_does HearsCommands p k f m) k m
byte-went (HearsData w) p k hs b m = heard-went (hear Data hs b) (λ f. frame_does (HearsData w) p k f m) k m

none-taken : (h : Hearing) (hs : List ℕ) (v : Event) → taken_as Command hs v ≡ [] → taken_as Data hs v ≡ [] → taken_in h hs v ≡ []
unfolding taken_in
none-taken HearsNothing hs v c d = refl
none-taken HearsCommands hs v c d = c
none-taken (HearsData w) hs v c d = d

pub went : (p : Part) (o : Outcome) (v : Event)
    → Went (taken_by o v) (λ f. does_in p f o.chip.core o.memory) (silent (quiet_core v o.chip.core) o.memory) (reaction_of p o v)
unfolding reaction_of react_to does_in does quiet_core taken_as
went p o (Byte b) = byte-went _ p _ _ b _
went p o Gap = only_heard (none-taken _ _ Gap refl refl) refl
went p o PowerOn = only_heard (none-taken _ _ PowerOn refl refl) refl
